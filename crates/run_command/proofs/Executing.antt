-- How the parts of `run` make up its answer, and those of any run of a source that is planned over a datapath.
use Rattle.std.proofs.Common.{◌≡◌, refl, sym, ap, ap₂, subst, ◌∙◌, arith, inl, inr, ⊎_elim, ◌+◌, ℕ, List, [], ◌∷◌, map}
use Rattle.lists.specs.Rows.{Rows}
use Rattle.cycle_sim.specs.Machine.{Snapshot, state_of}
use Rattle.cycle_sim.specs.Microcode.{micro_of, inputs_of}
use Rattle.datapath.specs.declared.types.Datapath.{Datapath}
use Rattle.desk_core.specs.View.{Name, Content, View}
use Rattle.desk_core.specs.Desk.{WhereSpecified, FaultsNeverFall, IsUnchanged, content_of}
use Rattle.desk_core.proofs.DeskLemmas.{never_fall_trans}
use Rattle.fix_word.specs.declared.types.SigType.{SigType}
use Rattle.fix_word.specs.declared.types.SigType.TheVariants as sig
use Rattle.loop_expand.specs.GraphFor.{IsGraphFor}
use Rattle.micro_image.specs.declared.image.Image.{Image as MicroImage}
use Rattle.micro_image.specs.Fields.{Microprogram, microprogram_of}
use Rattle.micro_image.specs.Run.{State, IsRunOut}
use Rattle.micro_image.specs.declared.conflict.Conflict.{Conflict as ConflictValue}
use Rattle.micro_image.proofs.Streams.{length-spread}
use Rattle.plan_core.specs.declared.plan.Plan.{Plan}
use Rattle.plan_soundness.specs.ImageOf.{IsImageOf, width_of}
use Rattle.sample_io.specs.declared.channel.Channel.{Channel}
use Rattle.sample_io.specs.Channels.{IsStream, channel_of}
use Rattle.sample_io.specs.Samples.{printed}
use Rattle.sample_loops.specs.Machines.{channels_of, RunsRows, PutsRows, StopsInLast, IsConflictInLast}
use Rattle.sample_loops.specs.Private.MachineLaws.{runs_clear}
use Rattle.sample_loops.specs.Streams.{IsRunThrough}
use Rattle.sample_loops.specs.declared.stream.StreamFault.{StreamFault}
use Rattle.sample_loops.specs.declared.stream.StreamFault.TheVariants as stream
use Rattle.signal_graph.specs.declared.graph.Graph.{Graph}
use Rattle.silage_syntax.specs.Tree.{Program}
use Rattle.silage_meaning.specs.Value.{Words}
use Rattle.silage_meaning.specs.Solves as meaning
use Rattle.silc_files.specs.Endings.{IsAmong}
use Rattle.silc_files.specs.Limits.{text_limit, samples_limit}
use Rattle.silc_files.specs.Reading.{OnlyReads}
use Rattle.silc_files.proofs.Endings.{unchanged_still}
use Rattle.plan_commands.specs.Compiling.{IsMicrocodeOf}
use Rattle.plan_commands.specs.Headline.{RunsTheSolution}
use Rattle.plan_commands.specs.Planning.{IsReadPlan}
use Rattle.plan_commands.specs.Plans.{IsPlannedOver}
use Rattle.plan_commands.specs.Refusals.{IsRefusal, IsRefused, IsErrorOf, IsPlanError}
use Rattle.silc_files.specs.Sources.{IsProgramIn, HasOneSolution}
use Rattle.plan_commands.specs.declared.planning.Planned.{Planned}
use Rattle.plan_commands.proofs.Compiled.{runs_the_solution}
use Rattle.plan_commands.proofs.Errors.{error_still}
use Rattle.sample_commands.specs.Eval.{type_channel, program_channels, IsSolutionRows, IsSolutionRowsBy, IsEvalDoneBy}
use Rattle.sample_commands.specs.Loaded.{IsMachineOf}
use Rattle.sample_commands.specs.Sim.{HasRun}
use Rattle.run_command.specs.Run.{HasPlanInBy, HasSomePlanBy, AreSamplesUnreadBy, IsNotRunBy, IsRunStoppedBy}
use Rattle.run_command.specs.Run.{IsRunErrorBy, IsExecuted, IsRunError}
use Rattle.sample_commands.specs.Samples.{AreSamples, IsEndedEarly}
use Rattle.sample_commands.specs.StreamEnds.{status_of}
use Rattle.run_command.specs.Private.Executing.{RunsRowsOf, IsPlannedMachine, IsCompiledMachine}
use Rattle.sample_commands.specs.Streaming.{IsOpened, IsNotOpened, RunsFiles, IsNotRunOver}
use Rattle.statuses.specs.declared.status.SampleFault.TheVariants as sample_fault
use Rattle.statuses.specs.declared.status.Status.{Status}
use Rattle.statuses.specs.declared.status.Status.TheVariants.{Done, Memory, Desk}
use Rattle.statuses.specs.declared.status.Status.TheVariants.{Image, Samples, Conflict}
use Rattle.sample_commands.proofs.EarlyEnds.{ended_early, run_finished, run_samples_are, run_stream_is, run_put}
use Rattle.sample_commands.proofs.EarlyEnds.{opened_from, unopened_from, not_created_from, unopened_still, ended_still}
use Rattle.sample_commands.proofs.Simulating.{fresh_puts, fresh_meets, fresh_run, not_stopped}
use Rattle.sample_commands.proofs.Solving.{program_stream, eval_done_still}

-- neither want of memory nor a fault of the desk, and no refusal
no_error :
    (Tells : Status → (source datapath : List ℕ) → Type 0) (src datapath : Name) (old new : View) (status : Status)
    → IsErrorOf IsRefusal Tells src datapath old new status
    → (status ≡ Memory → ⊥)
    → (status ≡ Desk → ⊥)
    → IsRefusal status
no_error Tells src datapath old new status h not_memory not_desk =
    ⊎_elim (λ m. absurd (not_memory m.0)) (λ rest. ⊎_elim (λ d. absurd (not_desk d.0)) (λ r. r.0) rest) h

same_channel : (ty : SigType) → channel_of (width_of ty) ≡ type_channel ty
same_channel (sig.Fix t) = refl
same_channel sig.Bool = refl

same_channels : (types : List SigType) → map channel_of (map width_of types) ≡ map type_channel types
same_channels [] = refl
same_channels (ty ∷ types) = ap₂ ◌∷◌ (same_channel ty) (same_channels types)

-- the channels of a machine whose input words have the widths of the graph's
pub its_channels : (p : Program) (g : Graph)
    → IsGraphFor p g
    → (types : List SigType)
    → types ≡ g.inputs
    → (inputs : List ℕ)
    → inputs ≡ map width_of types
    → channels_of inputs ≡ program_channels p
its_channels p g keeps types same inputs widths =
    ap (map channel_of) widths ∙ same_channels types ∙ ap (map type_channel) (same ∙ keeps.keeps.inputs)

-- rows of the channels of a program are valid rows of it
pub valid_stream : (p : Program) (g : Graph)
    → IsGraphFor p g
    → (rows : Rows)
    → IsStream (program_channels p) rows
    → meaning.IsStream p rows
valid_stream p g keeps rows is =
    program_stream p g keeps rows
    (subst (λ cs. IsStream cs rows) (sym (ap (map type_channel) keeps.keeps.inputs)) is)

-- the microcode of the plan was made
module _ (src datapath : Name) (old new : View) (planned : Planned) (plan : IsReadPlan src datapath old new planned)
    (microcode : Content) (made : IsMicrocodeOf planned.path planned.plan microcode) where
  -- its bytes spell the image of the plan and no other
  pub compiled_machine : (machine : Snapshot)
      → IsMachineOf microcode machine
      → IsCompiledMachine src datapath old new machine
  compiled_machine machine is =
      let same : made.image ≡ is.image = sym (made.spelled.unique is.image is.spells) in
      let image_of : IsImageOf planned.path planned.plan is.image =
      subst (IsImageOf planned.path planned.plan) same made.image_of in
      let runs : RunsTheSolution plan.program is.image =
      subst (RunsTheSolution plan.program) same
      (runs_the_solution plan.program plan.graph made.image plan.keeps
      (made.runs plan.graph plan.keeps.sound plan.plan)) in
      record {
        planned = record {
          read = plan.read;
          fresh = is.fresh;
          program = plan.program;
          source = λ files at. record {
            read = (plan.specified files at).has.read;
            unique = (plan.specified files at).unique;
            solved = plan.keeps.keeps.one_solution;
          };
          path = planned.path;
          plan = planned.plan;
          planned = plan.specified;
          channels =
              its_channels plan.program plan.graph plan.keeps planned.plan.inputs plan.plan.inputs
              (inputs_of machine.code)
              (ap inputs_of is.code ∙ image_of.inputs);
          valid = valid_stream plan.program plan.graph plan.keeps;
          runs =
              subst (λ (m : Microprogram). RunsRowsOf meaning.out plan.program m) (sym (ap micro_of is.code)) runs;
        };
        image = is.image;
        code = is.code;
        image_of = image_of;
      }

-- The machine of a plan was made, and then it ran over the files. `Tells` says what a status tells of a source and a
-- datapath, `IsPlanned` which plan is made, and `rows_of` which rows of the program's solution the machine puts.
module _ {P : Type 0} {Reads : Name → Type 0} (Tells : Status → (source datapath : List ℕ) → Type 0)
    (IsPlanned : (source datapath : List ℕ) → Program → Datapath → P → Type 0)
    (rows_of : Program → Words → (count : ℕ) → Rows) (src datapath samples out : Name) (old mid new : View)
    (machine : Snapshot) (first : OnlyReads Reads old mid)
    (is : IsPlannedMachine IsPlanned rows_of src datapath old mid machine) where
  abbrev micro : Microprogram
  micro = micro_of machine.code

  abbrev channels : List Channel
  channels = channels_of (inputs_of machine.code)

  abbrev IsError : Status → Type 0
  IsError = IsRunErrorBy IsPlanned src datapath Tells (IsSolutionRowsBy rows_of) samples out old new

  its_stream : (rows : Rows) → IsStream channels rows → meaning.IsStream is.program rows
  its_stream rows valid = is.valid rows (subst (λ cs. IsStream cs rows) is.channels valid)

  -- the rows of the run are those of the program's one solution
  solution_rows : (rows puts : Rows)
      → IsStream channels rows
      → PutsRows micro (state_of machine) rows puts
      → IsSolutionRowsBy rows_of is.program rows puts
  solution_rows rows puts valid h =
      let (words, one, run) = is.runs rows (its_stream rows valid) in
      let put = fresh_puts machine is.fresh rows puts h in
      record { words = words; one = one; puts_are = put.put ∙ sym run.put }

  -- and it has no conflict
  no_conflict : (after : State) (rows : Rows) (conflict : ConflictValue)
      → IsStream channels rows
      → StopsInLast micro (state_of machine) rows conflict after
      → ⊥
  no_conflict after rows conflict valid h =
      let (words, one, run) = is.runs rows (its_stream rows valid) in
      let met = (fresh_meets machine is.fresh after rows conflict h).first in
      run.clear conflict.cycle (omega (arith, met.within, length-spread micro.period rows)) conflict.kind
      conflict.place
      met.there.there

  -- SAMPLES or OUT could not be opened
  run_not_opened : IsNotOpened samples out mid new → IsError Desk
  run_not_opened = ⊎_elim
      (λ unread. inl (inr (record {
        unchanged = unchanged_still old mid new unread.0 first.unchanged;
        unopened =
            unopened_from samples datapath text_limit (HasSomePlanBy IsPlanned src datapath) old mid new
            first.never_fall is.read
            (λ files at. (is.program, is.path, is.plan, is.planned files at)) unread.0 unread.1;
      })))
      (λ not. inr (record {
        program = is.program;
        path = is.path;
        plan = is.plan;
        planned = is.planned;
        ended = inl (not_created_from samples out old mid new first.unchanged.files first.never_fall not);
      }))

  -- it ran to the end: OUT has the rows, which the machine put
  pub record RanThrough (after : Snapshot) : Type 0 where
    pub solved : IsEvalDoneBy rows_of src samples out old new
    pub same : solved.program ≡ is.program
    pub puts : Rows
    pub text_is : solved.text ≡ printed puts
    pub code : after.code ≡ machine.code
    pub given : RunsRows micro (state_of machine) solved.stream puts (state_of after)

  module _ (after : Snapshot) (ending : Status) (ran : RunsFiles samples out machine after mid new ending) where
    fall : FaultsNeverFall old ran.mid
    fall = never_fall_trans old mid ran.mid first.never_fall ran.never_fall

    opened : IsOpened samples out old ran.mid
    opened = opened_from samples out old mid ran.mid first.unchanged.files ran.opened

    stopped_run : (fault : StreamFault)
        → IsEndedEarly samples out channels (IsSolutionRowsBy rows_of is.program) (λ rows conflict. ⊥) old new fault
        → IsRunStoppedBy IsPlanned src datapath (IsSolutionRowsBy rows_of) samples out old new fault
    stopped_run fault h = record {
      program = is.program;
      path = is.path;
      plan = is.plan;
      planned = is.planned;
      ended =
          subst (λ cs.
          IsEndedEarly samples out cs (IsSolutionRowsBy rows_of is.program) (λ rows conflict. ⊥) old new fault)
          is.channels h;
    }

    run_stopped : (fault : StreamFault)
        → IsEndedEarly samples out channels (IsSolutionRowsBy rows_of is.program) (λ rows conflict. ⊥) old new fault
        → IsError (status_of fault)
    run_stopped stream.Desk h = inr (stopped_run stream.Desk h)
    run_stopped (stream.Row fault) h = stopped_run (stream.Row fault) h
    run_stopped stream.TooLong h = stopped_run stream.TooLong h
    run_stopped (stream.Conflict conflict) h = absurd h.met

    run_through :
        IsRunThrough (samples_limit + 1) channels
        (λ rows puts. RunsRows micro (state_of machine) rows puts (state_of after)) ran.mid new
        → RanThrough after
    run_through h =
        let valid = run_stream_is samples out old ran.mid new fall opened ran.only channels _ h in
        let rows =
        solution_rows h.run.rows h.run.put.puts valid
        (runs_clear micro (state_of machine) (state_of after) h.run.rows h.run.put.puts h.run.put.given) in
        record {
          solved = record {
            finished = run_finished samples out old ran.mid new fall opened ran.only channels _ h;
            program = is.program;
            stream = h.run.rows;
            text = printed h.run.put.puts;
            solution = record { words = rows.words; one = rows.one; text_is = ap printed rows.puts_are };
            specified = λ files at. record {
              source = is.source files at;
              samples_are = subst (λ cs. AreSamples cs (content_of (files samples)) h.run.rows) is.channels
                  (run_samples_are samples out old ran.mid new fall opened ran.only channels _ h
                  files at);
            };
            put = run_put samples out old ran.mid new fall opened ran.only channels _ h;
          };
          same = refl;
          puts = h.run.put.puts;
          text_is = refl;
          code = ran.code;
          given = h.run.put.given;
        }

    run_ended : (ending ≡ Done → ⊥) → IsError ending
    run_ended not_done = ⊎_elim
        (λ done. absurd (not_done done.0))
        (λ stopped.
        subst IsError (sym stopped.1)
        (run_stopped stopped.0
        (ended_early samples out old ran.mid new fall opened ran.only channels (PutsRows micro (state_of machine))
        (IsSolutionRowsBy rows_of is.program)
        (λ rows conflict. StopsInLast micro (state_of machine) rows conflict (state_of after))
        (λ rows conflict. ⊥) solution_rows (no_conflict (state_of after)) stopped.0 stopped.2)))
        ran.ends

  pub ran_through : (after : Snapshot) → RunsFiles samples out machine after mid new Done → RanThrough after
  ran_through after ran =
      ⊎_elim (λ done. run_through after Done ran done.1) (λ stopped. absurd (not_stopped stopped.0 stopped.1)) ran.ends

  pub run_error_by : (ending : Status) → IsNotRunOver samples out machine mid new ending → IsError ending
  run_error_by ending = ⊎_elim
      (λ desk. subst IsError (sym desk.0) (run_not_opened desk.1))
      (λ ran. run_ended ran.0 ending ran.2 ran.1)

-- the machine of compiled microcode was made, and then it ran over the files
module _ (src datapath samples out : Name) (old mid new : View) (machine : Snapshot)
    (first : OnlyReads (IsAmong (src ∷ datapath ∷ [])) old mid)
    (compiled : IsCompiledMachine src datapath old mid machine) where
  pub run_done : (after : Snapshot)
      → RunsFiles samples out machine after mid new Done
      → IsExecuted src datapath samples out after old new
  run_done after ran =
      let its =
      ran_through IsRefused IsPlannedOver meaning.out src datapath samples out old mid new machine first
      compiled.planned after ran in
      record {
        solved = its.solved;
        path = compiled.planned.path;
        plan = compiled.planned.plan;
        planned = λ files at.
            subst (λ (p : Program).
            HasPlanInBy IsPlannedOver src datapath p compiled.planned.path compiled.planned.plan files)
            (sym its.same) (compiled.planned.planned files at);
        image = compiled.image;
        image_of = compiled.image_of;
        ran =
            subst (λ (text : Content). HasRun compiled.image its.solved.stream after text) (sym its.text_is)
            (fresh_run compiled.image machine after its.solved.stream its.puts compiled.planned.fresh compiled.code
            its.code its.given);
      }

  pub run_error : (ending : Status)
      → IsNotRunOver samples out machine mid new ending
      → IsRunError src datapath samples out old new ending
  run_error =
      run_error_by IsRefused IsPlannedOver meaning.out src datapath samples out old mid new machine first
      compiled.planned

-- why there is no plan is why a run ends
module _ {P : Type 0} (Tells : Status → (source datapath : List ℕ) → Type 0)
    (IsPlanned : (source datapath : List ℕ) → Program → Datapath → P → Type 0)
    (gives : Program → (stream puts : Rows) → Type 0) (src datapath samples out : Name) (old new : View) where
  pub no_plan_by : (status : Status)
      → IsErrorOf IsRefusal Tells src datapath old new status
      → IsRunErrorBy IsPlanned src datapath Tells gives samples out old new status
  no_plan_by Desk h = inl (inl h)
  no_plan_by Done h = absurd (no_error Tells src datapath old new Done h (λ e. cc) (λ e. cc))
  no_plan_by (Image fault) h = absurd (no_error Tells src datapath old new (Image fault) h (λ e. cc) (λ e. cc))
  no_plan_by (Samples (sample_fault.Row line at)) h =
      absurd (no_error Tells src datapath old new (Samples (sample_fault.Row line at)) h (λ e. cc) (λ e. cc))
  no_plan_by (Samples sample_fault.TooLong) h =
      absurd (no_error Tells src datapath old new (Samples sample_fault.TooLong) h (λ e. cc) (λ e. cc))
  no_plan_by (Conflict conflict) h =
      absurd (no_error Tells src datapath old new (Conflict conflict) h (λ e. cc) (λ e. cc))
  no_plan_by error h = h

pub no_plan : (src datapath samples out : Name) (old new : View) (status : Status)
    → IsPlanError src datapath old new status
    → IsRunError src datapath samples out old new status
no_plan = no_plan_by IsRefused IsPlannedOver IsSolutionRows

-- a report of the error leaves the answer of a run as it is
module _ {P : Type 0} (Tells : Status → (source datapath : List ℕ) → Type 0)
    (IsPlanned : (source datapath : List ℕ) → Program → Datapath → P → Type 0)
    (gives : Program → (stream puts : Rows) → Type 0) (src datapath samples out : Name) (old mid new : View)
    (same : IsUnchanged mid new) (later : FaultsNeverFall mid new) (before : FaultsNeverFall old mid) where
  unread_still : AreSamplesUnreadBy IsPlanned src datapath samples old mid
      → AreSamplesUnreadBy IsPlanned src datapath samples old new
  unread_still h = record {
    unchanged = unchanged_still old mid new same h.unchanged;
    unopened =
        unopened_still samples out old mid new same later before datapath text_limit
        (HasSomePlanBy IsPlanned src datapath)
        h.unopened;
  }

  still : (status : Status)
      → IsErrorOf IsRefusal Tells src datapath old mid status
      → IsErrorOf IsRefusal Tells src datapath old new status
  still = error_still IsRefusal Tells src datapath old mid new same later before

  not_run_still : IsNotRunBy IsPlanned src datapath Tells samples old mid Desk
      → IsNotRunBy IsPlanned src datapath Tells samples old new Desk
  not_run_still h = ⊎_elim (λ early. inl (still Desk early)) (λ unread. inr (unread_still unread)) h

  stopped_still : (fault : StreamFault)
      → IsRunStoppedBy IsPlanned src datapath gives samples out old mid fault
      → IsRunStoppedBy IsPlanned src datapath gives samples out old new fault
  stopped_still fault h = record {
    program = h.program;
    path = h.path;
    plan = h.plan;
    planned = h.planned;
    ended =
        ended_still samples out old mid new same later before (program_channels h.program) (gives h.program)
        (λ rows conflict. ⊥) fault h.ended;
  }

  pub run_reported_by : (status : Status)
      → IsRunErrorBy IsPlanned src datapath Tells gives samples out old mid status
      → IsRunErrorBy IsPlanned src datapath Tells gives samples out old new status
  run_reported_by Desk h =
      ⊎_elim (λ early. inl (not_run_still early)) (λ late. inr (stopped_still stream.Desk late)) h
  run_reported_by (Samples (sample_fault.Row line at)) h =
      stopped_still (stream.Row (record { line = line; at = at })) h
  run_reported_by (Samples sample_fault.TooLong) h = stopped_still stream.TooLong h
  run_reported_by Done h = h
  run_reported_by (Image fault) h = h
  run_reported_by (Conflict conflict) h = h
  run_reported_by error h = still error h

module _ (src datapath samples out : Name) (old mid new : View) (same : IsUnchanged mid new)
    (later : FaultsNeverFall mid new) (before : FaultsNeverFall old mid) where
  pub executed_still : (machine : Snapshot)
      → IsExecuted src datapath samples out machine old mid
      → IsExecuted src datapath samples out machine old new
  executed_still machine h = record {
    solved = eval_done_still src samples out old mid new same later before meaning.out h.solved;
    path = h.path;
    plan = h.plan;
    planned = h.planned;
    image = h.image;
    image_of = h.image_of;
    ran = h.ran;
  }

  pub run_reported : (status : Status)
      → IsRunError src datapath samples out old mid status
      → IsRunError src datapath samples out old new status
  run_reported =
      run_reported_by IsRefused IsPlannedOver IsSolutionRows src datapath samples out old mid new same later before
