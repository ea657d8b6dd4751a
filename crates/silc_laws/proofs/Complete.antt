-- Where the files are as a command asks and no fault of its own rose, it is done or memory ran out. Where its samples
-- stop it, it answers why, or memory ran out.
use Rattle.std.proofs.Common.{◌≡◌, ◌∙◌, refl, ap, subst, inl, inr, ⊎_elim, ℕ, List, [], Option, Some, None, arith}
use Rattle.std.specs.Prelude.{String}
use Rattle.std.specs.declared.alloc.Global.{Global}
use Rattle.command_words.specs.Command.{Command, compile, schedule, list, sim, eval, run, demo, stages, pipe, frame}
use Rattle.command_words.specs.Command.{net}
use Rattle.command_words.specs.Command.{IsCommandIn, IsAllowed, IsCompile, IsSchedule, IsList, IsSim, IsEval, IsRun}
use Rattle.command_words.specs.Command.{IsDemo, IsStages, IsPipe, IsFrame, IsNet}
use Rattle.datapath.specs.declared.types.Datapath.{Datapath}
use Rattle.desk_core.specs.View.{Name, Content, Files, View}
use Rattle.desk_core.specs.Desk.{WhereSpecified, content_of}
use Rattle.source_faults.specs.Faults.{HasProgram}
use Rattle.rate_unfold.specs.Frames.{rates}
use Rattle.frame_command.proofs.Complete.{frame_complete}
use Rattle.lists.specs.Rows.{Rows}
use Rattle.net_command.proofs.NetAnswers.{net_complete}
use Rattle.micro_image.specs.declared.conflict.Conflict.{Conflict as ConflictValue}
use Rattle.micro_image.specs.declared.image.Image.{Image as MicroImage}
use Rattle.micro_image.specs.Fields.{microprogram_of}
use Rattle.plan_commands.specs.Compile.{IsAnswer}
use Rattle.plan_commands.specs.Plans.{IsPlanOver}
use Rattle.plan_commands.proofs.Complete.{compile_complete, schedule_complete}
use Rattle.plan_core.specs.declared.plan.Plan.{Plan}
use Rattle.sample_commands.specs.Eval.{program_channels}
use Rattle.sample_commands.specs.Samples.{AreSamples}
use Rattle.sample_commands.specs.Sim.{HasImage, HasSomeImage}
use Rattle.sample_commands.specs.StreamEnds.{status_of}
use Rattle.silc.specs.declared.kept.Kept.{Kept}
use Rattle.sample_io.specs.declared.channel.Channel.{Channel}
use Rattle.sample_loops.specs.Machines.{channels_of}
use Rattle.sample_loops.specs.declared.stream.StreamFault.{StreamFault}
use Rattle.sample_loops.specs.declared.stream.StreamFault.TheVariants as stream
use Rattle.silage_syntax.specs.Tree.{Program}
use Rattle.silc.specs.Demo.{IsCascadePlannable}
use Rattle.silc.specs.Endings.{IsEnding}
use Rattle.silc.specs.Runs.{IsNetAnswer}
use Rattle.silc.proofs.Allowed.{allowed_rates}
use Rattle.silc.proofs.Complete.{list_complete, demo_complete}
use Rattle.silc_laws.specs.Complete.{Specifies, ArePlannable, HavePlan, HasImageOf, HasClearStream, HasProgramStream}
use Rattle.silc_laws.specs.Complete.{HasPlannedStream, StopsSim, StopsEval, StopsPlanned, IsAccepted, IsThisOrMemory}
use Rattle.silc_laws.specs.Complete.{IsDoneOrMemory, IsEndedBySamples, IsEndedByRun}
use Rattle.silc_laws.specs.Complete.{AreStageable, HasStagedStream, StopsStaged, AreFrameable, HasSomeNetStream}
use Rattle.silc_laws.specs.Faults.{HasNoFaultRisen}
use Rattle.silc_laws.proofs.Channels.{image_channels, channels_of_program}
use Rattle.silc_laws.proofs.Compiled.{compiled_plan}
use Rattle.silc_laws.proofs.Conflicts.{clear_apart, meets_once}
use Rattle.silc_laws.proofs.Laws.{answer_law, schedule_law, list_law, demo_law, sim_law, eval_law, run_law}
use Rattle.silc_laws.proofs.Laws.{stages_law, pipe_law, frame_law, net_law}
use Rattle.silc_laws.proofs.SampleEnds.{EndsBy, RunsImage, RunsProgram, samples_end, sim_ends, eval_ends, run_ends}
use Rattle.silc_laws.proofs.SampleEnds.{pipe_ends}
use Rattle.silc_laws.proofs.StreamEnds.{IsEnd, one_end, status_at}
use Rattle.overlap_plan.specs.declared.plan.StagePlan.{StagePlan}
use Rattle.stage_commands.specs.StagePlans.{IsStagedOver}
use Rattle.stage_commands.proofs.Complete.{stages_complete}
use Rattle.statuses.specs.declared.status.SampleFault.TheVariants as sample_fault
use Rattle.statuses.specs.declared.status.Status.{Status}
use Rattle.statuses.specs.declared.status.Status.TheVariants.{Done}

-- memory ran out, or the end is the one that the files have
ends_so : (Ends : Option StreamFault → Type 0)
    → ((one other : Option StreamFault) → Ends one → Ends other → one ≡ other)
    → (end : Option StreamFault)
    → Ends end
    → (status : Status)
    → EndsBy Ends status
    → IsThisOrMemory (status_at end) status
ends_so Ends one end its status =
    ⊎_elim (λ memory. inr memory) (λ h. inl (h.1 ∙ ap status_at (one h.0 end h.2 its)))

-- only the samples, or a conflict, stop the run
by_run :
    (end : ℕ) (channels : List Channel) (clear : Rows → Type 0) (meets : Rows → ConflictValue → Type 0)
    (bytes : Content) (status : Status)
    → EndsBy (IsEnd end channels clear meets bytes) status
    → IsEndedByRun status
by_run end channels clear meets bytes status (inl memory) = inl (inl (inr memory))
by_run end channels clear meets bytes status (inr (None, is, ends)) = inl (inl (inl is))
by_run end channels clear meets bytes status (inr (Some stream.Desk, is, ends)) = absurd ends
by_run end channels clear meets bytes status (inr (Some (stream.Row fault), is, ends)) =
    inl (inr (sample_fault.Row fault.line fault.at, is))
by_run end channels clear meets bytes status (inr (Some stream.TooLong, is, ends)) =
    inl (inr (sample_fault.TooLong, is))
by_run end channels clear meets bytes status (inr (Some (stream.Conflict conflict), is, ends)) = inr (conflict, is)

-- only the samples stop the run of a program, which meets no conflict
by_samples : (bytes : Content) (program : Program) (status : Status)
    → EndsBy (RunsProgram bytes program) status
    → IsEndedBySamples status
by_samples bytes program status (inl memory) = inl (inr memory)
by_samples bytes program status (inr (None, is, ends)) = inl (inl is)
by_samples bytes program status (inr (Some stream.Desk, is, ends)) = absurd ends
by_samples bytes program status (inr (Some (stream.Row fault), is, ends)) =
    inr (sample_fault.Row fault.line fault.at, is)
by_samples bytes program status (inr (Some stream.TooLong, is, ends)) = inr (sample_fault.TooLong, is)
by_samples bytes program status (inr (Some (stream.Conflict conflict), is, ends)) = absurd ends.2

module _ (words : List (String Global)) (old new : View) (kept : Kept) (status : Status)
    (ending : (command : Command)
    → IsCommandIn words command
    → IsEnding command old new kept status) where
  pub compile_law : (src datapath out : Name)
      → IsCompile words src datapath out
      → HasNoFaultRisen (compile src datapath out) old new
      → Specifies (ArePlannable src datapath) old
      → IsDoneOrMemory status
  compile_law src datapath out form none files =
      compile_complete src datapath old new files.files files.specified files.so (λ r. none (inl (src, inl refl, r)))
      (λ r. none (inl (datapath, inr (inl refl), r)))
      out (λ r. none (inr (inl (out, refl, r)))) status
      (answer_law words old new kept status ending src datapath out form)

  pub compile_plan_law : status ≡ Done
      → (src datapath out : Name)
      → IsCompile words src datapath out
      → (path : Datapath) (plan : Plan)
      → Specifies (HavePlan src datapath path plan) old
      → WhereSpecified new (HasImageOf out path plan)
  compile_plan_law done src datapath out form path plan given =
      compiled_plan src datapath out old new
      (subst (λ (s : Status). IsAnswer src datapath out old new s) done
      (answer_law words old new kept status ending src datapath out form))
      given.files given.specified path plan given.so

  pub plan_text_law : (src datapath : Name)
      → IsSchedule words src datapath
      → HasNoFaultRisen (schedule src datapath) old new
      → Specifies (ArePlannable src datapath) old
      → IsDoneOrMemory status
  plan_text_law src datapath form none files =
      schedule_complete src datapath old new files.files files.specified files.so (λ r. none (inl (src, inl refl, r)))
      (λ r. none (inl (datapath, inr (inl refl), r)))
      (λ r. none (inr (inr (refl, r)))) status (schedule_law words old new kept status ending src datapath form)

  pub listing_law : (mic : Name)
      → IsList words mic
      → HasNoFaultRisen (list mic) old new
      → Specifies (HasSomeImage mic) old
      → IsDoneOrMemory status
  listing_law mic form none files =
      list_complete mic old new files.files files.specified files.so.0 files.so.1 (λ r. none (inl (mic, inl refl, r)))
      (λ r. none (inr (inr (refl, r)))) status
      (list_law words old new kept status ending mic form)

  pub demonstration_law : (sections samples : ℕ)
      → IsDemo words sections samples
      → HasNoFaultRisen (demo sections samples) old new
      → IsCascadePlannable sections
      → IsDoneOrMemory status
  demonstration_law sections samples form none plannable =
      demo_complete sections samples old new kept plannable (λ r. none (inr (inr (refl, r)))) status
      (demo_law words old new kept status ending sections samples form)

  -- a run of MIC's image over SAMPLES comes to the end that their bytes have
  module _ (mic samples out : Name) (form : IsSim words mic samples out)
      (none : HasNoFaultRisen (sim mic samples out) old new) (files : Files) (specified : old.files ≡ Some files)
      (image : MicroImage) (has : HasImage mic files image) where
    sim_so : (end : Option StreamFault)
        → RunsImage (content_of (files samples)) image end
        → IsThisOrMemory (status_at end) status
    sim_so end its =
        ends_so (RunsImage (content_of (files samples)) image)
        (one_end samples_end (channels_of image.inputs) (image_channels image has.spells.valid)
        (content_of (files samples)) _
        _
        (clear_apart (microprogram_of image) []) (meets_once (microprogram_of image) [])) end its status
        (sim_ends mic samples out old new kept files specified none image has status
        (sim_law words old new kept status ending mic samples out form))

    sim_ended : IsEndedByRun status
    sim_ended =
        by_run samples_end (channels_of image.inputs) _ _ (content_of (files samples)) status
        (sim_ends mic samples out old new kept files specified none image has status
        (sim_law words old new kept status ending mic samples out form))

  pub sim_end_law : (mic samples out : Name)
      → IsSim words mic samples out
      → HasNoFaultRisen (sim mic samples out) old new
      → Specifies (HasSomeImage mic) old
      → IsEndedByRun status
  sim_end_law mic samples out form none given =
      sim_ended mic samples out form none given.files given.specified given.so.0 given.so.1

  pub simulation_law : (mic samples out : Name)
      → IsSim words mic samples out
      → HasNoFaultRisen (sim mic samples out) old new
      → Specifies (HasClearStream mic samples) old
      → IsDoneOrMemory status
  simulation_law mic samples out form none given =
      let so = given.so in
      let are = so.has.samples_are in
      let few = are.within in
      sim_so mic samples out form none given.files given.specified so.image so.has.microcode None
      (record { within = omega (arith, few); stream = so.stream; rows_of = are.rows; runs = so.clear })

  pub sim_stop_law : (mic samples out : Name)
      → IsSim words mic samples out
      → HasNoFaultRisen (sim mic samples out) old new
      → (fault : StreamFault)
      → Specifies (StopsSim mic samples fault) old
      → IsThisOrMemory (status_of fault) status
  sim_stop_law mic samples out form none fault given =
      let (image, has, stops) = given.so in
      sim_so mic samples out form none given.files given.specified image has (Some fault) stops

  -- an evaluation of SRC's program comes to the end that the bytes of SAMPLES have
  module _ (src samples out : Name) (form : IsEval words src samples out)
      (none : HasNoFaultRisen (eval src samples out) old new) (files : Files) (specified : old.files ≡ Some files)
      (program : Program) (has : HasProgram (content_of (files src)) program) where
    eval_so : (end : Option StreamFault)
        → RunsProgram (content_of (files samples)) program end
        → IsThisOrMemory (status_at end) status
    eval_so end its =
        ends_so (RunsProgram (content_of (files samples)) program)
        (one_end samples_end (program_channels program) (channels_of_program (content_of (files src)) program has)
        (content_of (files samples)) _ _ (λ some more conflict runs met. met)
        (λ some more conflict other met meet. absurd met))
        end its status
        (eval_ends src samples out old new files specified program has none status
        (eval_law words old new kept status ending src samples out form))

    eval_ended : IsEndedBySamples status
    eval_ended =
        by_samples (content_of (files samples)) program status
        (eval_ends src samples out old new files specified program has none status
        (eval_law words old new kept status ending src samples out form))

  pub eval_end_law : (src samples out : Name)
      → IsEval words src samples out
      → HasNoFaultRisen (eval src samples out) old new
      → Specifies (IsAccepted src) old
      → IsEndedBySamples status
  eval_end_law src samples out form none given =
      eval_ended src samples out form none given.files given.specified given.so.0 given.so.1

  pub evaluation_law : (src samples out : Name)
      → IsEval words src samples out
      → HasNoFaultRisen (eval src samples out) old new
      → Specifies (HasProgramStream src samples) old
      → IsDoneOrMemory status
  evaluation_law src samples out form none given =
      let so = given.so in
      let few = so.samples_are.within in
      eval_so src samples out form none given.files given.specified so.program so.read None
      (record { within = omega (arith, few); stream = so.stream; rows_of = so.samples_are.rows; runs = tt })

  pub eval_stop_law : (src samples out : Name)
      → IsEval words src samples out
      → HasNoFaultRisen (eval src samples out) old new
      → (fault : StreamFault)
      → Specifies (StopsEval src samples fault) old
      → IsThisOrMemory (status_of fault) status
  eval_stop_law src samples out form none fault given =
      let (program, has, stops) = given.so in
      eval_so src samples out form none given.files given.specified program has (Some fault) stops

  -- a run of the plan of SRC's program comes to the end that the bytes of SAMPLES have
  module _ (src samples : Name) (files : Files) (program : Program)
      (has : HasProgram (content_of (files src)) program)
      (ends : EndsBy (RunsProgram (content_of (files samples)) program) status) where
    planned_so : (end : Option StreamFault)
        → RunsProgram (content_of (files samples)) program end
        → IsThisOrMemory (status_at end) status
    planned_so end its =
        ends_so (RunsProgram (content_of (files samples)) program)
        (one_end samples_end (program_channels program) (channels_of_program (content_of (files src)) program has)
        (content_of (files samples)) _ _ (λ some more conflict runs met. met)
        (λ some more conflict other met meet. absurd met)) end its status ends

    planned_through : (stream : Rows)
        → AreSamples (program_channels program) (content_of (files samples)) stream
        → IsDoneOrMemory status
    planned_through stream are =
        let few = are.within in
        planned_so None
        (record { within = omega (arith, few); stream = stream; rows_of = are.rows; runs = tt })

  module _ (src datapath samples out : Name) (form : IsRun words src datapath samples out)
      (none : HasNoFaultRisen (run src datapath samples out) old new) (files : Files)
      (specified : old.files ≡ Some files) (program : Program) (path : Datapath) (plan : Plan)
      (has : IsPlanOver (content_of (files src)) (content_of (files datapath)) program path plan) where
    run_end : EndsBy (RunsProgram (content_of (files samples)) program) status
    run_end =
        run_ends src datapath samples out old new kept files specified none program path plan has status
        (run_law words old new kept status ending src datapath samples out form)

  pub run_end_law : (src datapath samples out : Name)
      → IsRun words src datapath samples out
      → HasNoFaultRisen (run src datapath samples out) old new
      → Specifies (ArePlannable src datapath) old
      → IsEndedBySamples status
  run_end_law src datapath samples out form none given =
      let (path, plan, (program, has)) = given.so in
      by_samples (content_of (given.files samples)) program status
      (run_end src datapath samples out form none given.files given.specified program path plan has)

  pub planned_run_law : (src datapath samples out : Name)
      → IsRun words src datapath samples out
      → HasNoFaultRisen (run src datapath samples out) old new
      → Specifies (HasPlannedStream src datapath samples) old
      → IsDoneOrMemory status
  planned_run_law src datapath samples out form none given =
      let so = given.so in
      planned_through src samples given.files so.program so.planned.read
      (run_end src datapath samples out form none given.files given.specified so.program so.path so.plan so.planned)
      so.stream so.samples_are

  pub run_stop_law : (src datapath samples out : Name)
      → IsRun words src datapath samples out
      → HasNoFaultRisen (run src datapath samples out) old new
      → (fault : StreamFault)
      → Specifies (StopsPlanned src datapath samples fault) old
      → IsThisOrMemory (status_of fault) status
  run_stop_law src datapath samples out form none fault given =
      let (program, path, plan, has, stops) = given.so in
      planned_so src samples given.files program has.read
      (run_end src datapath samples out form none given.files given.specified program path plan has) (Some fault) stops

  -- so it does over frames
  pub frames_law : (src datapath : Name) (phases : ℕ) (down up : List ℕ) (out : Name)
      → IsFrame words src datapath phases down up out
      → IsAllowed (frame src datapath phases down up out)
      → HasNoFaultRisen (frame src datapath phases down up out) old new
      → Specifies (AreFrameable (rates phases down up) src datapath) old
      → IsDoneOrMemory status
  frames_law src datapath phases down up out form allowed none files =
      frame_complete (rates phases down up) (allowed_rates src datapath phases down up out allowed) src datapath old new
      files.files files.specified (λ r. none (inl (src, inl refl, r))) (λ r. none (inl (datapath, inr (inl refl), r)))
      files.so out (λ r. none (inr (inl (out, refl, r)))) status
      (frame_law words old new kept status ending src datapath phases down up out form)

  -- a net runs to the end of its samples
  pub net_end_law : (joins samples out : Name)
      → IsNet words joins samples out
      → HasNoFaultRisen (net joins samples out) old new
      → Specifies (HasSomeNetStream joins samples out) old
      → IsDoneOrMemory status
  net_end_law joins samples out form none files =
      ended status (net_law words old new kept status ending joins samples out form)
    where
      ended : (answer : Status) → IsNetAnswer joins samples out old new kept answer → IsDoneOrMemory answer
      ended Done h = inl refl
      ended error h =
          let (file, plans, stream, has) = files.so in
          inr (net_complete joins samples out old new files.files files.specified
          (λ name is rose. none (inl (name, is, rose))) (λ rose. none (inr (inl (out, refl, rose)))) file plans stream
          has
          error h)

  -- and over so many stages
  pub stages_text_law : (src datapath : Name) (count : ℕ)
      → IsStages words src datapath count
      → HasNoFaultRisen (stages src datapath count) old new
      → Specifies (AreStageable count src datapath) old
      → IsDoneOrMemory status
  stages_text_law src datapath count form none files =
      stages_complete count src datapath old new files.files files.specified files.so
      (λ r. none (inl (src, inl refl, r)))
      (λ r. none (inl (datapath, inr (inl refl), r)))
      (λ r. none (inr (inr (refl, r)))) status (stages_law words old new kept status ending src datapath count form)

  module _ (src datapath : Name) (count : ℕ) (samples out : Name) (form : IsPipe words src datapath count samples out)
      (none : HasNoFaultRisen (pipe src datapath count samples out) old new) (files : Files)
      (specified : old.files ≡ Some files) (program : Program) (path : Datapath) (plan : StagePlan)
      (has : IsStagedOver count (content_of (files src)) (content_of (files datapath)) program path plan) where
    pipe_end : EndsBy (RunsProgram (content_of (files samples)) program) status
    pipe_end =
        pipe_ends count src datapath samples out old new kept files specified none program path plan has status
        (pipe_law words old new kept status ending src datapath count samples out form)

  pub pipe_end_law : (src datapath : Name) (count : ℕ) (samples out : Name)
      → IsPipe words src datapath count samples out
      → HasNoFaultRisen (pipe src datapath count samples out) old new
      → Specifies (AreStageable count src datapath) old
      → IsEndedBySamples status
  pipe_end_law src datapath count samples out form none given =
      let (program, path, plan, has) = given.so in
      by_samples (content_of (given.files samples)) program status
      (pipe_end src datapath count samples out form none given.files given.specified program path plan has)

  pub staged_run_law : (src datapath : Name) (count : ℕ) (samples out : Name)
      → IsPipe words src datapath count samples out
      → HasNoFaultRisen (pipe src datapath count samples out) old new
      → Specifies (HasStagedStream count src datapath samples) old
      → IsDoneOrMemory status
  staged_run_law src datapath count samples out form none given =
      let so = given.so in
      planned_through src samples given.files so.program so.planned.has.read
      (pipe_end src datapath count samples out form none given.files given.specified so.program so.path so.plan
      so.planned) so.stream so.samples_are

  pub pipe_stop_law : (src datapath : Name) (count : ℕ) (samples out : Name)
      → IsPipe words src datapath count samples out
      → HasNoFaultRisen (pipe src datapath count samples out) old new
      → (fault : StreamFault)
      → Specifies (StopsStaged count src datapath samples fault) old
      → IsThisOrMemory (status_of fault) status
  pipe_stop_law src datapath count samples out form none fault given =
      let (program, path, plan, has, stops) = given.so in
      planned_so src samples given.files program has.has.read
      (pipe_end src datapath count samples out form none given.files given.specified program path plan has) (Some fault)
      stops
