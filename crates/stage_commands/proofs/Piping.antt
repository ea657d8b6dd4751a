-- How the parts of `pipe` make up its answer.
use Rattle.std.proofs.Common.{◌≡◌, sym, ap, ap₂, subst, ◌∙◌, ℕ, ◌-◌, [], ◌∷◌, length, replicate, pos}
use Rattle.cycle_sim.specs.Machine.{Snapshot, state_of}
use Rattle.cycle_sim.specs.Microcode.{micro_of, inputs_of}
use Rattle.desk_core.specs.View.{Name, View}
use Rattle.desk_core.specs.Desk.{FaultsNeverFall, IsUnchanged}
use Rattle.loop_expand.specs.GraphFor.{IsGraphFor}
use Rattle.loop_expand.proofs.ProgramSystem.{solves_system}
use Rattle.micro_image.specs.Fields.{Microprogram}
use Rattle.micro_image.specs.Run.{Stands, IsRunOut, spread}
use Rattle.overlap_plan.specs.IsStagePlan.{plan_of}
use Rattle.overlap_sim.specs.Guarded.{of_guarded}
use Rattle.overlap_sim.specs.GuardedOf.{IsGuardedOf}
use Rattle.plan_soundness.specs.Run.{RunsSolutionLate}
use Rattle.run_command.specs.Private.Executing.{RunsRowsOf}
use Rattle.run_command.specs.Run.{HasPlanInBy}
use Rattle.run_command.proofs.Executing.{its_channels, valid_stream, RanThrough, ran_through, run_error_by, no_plan_by}
use Rattle.run_command.proofs.Executing.{run_reported_by}
use Rattle.sample_commands.specs.Eval.{IsSolutionRowsBy}
use Rattle.sample_commands.specs.Streaming.{RunsFiles, IsNotRunOver}
use Rattle.sample_commands.proofs.Simulating.{fresh_puts}
use Rattle.sample_commands.proofs.Solving.{eval_done_still}
use Rattle.sample_loops.specs.Private.MachineLaws.{runs_clear}
use Rattle.signal_graph.specs.declared.graph.Graph.{Graph}
use Rattle.silage_meaning.proofs.InputRows.{outputs_length}
use Rattle.silage_syntax.specs.Tree.{Program}
use Rattle.silc_files.specs.Endings.{IsAmong}
use Rattle.silc_files.specs.Reading.{OnlyReads}
use Rattle.stage_commands.specs.Pipe.{late_rows, zero_row, staged_out, HasGuardedRun, IsPiped, IsPipeError}
use Rattle.stage_commands.specs.Planning.{IsReadStagePlan}
use Rattle.stage_commands.specs.Private.Piping.{IsMachineOfPlan, IsGuardedMachine}
use Rattle.stage_commands.specs.StagePlans.{IsStagedOver, IsStageRefused, IsStageError}
use Rattle.stage_commands.specs.declared.planning.StagePlanned.{StagePlanned}
use Rattle.stage_commands.proofs.Late.{late_out}
use Rattle.stage_commands.proofs.Staging.{its_stages}
use Rattle.statuses.specs.declared.status.Status.{Status}
use Rattle.statuses.specs.declared.status.Status.TheVariants.{Done}

-- a microprogram that runs the graph of a program late runs the program's one solution late
pub staged_runs : (stages : ℕ) (p : Program) (g : Graph) (micro : Microprogram)
    → IsGraphFor p g
    → RunsSolutionLate (stages - 1) g micro
    → RunsRowsOf (staged_out stages) p micro
staged_runs stages p g micro graph runs stream valid =
    let (words, one) = graph.keeps.one_solution stream valid in
    let (others, theirs, equal) =
    (graph.keeps.solutions stream valid).forth words ((solves_system p stream words).0 one.solves) in
    let zeros : replicate g.outs (pos 0) ≡ zero_row p =
    ap (λ n. replicate n (pos 0)) (graph.keeps.outs ∙ sym (outputs_length p)) in (
      words,
      one,
      subst (IsRunOut micro stream)
          (late_out g others (stages - 1) (length stream) ∙ ap₂ (late_rows (stages - 1)) zeros equal)
          (runs stream others theirs.solves),
    )

-- the machine of the plan was made
module _ (stages : ℕ) (src datapath : Name) (old new : View) (planned : StagePlanned)
    (plan : IsReadStagePlan stages src datapath old new planned) where
  pub guarded_machine : (machine : Snapshot)
      → IsMachineOfPlan planned.path planned.plan machine
      → IsGuardedMachine stages src datapath old new machine
  guarded_machine machine is =
      let its = is.loaded in
      let same = plan.plan.stages_are in
      let late =
      its.runs plan.graph plan.keeps.sound (its_stages stages plan.graph planned.path planned.plan plan.plan) in
      record {
        planned = record {
          read = plan.read;
          fresh = record { sound = is.sound; stands = its.stands };
          program = plan.program;
          source = λ files at. record {
            read = (plan.specified files at).has.read;
            unique = (plan.specified files at).unique;
            solved = plan.keeps.keeps.one_solution;
          };
          path = planned.path;
          plan = planned.plan;
          planned = plan.specified;
          channels =
              its_channels plan.program plan.graph plan.keeps planned.plan.inputs plan.plan.inputs
              (inputs_of machine.code)
              (its.inputs ∙ its.guarded_of.inputs);
          valid = valid_stream plan.program plan.graph plan.keeps;
          runs =
              staged_runs stages plan.program plan.graph (micro_of machine.code) plan.keeps
              (subst (RunsSolutionLate (stages - 1) plan.graph) (sym its.obeys)
              (subst (λ n. RunsSolutionLate (n - 1) plan.graph (of_guarded its.guarded)) same late));
        };
        guarded = its.guarded;
        guarded_of =
            subst (λ n. IsGuardedOf n planned.path (plan_of planned.plan) its.guarded) same its.guarded_of;
        obeys = its.obeys;
      }

-- the machine was made, and then it ran over the files
module _ (stages : ℕ) (src datapath samples out : Name) (old mid new : View) (machine : Snapshot)
    (first : OnlyReads (IsAmong (src ∷ datapath ∷ [])) old mid)
    (is : IsGuardedMachine stages src datapath old mid machine) where
  guarded_run : (after : Snapshot)
      → (ran : RanThrough (IsStageRefused stages) (IsStagedOver stages) (staged_out stages) src datapath samples out old
      mid new machine first is.planned after)
      → HasGuardedRun is.guarded ran.solved.stream after ran.solved.text
  guarded_run after ran =
      let fresh = is.planned.fresh in
      let micro = micro_of machine.code in
      record {
        obeys = ap micro_of ran.code ∙ is.obeys;
        stands =
            subst (λ (m : Microprogram). Stands (state_of after) m (spread m.period ran.solved.stream)) is.obeys
            (ran.given.stands [] fresh.stands);
        rows = ran.puts;
        run = subst (λ (m : Microprogram). IsRunOut m ran.solved.stream ran.puts) is.obeys
            (fresh_puts machine fresh ran.solved.stream ran.puts
            (runs_clear micro (state_of machine) (state_of after) ran.solved.stream ran.puts ran.given));
        text_is = ran.text_is;
      }

  pub pipe_done : (after : Snapshot)
      → RunsFiles samples out machine after mid new Done
      → IsPiped stages src datapath samples out after old new
  pipe_done after ran =
      let its =
      ran_through (IsStageRefused stages) (IsStagedOver stages) (staged_out stages) src datapath samples out old mid new
      machine first is.planned after ran in
      record {
        solved = its.solved;
        path = is.planned.path;
        plan = is.planned.plan;
        planned = λ files at.
            subst (λ (p : Program).
            HasPlanInBy (IsStagedOver stages) src datapath p is.planned.path is.planned.plan files) (sym its.same)
            (is.planned.planned files at);
        guarded = is.guarded;
        guarded_of = is.guarded_of;
        ran = guarded_run after its;
      }

  pub pipe_error : (ending : Status)
      → IsNotRunOver samples out machine mid new ending
      → IsPipeError stages src datapath samples out old new ending
  pipe_error =
      run_error_by (IsStageRefused stages) (IsStagedOver stages) (staged_out stages) src datapath samples out old mid
      new machine first is.planned

-- why there is no plan is why `pipe` ends
pub no_stage_plan : (stages : ℕ) (src datapath samples out : Name) (old new : View) (status : Status)
    → IsStageError stages src datapath old new status
    → IsPipeError stages src datapath samples out old new status
no_stage_plan stages =
    no_plan_by (IsStageRefused stages) (IsStagedOver stages) (IsSolutionRowsBy (staged_out stages))

-- a report of the error leaves the answer of `pipe` as it is
module _ (stages : ℕ) (src datapath samples out : Name) (old mid new : View) (same : IsUnchanged mid new)
    (later : FaultsNeverFall mid new) (before : FaultsNeverFall old mid) where
  pub piped_still : (machine : Snapshot)
      → IsPiped stages src datapath samples out machine old mid
      → IsPiped stages src datapath samples out machine old new
  piped_still machine h = record {
    solved = eval_done_still src samples out old mid new same later before (staged_out stages) h.solved;
    path = h.path;
    plan = h.plan;
    planned = h.planned;
    guarded = h.guarded;
    guarded_of = h.guarded_of;
    ran = h.ran;
  }

  pub pipe_reported : (status : Status)
      → IsPipeError stages src datapath samples out old mid status
      → IsPipeError stages src datapath samples out old new status
  pipe_reported =
      run_reported_by (IsStageRefused stages) (IsStagedOver stages) (IsSolutionRowsBy (staged_out stages)) src datapath
      samples out old mid new same later before
