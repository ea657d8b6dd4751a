-- What follows for each command from how it ends.
use Rattle.std.proofs.Common.{◌≡◌, refl, sym, ap, ◌∙◌, subst, ℕ, List, [], Bool, Some, None}
use Rattle.std.specs.Prelude.{String}
use Rattle.std.specs.declared.alloc.Global.{Global}
use Rattle.command_words.specs.Command.{Command, compile, schedule, list, sim, eval, run, demo, stages, pipe, frame}
use Rattle.command_words.specs.Command.{net}
use Rattle.command_words.specs.Command.{IsCommandIn, IsCompile, IsSchedule, IsList, IsSim, IsEval, IsRun, IsDemo}
use Rattle.command_words.specs.Command.{IsStages, IsPipe, IsFrame, IsNet, output_of}
use Rattle.desk_core.specs.View.{Name, View}
use Rattle.desk_core.specs.Desk.{HasOutput}
use Rattle.frame_command.specs.Frame.{IsFrameDone, IsFrameAnswer, IsCompiledToo}
use Rattle.rate_unfold.specs.Frames.{rates}
use Rattle.frame_command.proofs.OnePhase.{one_phase_compiles}
use Rattle.plan_commands.specs.Compile.{IsAnswer}
use Rattle.plan_commands.specs.Schedule.{IsScheduled, IsScheduleAnswer}
use Rattle.sample_commands.specs.Eval.{IsEvalDone, IsEvalAnswer}
use Rattle.silc.specs.Runs.{IsSimDone, IsSimAnswer, IsRunDone, IsRunAnswer, IsPipeDone, IsPipeAnswer}
use Rattle.silc.specs.Runs.{IsJoinedDone, IsNetAnswer}
use Rattle.silc.specs.declared.kept.Kept.{Kept}
use Rattle.silc.specs.Demo.{IsDemoDone, IsDemoAnswer}
use Rattle.silc.specs.Endings.{IsEnding, IsInputOf}
use Rattle.silc.specs.Listing.{IsListed, IsListAnswer}
use Rattle.silc.proofs.Demonstrating.{demo_done}
use Rattle.silc.proofs.Listing.{list_done}
use Rattle.silc_files.specs.Endings.{UsesOnly}
use Rattle.silc_files.specs.Printing.{ChangesNoFile, PrintsOnly}
use Rattle.silc_laws.specs.Forms.{IsCommandTo}
use Rattle.silc_laws.proofs.Closed.{done_closed}
use Rattle.stage_commands.specs.Stages.{IsStagesPrinted, IsStagesAnswer}
use Rattle.statuses.specs.declared.status.Status.{Status}
use Rattle.statuses.specs.declared.status.Status.TheVariants.{Done}

module _ (words : List (String Global)) (old new : View) (kept : Kept) (status : Status)
    (ending : (command : Command) → IsCommandIn words command → IsEnding command old new kept status) where
  pub answer_law : (src datapath out : Name)
      → IsCompile words src datapath out
      → IsAnswer src datapath out old new status
  answer_law src datapath out form = (ending (compile src datapath out) form).0

  pub schedule_law : (src datapath : Name)
      → IsSchedule words src datapath
      → IsScheduleAnswer src datapath old new status
  schedule_law src datapath form = (ending (schedule src datapath) form).0

  pub list_law : (mic : Name) → IsList words mic → IsListAnswer mic old new status
  list_law mic form = (ending (list mic) form).0

  pub demo_law : (sections samples : ℕ)
      → IsDemo words sections samples
      → IsDemoAnswer sections samples old new kept status
  demo_law sections samples form = (ending (demo sections samples) form).0

  pub sim_law : (mic samples out : Name) → IsSim words mic samples out → IsSimAnswer mic samples out old new kept status
  sim_law mic samples out form = (ending (sim mic samples out) form).0

  pub eval_law : (src samples out : Name) → IsEval words src samples out → IsEvalAnswer src samples out old new status
  eval_law src samples out form = (ending (eval src samples out) form).0

  pub run_law : (src datapath samples out : Name)
      → IsRun words src datapath samples out
      → IsRunAnswer src datapath samples out old new kept status
  run_law src datapath samples out form = (ending (run src datapath samples out) form).0

  pub stages_law : (src datapath : Name) (count : ℕ)
      → IsStages words src datapath count
      → IsStagesAnswer count src datapath old new status
  stages_law src datapath count form = (ending (stages src datapath count) form).0

  pub pipe_law : (src datapath : Name) (count : ℕ) (samples out : Name)
      → IsPipe words src datapath count samples out
      → IsPipeAnswer src datapath count samples out old new kept status
  pipe_law src datapath count samples out form = (ending (pipe src datapath count samples out) form).0

  pub frame_law : (src datapath : Name) (phases : ℕ) (down up : List ℕ) (out : Name)
      → IsFrame words src datapath phases down up out
      → IsFrameAnswer (rates phases down up) src datapath out old new status
  frame_law src datapath phases down up out form = (ending (frame src datapath phases down up out) form).0

  pub frame_compile_law : (src datapath out : Name)
      → IsFrame words src datapath 1 [] [] out
      → IsCompiledToo src datapath out old new status
  frame_compile_law src datapath out form =
      one_phase_compiles src datapath out old new 1 [] [] refl refl refl status
      (frame_law src datapath 1 [] [] out form)

  pub net_law : (joins samples out : Name)
      → IsNet words joins samples out
      → IsNetAnswer joins samples out old new kept status
  net_law joins samples out form = (ending (net joins samples out) form).0

  uses_own : (command : Command) (own out : Name)
      → Some own ≡ Some out
      → UsesOnly (IsInputOf command old) own old new
      → UsesOnly (IsInputOf command old) out old new
  uses_own command own out e h =
      let same : own ≡ out = cc in subst (λ (name : Name). UsesOnly (IsInputOf command old) name old new) same h

  pub only_law : (command : Command) (out : Name)
      → IsCommandIn words command
      → output_of command ≡ Some out
      → UsesOnly (IsInputOf command old) out old new
  only_law (compile src datapath own) out form e =
      uses_own (compile src datapath own) own out e (ending (compile src datapath own) form).1
  only_law (sim mic samples own) out form e =
      uses_own (sim mic samples own) own out e (ending (sim mic samples own) form).1
  only_law (eval src samples own) out form e =
      uses_own (eval src samples own) own out e (ending (eval src samples own) form).1
  only_law (run src datapath samples own) out form e =
      uses_own (run src datapath samples own) own out e (ending (run src datapath samples own) form).1
  only_law (schedule src datapath) out form e = absurd (cc)
  only_law (list mic) out form e = absurd (cc)
  only_law (demo sections samples) out form e = absurd (cc)
  only_law (stages src datapath count) out form e = absurd (cc)
  only_law (pipe src datapath count samples own) out form e =
      uses_own (pipe src datapath count samples own) own out e (ending (pipe src datapath count samples own) form).1
  only_law (frame src datapath phases down up own) out form e =
      uses_own (frame src datapath phases down up own) own out e
      (ending (frame src datapath phases down up own) form).1
  only_law (net joins samples own) out form e =
      uses_own (net joins samples own) own out e (ending (net joins samples own) form).1

  prints_no_file : (IsInput : Name → Type 0) → PrintsOnly old new → ChangesNoFile IsInput old new
  prints_no_file IsInput h = record {
    files = h.files;
    output = h.output;
    reads = λ s not is. ap (λ (f : Name → Bool). f s) (sym h.reads) ∙ is;
    writes = h.writes;
  }

  pub prints_law : (command : Command)
      → IsCommandIn words command
      → output_of command ≡ None
      → ChangesNoFile (IsInputOf command old) old new
  prints_law (schedule src datapath) form e = (ending (schedule src datapath) form).1
  prints_law (list mic) form e = (ending (list mic) form).1
  prints_law (demo sections samples) form e =
      prints_no_file (IsInputOf (demo sections samples) old) (ending (demo sections samples) form).1
  prints_law (compile src datapath own) form e = absurd (cc)
  prints_law (sim mic samples own) form e = absurd (cc)
  prints_law (eval src samples own) form e = absurd (cc)
  prints_law (run src datapath samples own) form e = absurd (cc)
  prints_law (stages src datapath count) form e = (ending (stages src datapath count) form).1
  prints_law (pipe src datapath count samples own) form e = absurd (cc)
  prints_law (frame src datapath phases down up own) form e = absurd (cc)
  prints_law (net joins samples own) form e = absurd (cc)

  pub demo_only_law : (sections samples : ℕ) → IsDemo words sections samples → PrintsOnly old new
  demo_only_law sections samples form = (ending (demo sections samples) form).1

  module _ (done : status ≡ Done) where
    pub printed_law : (src datapath : Name) → IsSchedule words src datapath → IsScheduled src datapath old new
    printed_law src datapath form =
        subst (λ (s : Status). IsScheduleAnswer src datapath old new s) done (schedule_law src datapath form)

    pub listed_law : (mic : Name) → IsList words mic → IsListed mic old new
    listed_law mic form = list_done mic old new status done (list_law mic form)

    pub demonstrated_law : (sections samples : ℕ)
        → IsDemo words sections samples
        → IsDemoDone sections samples old new kept
    demonstrated_law sections samples form =
        demo_done sections samples old new kept status done (demo_law sections samples form)

    pub simulated_law : (mic samples out : Name) → IsSim words mic samples out → IsSimDone mic samples out old new kept
    simulated_law mic samples out form =
        subst (λ (s : Status). IsSimAnswer mic samples out old new kept s) done (sim_law mic samples out form)

    pub one_solution_law : (src samples out : Name) → IsEval words src samples out → IsEvalDone src samples out old new
    one_solution_law src samples out form =
        subst (λ (s : Status). IsEvalAnswer src samples out old new s) done (eval_law src samples out form)

    pub equals_eval_law : (src datapath samples out : Name)
        → IsRun words src datapath samples out
        → IsRunDone src datapath samples out old new kept
    equals_eval_law src datapath samples out form =
        subst (λ (s : Status). IsRunAnswer src datapath samples out old new kept s) done
        (run_law src datapath samples out form)

    pub staged_law : (src datapath : Name) (count : ℕ)
        → IsStages words src datapath count
        → IsStagesPrinted count src datapath old new
    staged_law src datapath count form =
        subst (λ (s : Status). IsStagesAnswer count src datapath old new s) done (stages_law src datapath count form)

    pub piped_law : (src datapath : Name) (count : ℕ) (samples out : Name)
        → IsPipe words src datapath count samples out
        → IsPipeDone src datapath count samples out old new kept
    piped_law src datapath count samples out form =
        subst (λ (s : Status). IsPipeAnswer src datapath count samples out old new kept s) done
        (pipe_law src datapath count samples out form)

    pub framed_law : (src datapath : Name) (phases : ℕ) (down up : List ℕ) (out : Name)
        → IsFrame words src datapath phases down up out
        → IsFrameDone (rates phases down up) src datapath out old new
    framed_law src datapath phases down up out form =
        subst (λ (s : Status). IsFrameAnswer (rates phases down up) src datapath out old new s) done
        (frame_law src datapath phases down up out form)

    pub joined_law : (joins samples out : Name)
        → IsNet words joins samples out
        → IsJoinedDone joins samples out old new kept
    joined_law joins samples out form =
        subst (λ (s : Status). IsNetAnswer joins samples out old new kept s) done (net_law joins samples out form)

    pub closed_law : (out : Name) → IsCommandTo words out → HasOutput None new
    closed_law = done_closed old new kept words status ending done
