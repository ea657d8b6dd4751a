-- Where the files, or the cascade, are refused and no fault of the command's own rose, the command answers this
-- refusal, or memory ran out.
use Rattle.std.proofs.Common.{◌≡◌, ◌∙◌, refl, ap, inl, inr, ⊎_elim, ℕ, List, Some}
use Rattle.std.specs.Prelude.{String}
use Rattle.std.specs.declared.alloc.Global.{Global}
use Rattle.demo_cascade.specs.Cascade.{cascade_source, cascade_datapath}
use Rattle.command_words.specs.Command.{Command, compile, schedule, list, sim, eval, run, demo, stages, pipe, frame}
use Rattle.command_words.specs.Command.{net}
use Rattle.command_words.specs.Command.{IsCommandIn, IsAllowed, IsCompile, IsSchedule, IsList, IsSim, IsEval, IsRun}
use Rattle.command_words.specs.Command.{IsDemo, IsStages, IsPipe, IsFrame, IsNet}
use Rattle.datapath.specs.declared.types.Datapath.{Datapath}
use Rattle.desk_core.specs.View.{Name, Content, Files, View}
use Rattle.desk_core.specs.Desk.{ReadFaultsRose, WriteFaultsRose, PrintFaultsRose, content_of}
use Rattle.source_faults.specs.Faults.{HasProgram}
use Rattle.source_faults.specs.declared.fault.FrontFault.{FrontFault}
use Rattle.rate_unfold.specs.Frames.{rates}
use Rattle.frame_command.specs.FramePlans.{IsFrameRefusal}
use Rattle.frame_command.proofs.Complete.{frame_refuses}
use Rattle.front_end.proofs.OneAnswer.{no_fault}
use Rattle.net_command.specs.Net.{IsNetRefusal, IsNetRefused}
use Rattle.net_command.proofs.NetAnswers.{net_refuses, net_never_refused}
use Rattle.micro_image.specs.declared.image.Image.{Image as MicroImage}
use Rattle.plan_commands.specs.Compile.{IsAnswer}
use Rattle.plan_commands.specs.Plans.{IsPlannedOver}
use Rattle.lists.specs.Rows.{Rows}
use Rattle.plan_commands.specs.Refusals.{IsRefusal, IsRefused, AreRefused, IsErrorOf, IsPlanError}
use Rattle.plan_commands.specs.Schedule.{IsTextOf, IsPrintAnswerOf, IsScheduleAnswer}
use Rattle.run_command.specs.Run.{IsRunErrorBy}
use Rattle.silc_files.specs.Sources.{HasFrontFault}
use Rattle.plan_commands.proofs.Complete.{never_refused}
use Rattle.plan_core.specs.declared.plan.Plan.{Plan}
use Rattle.sample_commands.specs.Eval.{IsSolutionRowsBy, IsSolutionRows, IsEvalAnswer}
use Rattle.sample_commands.specs.Sim.{HasImage, HasImageFault}
use Rattle.silc.specs.Runs.{IsSimAnswer, IsRunAnswer, IsPipeAnswer, IsNetAnswer}
use Rattle.silc.specs.declared.kept.Kept.{Kept}
use Rattle.silc.specs.declared.kept.Kept.TheVariants.{Nothing}
use Rattle.silage_syntax.specs.Tree.{Program}
use Rattle.silc.specs.Demo.{IsDemoAnswer}
use Rattle.silc.specs.Endings.{IsEnding}
use Rattle.silc.specs.Listing.{IsListAnswer}
use Rattle.silc.proofs.Allowed.{allowed_rates}
use Rattle.silc.proofs.Complete.{image_or_not}
use Rattle.silc_laws.specs.Complete.{Specifies, IsCascadeRefused, AreStageRefused, AreFrameRefused, IsThisOrMemory}
use Rattle.silc_laws.specs.Faults.{HasNoFaultRisen}
use Rattle.silc_laws.proofs.Faults.{simulating, evaluating, running, piping}
use Rattle.silc_laws.proofs.Laws.{answer_law, schedule_law, list_law, demo_law, sim_law, eval_law, run_law}
use Rattle.silc_laws.proofs.Laws.{stages_law, pipe_law, frame_law, net_law}
use Rattle.plan_commands.proofs.OneFault.{one_source_fault}
use Rattle.silc_laws.proofs.OneRefusal.{one_refusal, one_stage_refusal, one_image_fault}
use Rattle.overlap_plan.specs.declared.plan.StagePlan.{StagePlan}
use Rattle.stage_commands.specs.Pipe.{staged_out}
use Rattle.stage_commands.specs.StagePlans.{IsStagedOver, IsStageRefused}
use Rattle.stage_commands.specs.Stages.{IsStagesTextOf, IsStagesAnswer}
use Rattle.stage_commands.proofs.Complete.{never_stage_refused}
use Rattle.statuses.specs.declared.status.ImageFault.{ImageFault}
use Rattle.statuses.specs.declared.status.SampleFault.TheVariants as sample_fault
use Rattle.statuses.specs.declared.status.Status.{Status}
use Rattle.statuses.specs.declared.status.Status.TheVariants.{Done, Memory, Desk, FrontEnd}
use Rattle.statuses.specs.declared.status.Status.TheVariants.{Image, Samples, Conflict}

-- SRC is refused over DP, by any planning. `Tells` says what a status tells of a source and a datapath.
module _ (Tells : Status → (source datapath : List ℕ) → Type 0) (src datapath : Name) (old new : View)
    (files : Files) (specified : old.files ≡ Some files) (why : Status)
    (one : (error : Status)
    → IsRefusal error
    → Tells error (content_of (files src)) (content_of (files datapath))
    → error ≡ why) where
  abbrev Answers : Status → Type 0
  Answers = IsThisOrMemory why

  module _ (no_src : ReadFaultsRose src old new → ⊥) (no_datapath : ReadFaultsRose datapath old new → ⊥) where
    told : (error : Status) → IsErrorOf IsRefusal Tells src datapath old new error → Answers error
    told error (inl memory) = inr memory.0
    told error (inr (inl unread)) = absurd (⊎_elim no_src no_datapath unread.1.rose)
    told error (inr (inr rejected)) = inl (one error rejected.0 (rejected.1.why files specified))

    -- what is printed is of a plan, which there is not
    print_refuses : (IsOf : Content → Files → Type 0)
        → ((text : Content) → IsOf text files → ⊥)
        → (PrintFaultsRose old new → ⊥)
        → (answer : Status)
        → IsPrintAnswerOf IsOf (IsErrorOf IsRefusal Tells src datapath) datapath old new answer
        → Answers answer
    print_refuses IsOf no_text no_print Done h = absurd (no_text h.text (h.is_text files specified))
    print_refuses IsOf no_text no_print Desk (inl h) = told Desk h
    print_refuses IsOf no_text no_print Desk (inr cut) = absurd (no_print cut.rose)
    print_refuses IsOf no_text no_print error h = told error h

    -- a run is of a plan
    run_error_refuses :
        {P : Type 0} (IsPlanned : (source datapath : List ℕ) → Program → Datapath → P → Type 0)
        (gives : Program → (stream puts : Rows) → Type 0) (samples out : Name)
        → ((program : Program) (path : Datapath) (plan : P)
        → IsPlanned (content_of (files src)) (content_of (files datapath)) program path plan
        → ⊥)
        → (IsRunErrorBy IsPlanned src datapath Tells gives samples out old new Desk → ⊥)
        → (answer : Status)
        → IsRunErrorBy IsPlanned src datapath Tells gives samples out old new answer
        → Answers answer
    run_error_refuses IsPlanned gives samples out not_planned no_desk Done h = absurd h
    run_error_refuses IsPlanned gives samples out not_planned no_desk Desk h = absurd (no_desk h)
    run_error_refuses IsPlanned gives samples out not_planned no_desk (Samples (sample_fault.Row line at)) h =
        absurd (not_planned h.program h.path h.plan (h.planned files specified))
    run_error_refuses IsPlanned gives samples out not_planned no_desk (Samples sample_fault.TooLong) h =
        absurd (not_planned h.program h.path h.plan (h.planned files specified))
    run_error_refuses IsPlanned gives samples out not_planned no_desk (Image fault) h = absurd h
    run_error_refuses IsPlanned gives samples out not_planned no_desk (Conflict conflict) h = absurd h
    run_error_refuses IsPlanned gives samples out not_planned no_desk error h = told error h

-- so it is where the plan is that of `compile`
module _ (src datapath : Name) (old new : View) (files : Files) (specified : old.files ≡ Some files)
    (why : Status) (is : IsRefusal why) (refused : AreRefused src datapath why files) where
  one_of : (error : Status)
      → IsRefusal error
      → IsRefused error (content_of (files src)) (content_of (files datapath))
      → error ≡ why
  one_of error its has =
      one_refusal (content_of (files src)) (content_of (files datapath)) error why its has is refused

  not_planned : (program : Program) (path : Datapath) (plan : Plan)
      → IsPlannedOver (content_of (files src)) (content_of (files datapath)) program path plan
      → ⊥
  not_planned program path plan planned =
      never_refused (content_of (files src)) (content_of (files datapath)) (path, plan, (program, planned.has)) why is
      refused

  module _ (no_src : ReadFaultsRose src old new → ⊥) (no_datapath : ReadFaultsRose datapath old new → ⊥) where
    not_made : (error : Status) → IsPlanError src datapath old new error → IsThisOrMemory why error
    not_made = told IsRefused src datapath old new files specified why one_of no_src no_datapath

    compile_refuses : (out : Name)
        → (WriteFaultsRose out old new → ⊥)
        → (answer : Status)
        → IsAnswer src datapath out old new answer
        → IsThisOrMemory why answer
    compile_refuses out no_out Done h =
        let its = h.compiled files specified in absurd (not_planned its.program its.path its.plan its.planned)
    compile_refuses out no_out Desk (inl h) = not_made Desk h
    compile_refuses out no_out Desk (inr cut) = absurd (no_out cut.written.rose)
    compile_refuses out no_out error h = not_made error h

    schedule_refuses : (PrintFaultsRose old new → ⊥)
        → (answer : Status)
        → IsScheduleAnswer src datapath old new answer
        → IsThisOrMemory why answer
    schedule_refuses =
        print_refuses IsRefused src datapath old new files specified why one_of no_src no_datapath
        (IsTextOf src datapath)
        (λ text its. not_planned its.planned.0 its.path its.plan its.planned.1)

  run_refuses : (samples out : Name) (kept : Kept)
      → HasNoFaultRisen (run src datapath samples out) old new
      → (answer : Status)
      → IsRunAnswer src datapath samples out old new kept answer
      → IsThisOrMemory why answer
  run_refuses samples out kept none Done h =
      absurd (not_planned h.2.solved.program h.2.path h.2.plan (h.2.planned files specified))
  run_refuses samples out kept none error h =
      run_error_refuses IsRefused src datapath old new files specified why one_of (λ r. none (inl (src, inl refl, r)))
      (λ r. none (inl (datapath, inr (inl refl), r))) IsPlannedOver IsSolutionRows samples out not_planned
      (λ desk. none (running old new kept src datapath samples out desk)) error h

-- and where it is one over so many stages
module _ (stages : ℕ) (src datapath : Name) (old new : View) (files : Files) (specified : old.files ≡ Some files)
    (why : Status) (is : IsRefusal why) (refused : AreStageRefused stages src datapath why files) where
  one_of_stages : (error : Status)
      → IsRefusal error
      → IsStageRefused stages error (content_of (files src)) (content_of (files datapath))
      → error ≡ why
  one_of_stages error its has =
      one_stage_refusal stages (content_of (files src)) (content_of (files datapath)) error why its has is refused

  not_staged : (program : Program) (path : Datapath) (plan : StagePlan)
      → IsStagedOver stages (content_of (files src)) (content_of (files datapath)) program path plan
      → ⊥
  not_staged program path plan planned =
      never_stage_refused stages (content_of (files src)) (content_of (files datapath)) (program, path, plan, planned)
      why is refused

  stages_refuses : (ReadFaultsRose src old new → ⊥)
      → (ReadFaultsRose datapath old new → ⊥)
      → (PrintFaultsRose old new → ⊥)
      → (answer : Status)
      → IsStagesAnswer stages src datapath old new answer
      → IsThisOrMemory why answer
  stages_refuses no_src no_datapath =
      print_refuses (IsStageRefused stages) src datapath old new files specified why one_of_stages no_src no_datapath
      (IsStagesTextOf stages src datapath)
      (λ text its. not_staged its.program its.path its.plan its.planned)

  pipe_refuses : (samples out : Name) (kept : Kept)
      → HasNoFaultRisen (pipe src datapath stages samples out) old new
      → (answer : Status)
      → IsPipeAnswer src datapath stages samples out old new kept answer
      → IsThisOrMemory why answer
  pipe_refuses samples out kept none Done h =
      absurd (not_staged h.2.solved.program h.2.path h.2.plan (h.2.planned files specified))
  pipe_refuses samples out kept none error h =
      run_error_refuses (IsStageRefused stages) src datapath old new files specified why one_of_stages
      (λ r. none (inl (src, inl refl, r))) (λ r. none (inl (datapath, inr (inl refl), r))) (IsStagedOver stages)
      (IsSolutionRowsBy (staged_out stages)) samples out not_staged
      (λ desk. none (piping old new kept src datapath stages samples out desk)) error h

-- SRC has a fault
module _ (src samples out : Name) (old new : View) (files : Files) (specified : old.files ≡ Some files)
    (none : HasNoFaultRisen (eval src samples out) old new) (fault : FrontFault)
    (has : HasFrontFault src fault files) where
  not_read : (program : Program) → HasProgram (content_of (files src)) program → ⊥
  not_read program read = no_fault (content_of (files src)) program read fault has

  eval_refuses : (answer : Status)
      → IsEvalAnswer src samples out old new answer
      → IsThisOrMemory (FrontEnd fault) answer
  eval_refuses Done h = absurd (not_read h.program (h.specified files specified).source.read)
  eval_refuses Memory h = inr refl
  eval_refuses Desk h = absurd (none (evaluating old new Nothing src samples out h))
  eval_refuses (FrontEnd other) h =
      inl (ap FrontEnd (one_source_fault (content_of (files src)) other fault h.0 (h.1.why files specified) has))
  eval_refuses (Samples (sample_fault.Row line at)) h = absurd (not_read h.program (h.specified files specified).read)
  eval_refuses (Samples sample_fault.TooLong) h = absurd (not_read h.program (h.specified files specified).read)
  eval_refuses other h = absurd h

-- MIC has a fault
module _ (mic : Name) (old new : View) (files : Files) (specified : old.files ≡ Some files) (fault : ImageFault)
    (has : HasImageFault mic fault files) where
  no_image : (image : MicroImage) → HasImage mic files image → ⊥
  no_image image its = image_or_not (content_of (files mic)) image its fault has

  same_fault : (other : ImageFault) → HasImageFault mic other files → Image other ≡ Image fault
  same_fault other its = ap Image (one_image_fault (content_of (files mic)) other fault its has)

  sim_refuses : (samples out : Name) (kept : Kept)
      → HasNoFaultRisen (sim mic samples out) old new
      → (answer : Status)
      → IsSimAnswer mic samples out old new kept answer
      → IsThisOrMemory (Image fault) answer
  sim_refuses samples out kept none Done (machine, is, h) =
      absurd (no_image h.image (h.specified files specified).microcode)
  sim_refuses samples out kept none Memory h = inr refl
  sim_refuses samples out kept none Desk h = absurd (none (simulating old new kept mic samples out h))
  sim_refuses samples out kept none (Image other) h = inl (same_fault other (h.1.why files specified))
  sim_refuses samples out kept none (Samples (sample_fault.Row line at)) h =
      absurd (no_image h.image (h.specified files specified))
  sim_refuses samples out kept none (Samples sample_fault.TooLong) h =
      absurd (no_image h.image (h.specified files specified))
  sim_refuses samples out kept none (Conflict conflict) h = absurd (no_image h.image (h.specified files specified))
  sim_refuses samples out kept none other h = absurd h

  list_refuses : HasNoFaultRisen (list mic) old new
      → (answer : Status)
      → IsListAnswer mic old new answer
      → IsThisOrMemory (Image fault) answer
  list_refuses none answer (inl done) = absurd (no_image done.1.image (done.1.specified files specified))
  list_refuses none answer (inr (inl cut)) = absurd (none (inr (inr (refl, cut.1.rose))))
  list_refuses none answer (inr (inr (inl memory))) = inr memory.0
  list_refuses none answer (inr (inr (inr (inl unread)))) = absurd (none (inl (mic, inl refl, unread.1.rose)))
  list_refuses none answer (inr (inr (inr (inr (other, is, bad))))) =
      inl (is ∙ same_fault other (bad.rejected.why files specified))

-- the cascade is refused
demo_refuses : (sections samples : ℕ) (old new : View) (kept : Kept)
    → HasNoFaultRisen (demo sections samples) old new
    → (why : Status)
    → IsRefusal why
    → IsCascadeRefused why sections
    → (answer : Status)
    → IsDemoAnswer sections samples old new kept answer
    → IsThisOrMemory why answer
demo_refuses sections samples old new kept none why is refused answer (inl done) =
    let run = done.1.run in
    absurd (never_refused (cascade_source sections) (cascade_datapath sections)
    (run.path, run.plan, (run.program, run.planned.has)) why is refused)
demo_refuses sections samples old new kept none why is refused answer (inr (inl cut)) =
    absurd (none (inr (inr (refl, cut.1.rose))))
demo_refuses sections samples old new kept none why is refused answer (inr (inr error)) =
    ⊎_elim (λ memory. inr memory)
    (λ h. inl (one_refusal (cascade_source sections) (cascade_datapath sections) answer why h.0 h.1 is refused))
    error.why

module _ (words : List (String Global)) (old new : View) (kept : Kept) (status : Status)
    (ending : (command : Command) → IsCommandIn words command
    → IsEnding command old new kept status) where
  pub compile_refusal_law : (src datapath out : Name)
      → IsCompile words src datapath out
      → HasNoFaultRisen (compile src datapath out) old new
      → (why : Status)
      → IsRefusal why
      → Specifies (AreRefused src datapath why) old
      → IsThisOrMemory why status
  compile_refusal_law src datapath out form none why is given =
      compile_refuses src datapath old new given.files given.specified why is given.so
      (λ r. none (inl (src, inl refl, r))) (λ r. none (inl (datapath, inr (inl refl), r))) out
      (λ r. none (inr (inl (out, refl, r)))) status
      (answer_law words old new kept status ending src datapath out form)

  pub schedule_refusal_law : (src datapath : Name)
      → IsSchedule words src datapath
      → HasNoFaultRisen (schedule src datapath) old new
      → (why : Status)
      → IsRefusal why
      → Specifies (AreRefused src datapath why) old
      → IsThisOrMemory why status
  schedule_refusal_law src datapath form none why is given =
      schedule_refuses src datapath old new given.files given.specified why is given.so
      (λ r. none (inl (src, inl refl, r))) (λ r. none (inl (datapath, inr (inl refl), r)))
      (λ r. none (inr (inr (refl, r)))) status
      (schedule_law words old new kept status ending src datapath form)

  pub run_refusal_law : (src datapath samples out : Name)
      → IsRun words src datapath samples out
      → HasNoFaultRisen (run src datapath samples out) old new
      → (why : Status)
      → IsRefusal why
      → Specifies (AreRefused src datapath why) old
      → IsThisOrMemory why status
  run_refusal_law src datapath samples out form none why is given =
      run_refuses src datapath old new given.files given.specified why is given.so samples out kept none status
      (run_law words old new kept status ending src datapath samples out form)

  pub frame_refusal_law : (src datapath : Name) (phases : ℕ) (down up : List ℕ) (out : Name)
      → IsFrame words src datapath phases down up out
      → IsAllowed (frame src datapath phases down up out)
      → HasNoFaultRisen (frame src datapath phases down up out) old new
      → (why : Status)
      → IsFrameRefusal why
      → Specifies (AreFrameRefused (rates phases down up) src datapath why) old
      → IsThisOrMemory why status
  frame_refusal_law src datapath phases down up out form allowed none why is given =
      frame_refuses (rates phases down up) (allowed_rates src datapath phases down up out allowed) src datapath old new
      given.files given.specified (λ r. none (inl (src, inl refl, r))) (λ r. none (inl (datapath, inr (inl refl), r)))
      why is given.so out (λ r. none (inr (inl (out, refl, r)))) status
      (frame_law words old new kept status ending src datapath phases down up out form)

  pub net_refusal_law : (joins samples out : Name)
      → IsNet words joins samples out
      → HasNoFaultRisen (net joins samples out) old new
      → (why : Status)
      → IsNetRefusal why
      → Specifies (IsNetRefused joins samples out why) old
      → IsThisOrMemory why status
  net_refusal_law joins samples out form none why is given =
      ended status (net_law words old new kept status ending joins samples out form)
    where
      ended : (answer : Status) → IsNetAnswer joins samples out old new kept answer → IsThisOrMemory why answer
      ended Done h =
          absurd (net_never_refused joins samples out old new given.files given.specified h.0 h.2 why is given.so)
      ended error h =
          net_refuses joins samples out old new given.files given.specified
          (λ name at rose. none (inl (name, at, rose)))
          (λ rose. none (inr (inl (out, refl, rose)))) one_refusal why is given.so error h

  pub stages_refusal_law : (src datapath : Name) (count : ℕ)
      → IsStages words src datapath count
      → HasNoFaultRisen (stages src datapath count) old new
      → (why : Status)
      → IsRefusal why
      → Specifies (AreStageRefused count src datapath why) old
      → IsThisOrMemory why status
  stages_refusal_law src datapath count form none why is given =
      stages_refuses count src datapath old new given.files given.specified why is given.so
      (λ r. none (inl (src, inl refl, r))) (λ r. none (inl (datapath, inr (inl refl), r)))
      (λ r. none (inr (inr (refl, r)))) status
      (stages_law words old new kept status ending src datapath count form)

  pub pipe_refusal_law : (src datapath : Name) (count : ℕ) (samples out : Name)
      → IsPipe words src datapath count samples out
      → HasNoFaultRisen (pipe src datapath count samples out) old new
      → (why : Status)
      → IsRefusal why
      → Specifies (AreStageRefused count src datapath why) old
      → IsThisOrMemory why status
  pipe_refusal_law src datapath count samples out form none why is given =
      pipe_refuses count src datapath old new given.files given.specified why is given.so samples out kept none status
      (pipe_law words old new kept status ending src datapath count samples out form)

  pub eval_refusal_law : (src samples out : Name)
      → IsEval words src samples out
      → HasNoFaultRisen (eval src samples out) old new
      → (fault : FrontFault)
      → Specifies (HasFrontFault src fault) old
      → IsThisOrMemory (FrontEnd fault) status
  eval_refusal_law src samples out form none fault given =
      eval_refuses src samples out old new given.files given.specified none fault given.so status
      (eval_law words old new kept status ending src samples out form)

  pub sim_refusal_law : (mic samples out : Name)
      → IsSim words mic samples out
      → HasNoFaultRisen (sim mic samples out) old new
      → (fault : ImageFault)
      → Specifies (HasImageFault mic fault) old
      → IsThisOrMemory (Image fault) status
  sim_refusal_law mic samples out form none fault given =
      sim_refuses mic old new given.files given.specified fault given.so samples out kept none status
      (sim_law words old new kept status ending mic samples out form)

  pub list_refusal_law : (mic : Name)
      → IsList words mic
      → HasNoFaultRisen (list mic) old new
      → (fault : ImageFault)
      → Specifies (HasImageFault mic fault) old
      → IsThisOrMemory (Image fault) status
  list_refusal_law mic form none fault given =
      list_refuses mic old new given.files given.specified fault given.so none status
      (list_law words old new kept status ending mic form)

  pub demo_refusal_law : (sections samples : ℕ)
      → IsDemo words sections samples
      → HasNoFaultRisen (demo sections samples) old new
      → (why : Status)
      → IsRefusal why
      → IsCascadeRefused why sections
      → IsThisOrMemory why status
  demo_refusal_law sections samples form none why is refused =
      demo_refuses sections samples old new kept none why is refused status
      (demo_law words old new kept status ending sections samples form)
