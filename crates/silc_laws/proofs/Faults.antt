-- A command answers that a file fault ended it only where a count of faults of its own rose.
use Rattle.std.proofs.Common.{◌≡◌, ◌⊎◌, refl, subst, inl, inr, ⊎_elim, arith, ℕ, List}
use Rattle.std.specs.Prelude.{String}
use Rattle.std.specs.declared.alloc.Global.{Global}
use Rattle.command_words.specs.Command.{Command, compile, schedule, list, sim, eval, run, demo, stages, pipe, frame}
use Rattle.command_words.specs.Command.{net}
use Rattle.command_words.specs.Command.{IsCommandIn}
use Rattle.desk_core.specs.View.{Name, View}
use Rattle.desk_core.specs.Desk.{Rose, ReadFaultsRose}
use Rattle.desk_core.specs.NeverFails.{view_of}
use Rattle.desk_core.specs.declared.never_fails.NeverFails.{NeverFails}
use Rattle.frame_command.specs.Frame.{IsFrameAnswer}
use Rattle.rate_unfold.specs.Frames.{rates}
use Rattle.frame_command.specs.FramePlans.{IsFrameRefusal, IsFrameRefused}
use Rattle.net_command.proofs.NetAnswers.{net_fault}
use Rattle.plan_commands.specs.Compile.{IsAnswer}
use Rattle.plan_commands.specs.Refusals.{IsRefusal, IsRefused, IsErrorOf}
use Rattle.plan_commands.specs.Schedule.{IsScheduleAnswer}
use Rattle.sample_commands.specs.Eval.{IsEvalAnswer}
use Rattle.silc.specs.Runs.{IsSimAnswer, IsRunAnswer, IsPipeAnswer, IsNetAnswer}
use Rattle.silc.specs.declared.kept.Kept.{Kept}
use Rattle.sample_commands.proofs.EarlyEnds.{cut_rose}
use Rattle.silc.specs.Demo.{IsDemoAnswer}
use Rattle.silc.specs.Endings.{IsEnding}
use Rattle.silc.specs.Listing.{IsListAnswer}
use Rattle.silc_laws.specs.Faults.{HasFaultRisen}
use Rattle.silc_laws.proofs.Laws.{answer_law, schedule_law, list_law, demo_law, sim_law, eval_law, run_law}
use Rattle.silc_laws.proofs.Laws.{stages_law, pipe_law, frame_law, net_law}
use Rattle.stage_commands.specs.StagePlans.{IsStageRefused}
use Rattle.stage_commands.specs.Stages.{IsStagesAnswer}
use Rattle.statuses.specs.declared.status.Status.{Status}
use Rattle.statuses.specs.declared.status.Status.TheVariants.{Desk}

module _ (old new : View) (kept : Kept) where
  -- no refusal is a file fault
  planning_by : (IsWhy : Status → Type 0) (Tells : Status → (source datapath : List ℕ) → Type 0) (src datapath : Name)
      → (IsWhy Desk → ⊥)
      → IsErrorOf IsWhy Tells src datapath old new Desk
      → ReadFaultsRose src old new ⊎ ReadFaultsRose datapath old new
  planning_by IsWhy Tells src datapath never (inl memory) = absurd (let e = memory.0 in cc)
  planning_by IsWhy Tells src datapath never (inr (inl unread)) = unread.1.rose
  planning_by IsWhy Tells src datapath never (inr (inr refused)) = absurd (never refused.0)

  planning : (Tells : Status → (source datapath : List ℕ) → Type 0) (src datapath : Name)
      → IsErrorOf IsRefusal Tells src datapath old new Desk
      → ReadFaultsRose src old new ⊎ ReadFaultsRose datapath old new
  planning Tells src datapath = planning_by IsRefusal Tells src datapath (λ never. never)

  compiling : (src datapath out : Name)
      → IsAnswer src datapath out old new Desk
      → HasFaultRisen (compile src datapath out) old new
  compiling src datapath out (inl error) =
      ⊎_elim (λ r. inl (src, inl refl, r)) (λ r. inl (datapath, inr (inl refl), r))
      (planning IsRefused src datapath error)
  compiling src datapath out (inr cut) = inr (inl (out, refl, cut.written.rose))

  framing : (src datapath : Name) (phases : ℕ) (down up : List ℕ) (out : Name)
      → IsFrameAnswer (rates phases down up) src datapath out old new Desk
      → HasFaultRisen (frame src datapath phases down up out) old new
  framing src datapath phases down up out (inl error) =
      ⊎_elim (λ r. inl (src, inl refl, r)) (λ r. inl (datapath, inr (inl refl), r))
      (planning_by IsFrameRefusal (IsFrameRefused (rates phases down up)) src datapath (λ never. never) error)
  framing src datapath phases down up out (inr cut) = inr (inl (out, refl, cut.written.rose))

  scheduling : (src datapath : Name)
      → IsScheduleAnswer src datapath old new Desk
      → HasFaultRisen (schedule src datapath) old new
  scheduling src datapath (inl error) =
      ⊎_elim (λ r. inl (src, inl refl, r)) (λ r. inl (datapath, inr (inl refl), r))
      (planning IsRefused src datapath error)
  scheduling src datapath (inr cut) = inr (inr (refl, cut.rose))

  staging : (count : ℕ) (src datapath : Name)
      → IsStagesAnswer count src datapath old new Desk
      → HasFaultRisen (stages src datapath count) old new
  staging count src datapath (inl error) =
      ⊎_elim (λ r. inl (src, inl refl, r)) (λ r. inl (datapath, inr (inl refl), r))
      (planning (IsStageRefused count) src datapath error)
  staging count src datapath (inr cut) = inr (inr (refl, cut.rose))

  listing : (mic : Name) → IsListAnswer mic old new Desk → HasFaultRisen (list mic) old new
  listing mic (inl done) = absurd (let e = done.0 in cc)
  listing mic (inr (inl cut)) = inr (inr (refl, cut.1.rose))
  listing mic (inr (inr (inl memory))) = absurd (let e = memory.0 in cc)
  listing mic (inr (inr (inr (inl unread)))) = inl (mic, inl refl, unread.1.rose)
  listing mic (inr (inr (inr (inr (fault, e, rejected))))) = absurd (cc)

  pub simulating : (mic samples out : Name)
      → IsSimAnswer mic samples out old new kept Desk
      → HasFaultRisen (sim mic samples out) old new
  simulating mic samples out (inl unread) =
      ⊎_elim (λ r. inl (mic, inl refl, r)) (λ r. inl (samples, inr (inl refl), r.rose)) unread.rose
  simulating mic samples out (inr stopped) =
      ⊎_elim (λ r. inl (samples, inr (inl refl), r)) (λ w. inr (inl (out, refl, w)))
      (⊎_elim (λ not. inr not.rose) (λ cut. cut_rose samples out _ _ old new cut) stopped.ended)

  pub evaluating : (src samples out : Name)
      → IsEvalAnswer src samples out old new Desk
      → HasFaultRisen (eval src samples out) old new
  evaluating src samples out (inl unread) =
      ⊎_elim (λ r. inl (src, inl refl, r)) (λ r. inl (samples, inr (inl refl), r.rose)) unread.rose
  evaluating src samples out (inr stopped) =
      ⊎_elim (λ r. inl (samples, inr (inl refl), r)) (λ w. inr (inl (out, refl, w)))
      (⊎_elim (λ not. inr not.rose) (λ cut. cut_rose samples out _ _ old new cut) stopped.ended)

  pub running : (src datapath samples out : Name)
      → IsRunAnswer src datapath samples out old new kept Desk
      → HasFaultRisen (run src datapath samples out) old new
  running src datapath samples out (inl (inl error)) =
      ⊎_elim (λ r. inl (src, inl refl, r)) (λ r. inl (datapath, inr (inl refl), r))
      (planning IsRefused src datapath error)
  running src datapath samples out (inl (inr unread)) = inl (samples, inr (inr (inl refl)), unread.unopened.rose)
  running src datapath samples out (inr stopped) =
      ⊎_elim (λ r. inl (samples, inr (inr (inl refl)), r)) (λ w. inr (inl (out, refl, w)))
      (⊎_elim (λ not. inr not.rose) (λ cut. cut_rose samples out _ _ old new cut) stopped.ended)

  pub piping : (src datapath : Name) (count : ℕ) (samples out : Name)
      → IsPipeAnswer src datapath count samples out old new kept Desk
      → HasFaultRisen (pipe src datapath count samples out) old new
  piping src datapath count samples out (inl (inl error)) =
      ⊎_elim (λ r. inl (src, inl refl, r)) (λ r. inl (datapath, inr (inl refl), r))
      (planning (IsStageRefused count) src datapath error)
  piping src datapath count samples out (inl (inr unread)) = inl (samples, inr (inr (inl refl)), unread.unopened.rose)
  piping src datapath count samples out (inr stopped) =
      ⊎_elim (λ r. inl (samples, inr (inr (inl refl)), r)) (λ w. inr (inl (out, refl, w)))
      (⊎_elim (λ not. inr not.rose) (λ cut. cut_rose samples out _ _ old new cut) stopped.ended)

  pub netting : (joins samples out : Name)
      → IsNetAnswer joins samples out old new kept Desk
      → HasFaultRisen (net joins samples out) old new
  netting joins samples out error =
      ⊎_elim (λ read. inl read) (λ w. inr (inl (out, refl, w))) (net_fault joins samples out old new error)

  demonstrating : (sections samples : ℕ)
      → IsDemoAnswer sections samples old new kept Desk
      → HasFaultRisen (demo sections samples) old new
  demonstrating sections samples (inl done) = absurd (let e = done.0 in cc)
  demonstrating sections samples (inr (inl cut)) = inr (inr (refl, cut.1.rose))
  demonstrating sections samples (inr (inr error)) =
      absurd (⊎_elim (λ memory. cc) (λ refused. refused.0) error.why)

module _ (words : List (String Global)) (old new : View) (kept : Kept) (status : Status)
    (ending : (command : Command)
    → IsCommandIn words command
    → IsEnding command old new kept status)
    (fault : status ≡ Desk) where
  pub fault_law : (command : Command) → IsCommandIn words command → HasFaultRisen command old new
  fault_law (compile src datapath out) form =
      compiling old new kept src datapath out
      (subst (λ (s : Status). IsAnswer src datapath out old new s) fault
      (answer_law words old new kept status ending src datapath out form))
  fault_law (schedule src datapath) form =
      scheduling old new kept src datapath
      (subst (λ (s : Status). IsScheduleAnswer src datapath old new s) fault
      (schedule_law words old new kept status ending src datapath form))
  fault_law (list mic) form =
      listing old new kept mic
      (subst (λ (s : Status). IsListAnswer mic old new s) fault (list_law words old new kept status ending mic form))
  fault_law (sim mic samples out) form =
      simulating old new kept mic samples out
      (subst (λ (s : Status). IsSimAnswer mic samples out old new kept s) fault
      (sim_law words old new kept status ending mic samples out form))
  fault_law (eval src samples out) form =
      evaluating old new kept src samples out
      (subst (λ (s : Status). IsEvalAnswer src samples out old new s) fault
      (eval_law words old new kept status ending src samples out form))
  fault_law (run src datapath samples out) form =
      running old new kept src datapath samples out
      (subst (λ (s : Status). IsRunAnswer src datapath samples out old new kept s) fault
      (run_law words old new kept status ending src datapath samples out form))
  fault_law (demo sections samples) form =
      demonstrating old new kept sections samples
      (subst (λ (s : Status). IsDemoAnswer sections samples old new kept s) fault
      (demo_law words old new kept status ending sections samples form))
  fault_law (stages src datapath count) form =
      staging old new kept count src datapath
      (subst (λ (s : Status). IsStagesAnswer count src datapath old new s) fault
      (stages_law words old new kept status ending src datapath count form))
  fault_law (pipe src datapath count samples out) form =
      piping old new kept src datapath count samples out
      (subst (λ (s : Status). IsPipeAnswer src datapath count samples out old new kept s) fault
      (pipe_law words old new kept status ending src datapath count samples out form))
  fault_law (frame src datapath phases down up out) form =
      framing old new kept src datapath phases down up out
      (subst (λ (s : Status). IsFrameAnswer (rates phases down up) src datapath out old new s) fault
      (frame_law words old new kept status ending src datapath phases down up out form))
  fault_law (net joins samples out) form =
      netting old new kept joins samples out
      (subst (λ (s : Status). IsNetAnswer joins samples out old new kept s) fault
      (net_law words old new kept status ending joins samples out form))

-- over a desk that never fails none rises
never : Rose 0 0 → ⊥
never (inl more) = omega arith
never (inr top) = omega arith

pub none_risen : (command : Command) (old new : NeverFails) → HasFaultRisen command (view_of old) (view_of new) → ⊥
none_risen command old new (inl read) = never read.2
none_risen command old new (inr (inl written)) = never written.2
none_risen command old new (inr (inr printed)) = never printed.1
