-- A report of an error changes nothing but counts of faults, so a command ends after it as it did before.
use Rattle.std.proofs.Common.{[], ◌∷◌}
use Rattle.command_words.specs.Command.{Command, compile, schedule, list, sim, eval, run, demo, stages, pipe, frame}
use Rattle.command_words.specs.Command.{net}
use Rattle.desk_core.specs.View.{View}
use Rattle.desk_core.specs.Desk.{FaultsNeverFall, IsUnchanged}
use Rattle.rate_unfold.specs.Frames.{rates}
use Rattle.frame_command.proofs.Framed.{frame_reported}
use Rattle.net_command.specs.Net.{IsNetDone, IsNetError, IsNetInput}
use Rattle.net_command.proofs.NetAnswers.{net_still, net_reported}
use Rattle.plan_commands.proofs.Making.{reported}
use Rattle.plan_commands.proofs.Scheduling.{schedule_reported}
use Rattle.run_command.specs.Run.{IsExecuted, IsRunError}
use Rattle.run_command.proofs.Executing.{executed_still, run_reported}
use Rattle.sample_commands.specs.Sim.{IsSimulated, IsSimError}
use Rattle.sample_commands.proofs.Simulating.{simulated_still, sim_reported}
use Rattle.sample_commands.proofs.Solving.{eval_reported}
use Rattle.silc.specs.declared.kept.Kept.{Kept}
use Rattle.silc.specs.declared.kept.Kept.TheVariants.{One, Staged, Joined}
use Rattle.silc.specs.Endings.{IsEnding}
use Rattle.silc.proofs.Demonstrating.{demo_reported, prints_still}
use Rattle.silc.proofs.Listing.{list_reported}
use Rattle.silc.proofs.Keeping.{ends_still}
use Rattle.silc_files.specs.Endings.{IsAmong}
use Rattle.silc_files.proofs.Endings.{uses_still, changes_still}
use Rattle.stage_commands.specs.Pipe.{IsPiped, IsPipeError}
use Rattle.stage_commands.proofs.Piping.{piped_still, pipe_reported}
use Rattle.stage_commands.proofs.Staging.{stages_reported}
use Rattle.statuses.specs.declared.status.Status.{Status}

module _ (old mid new : View) (same : IsUnchanged mid new) (later : FaultsNeverFall mid new)
    (before : FaultsNeverFall old mid) (kept : Kept) (status : Status) where
  pub ending_reported : (command : Command)
      → IsEnding command old mid kept status
      → IsEnding command old new kept status
  ending_reported (compile src datapath out) h = (
    reported src datapath out old mid new same later before status h.0,
    uses_still old mid new same (IsAmong (src ∷ datapath ∷ [])) out h.1,
    h.2,
  )
  ending_reported (schedule src datapath) h = (
    schedule_reported src datapath old mid new same later before status h.0,
    changes_still old mid new same (IsAmong (src ∷ datapath ∷ [])) h.1,
    h.2,
  )
  ending_reported (list mic) h = (
    list_reported mic old mid new same later before status h.0,
    changes_still old mid new same (IsAmong (mic ∷ [])) h.1,
    h.2,
  )
  ending_reported (sim mic samples out) h = (
    ends_still One (λ machine. IsSimulated mic samples out machine old mid)
        (λ machine. IsSimulated mic samples out machine old new) (IsSimError mic samples out old mid)
        (IsSimError mic samples out old new) kept (simulated_still mic samples out old mid new same later before)
        (sim_reported mic samples out old mid new same later before) status h.0,
    uses_still old mid new same (IsAmong (mic ∷ samples ∷ [])) out h.1,
    h.2,
  )
  ending_reported (eval src samples out) h = (
    eval_reported src samples out old mid new same later before status h.0,
    uses_still old mid new same (IsAmong (src ∷ samples ∷ [])) out h.1,
    h.2,
  )
  ending_reported (run src datapath samples out) h = (
    ends_still One (λ machine. IsExecuted src datapath samples out machine old mid)
        (λ machine. IsExecuted src datapath samples out machine old new) (IsRunError src datapath samples out old mid)
        (IsRunError src datapath samples out old new) kept
        (executed_still src datapath samples out old mid new same later before)
        (run_reported src datapath samples out old mid new same later before) status h.0,
    uses_still old mid new same (IsAmong (src ∷ datapath ∷ samples ∷ [])) out h.1,
    h.2,
  )
  ending_reported (demo sections samples) h = (
    demo_reported sections samples old mid new same later before kept status h.0,
    prints_still old mid new same h.1,
    h.2,
  )
  ending_reported (stages src datapath count) h = (
    stages_reported count src datapath old mid new same later before status h.0,
    changes_still old mid new same (IsAmong (src ∷ datapath ∷ [])) h.1,
    h.2,
  )
  ending_reported (pipe src datapath count samples out) h = (
    ends_still Staged (λ machine. IsPiped count src datapath samples out machine old mid)
        (λ machine. IsPiped count src datapath samples out machine old new)
        (IsPipeError count src datapath samples out old mid) (IsPipeError count src datapath samples out old new) kept
        (piped_still count src datapath samples out old mid new same later before)
        (pipe_reported count src datapath samples out old mid new same later before) status h.0,
    uses_still old mid new same (IsAmong (src ∷ datapath ∷ samples ∷ [])) out h.1,
    h.2,
  )
  ending_reported (frame src datapath phases down up out) h = (
    frame_reported (rates phases down up) src datapath out old mid new same later before status h.0,
    uses_still old mid new same (IsAmong (src ∷ datapath ∷ [])) out h.1,
    h.2,
  )
  ending_reported (net joins samples out) h = (
    ends_still Joined (λ joined. IsNetDone joins samples out joined old mid)
        (λ joined. IsNetDone joins samples out joined old new) (IsNetError joins samples out old mid)
        (IsNetError joins samples out old new) kept (net_still joins samples out old mid new same later before)
        (net_reported joins samples out old mid new same later before) status h.0,
    uses_still old mid new same (IsNetInput joins samples out old) out h.1,
    h.2,
  )
