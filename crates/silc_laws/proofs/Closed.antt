-- A command that writes a file and is done has closed OUT.
use Rattle.std.proofs.Common.{None, Some, ◌≡◌, subst, List}
use Rattle.std.specs.Prelude.{String}
use Rattle.std.specs.declared.alloc.Global.{Global}
use Rattle.command_words.specs.Command.{Command, compile, schedule, list, sim, eval, run, demo, stages, pipe, frame}
use Rattle.command_words.specs.Command.{net}
use Rattle.command_words.specs.Command.{IsCommandIn, output_of}
use Rattle.desk_core.specs.View.{Name, View}
use Rattle.desk_core.specs.Desk.{HasOutput}
use Rattle.silc.specs.Endings.{IsEnding}
use Rattle.silc.specs.declared.kept.Kept.{Kept}
use Rattle.silc_laws.specs.Forms.{IsCommandTo}
use Rattle.statuses.specs.declared.status.Status.{Status}
use Rattle.statuses.specs.declared.status.Status.TheVariants.{Done}

module _ (old new : View) (kept : Kept) where
  closes : (command : Command) (out : Name)
      → output_of command ≡ Some out
      → IsEnding command old new kept Done
      → HasOutput None new
  closes (compile src datapath own) out writes h = h.0.finished.closed
  closes (sim mic samples own) out writes h = h.0.2.finished.closed
  closes (eval src samples own) out writes h = h.0.finished.closed
  closes (run src datapath samples own) out writes h = h.0.2.solved.finished.closed
  closes (schedule src datapath) out writes h = absurd (cc)
  closes (list mic) out writes h = absurd (cc)
  closes (demo sections samples) out writes h = absurd (cc)
  closes (stages src datapath count) out writes h = absurd (cc)
  closes (pipe src datapath count samples own) out writes h = h.0.2.solved.finished.closed
  closes (frame src datapath phases down up own) out writes h = h.0.finished.closed
  closes (net joins samples own) out writes h = h.0.2.finished.closed

  pub done_closed : (words : List (String Global)) (status : Status)
      → ((command : Command) → IsCommandIn words command → IsEnding command old new kept status)
      → status ≡ Done
      → (out : Name)
      → IsCommandTo words out
      → HasOutput None new
  done_closed words status ending done out (command, form, writes) =
      closes command out writes
      (subst (λ (s : Status). IsEnding command old new kept s) done (ending command form))
