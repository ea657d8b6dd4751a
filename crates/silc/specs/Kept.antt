-- What a command keeps, and how a command ends that keeps something.
use Rattle.std.specs.Prelude.{◌≡◌, ◌≢◌}
use Rattle.silc.specs.declared.kept.Kept.{Kept}
use Rattle.silc.specs.declared.kept.Kept.TheVariants.{Nothing}
use Rattle.statuses.specs.declared.status.Status.{Status}
use Rattle.statuses.specs.declared.status.Status.TheVariants.{Done}

-- something is kept only where the command is done
abbrev pub KeepsAtMost : Kept → Status → Type 0
KeepsAtMost kept status = status ≢ Done → kept ≡ Nothing

module _ {A : Type 0} (keep : A → Kept) where
  -- something is kept of which this holds
  abbrev pub KeepsOne : (A → Type 0) → Kept → Type 0
  KeepsOne P kept = (one : A) × (kept ≡ keep one) × P one

  -- The command is done, and keeps something of which `Ran` holds; or it ends with an error, of which `IsError` tells
  -- why it comes.
  abbrev pub EndsWith : (Ran : A → Type 0) → (IsError : Status → Type 0) → Kept → Status → Type 0
  EndsWith Ran IsError kept Done = KeepsOne Ran kept
  EndsWith Ran IsError kept error = IsError error
