-- How a command ends that keeps something, from what it gave.
use Rattle.std.proofs.Common.{◌≡◌, sym, subst, Result, Ok, Err}
use Rattle.std.specs.Prelude.{IfOk, IfErr}
use Rattle.silc.specs.Kept.{KeepsAtMost, EndsWith}
use Rattle.silc.specs.declared.kept.Kept.{Kept}
use Rattle.silc.specs.declared.kept.Kept.TheVariants.{Nothing}
use Rattle.statuses.specs.declared.status.Ending.{Ending}
use Rattle.statuses.specs.declared.status.Status.{Status}
use Rattle.statuses.specs.declared.status.Status.TheVariants.{Done}

-- an error is no status of a command that is done
ends_error : {A : Type 0} (keep : A → Kept) (Ran : A → Type 0) (IsError : Status → Type 0) (kept : Kept)
    → (IsError Done → ⊥)
    → (status : Status)
    → IsError status
    → EndsWith keep Ran IsError kept status
ends_error keep Ran IsError kept not_done Done h = absurd (not_done h)
ends_error keep Ran IsError kept not_done error h = h

-- the machine was kept, or there was none
pub kept_ending :
    {A : Type 0} (keep : A → Kept) (Ran : A → Type 0) (IsError : Status → Type 0) (ran : Result A Ending) (kept : Kept)
    (ending : Ending)
    → (IsError Done → ⊥)
    → IfOk ran (λ one. (ending.status ≡ Done) × (kept ≡ keep one))
    → IfErr ran (λ error. (ending ≡ error) × (kept ≡ Nothing))
    → IfOk ran Ran
    → IfErr ran (λ error. IsError error.status)
    → EndsWith keep Ran IsError kept ending.status × KeepsAtMost kept ending.status
kept_ending keep Ran IsError (Ok one) kept ending not_done done error ran failed =
    (subst (EndsWith keep Ran IsError kept) (sym done.0) (one, done.1, ran), λ ne. absurd (ne done.0))
kept_ending keep Ran IsError (Err other) kept ending not_done done error ran failed = (
  subst (λ (e : Ending). EndsWith keep Ran IsError kept e.status) (sym error.0)
      (ends_error keep Ran IsError kept not_done other.status failed),
  λ ne. error.1,
)

-- what holds of the run and of the error may be said of another view
pub ends_still :
    {A : Type 0} (keep : A → Kept) (Ran RanOn : A → Type 0) (IsError IsErrorOn : Status → Type 0) (kept : Kept)
    → ((one : A) → Ran one → RanOn one)
    → ((status : Status) → IsError status → IsErrorOn status)
    → (status : Status)
    → EndsWith keep Ran IsError kept status
    → EndsWith keep RanOn IsErrorOn kept status
ends_still keep Ran RanOn IsError IsErrorOn kept ran error Done h = (h.0, h.1, ran h.0 h.2)
ends_still keep Ran RanOn IsError IsErrorOn kept ran error other h = error other h
