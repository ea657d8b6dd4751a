-- How large actions are, with those inside of them.
use Rattle.std.proofs.Common.{◌≡◌, ◌<◌, ◌≤◌, ◌+◌, ℕ, zero, suc, List, [], ◌∷◌, length, get_or, ap, arith}
use Rattle.elaboration_code.specs.declared.actions.Action.{Action as RustAction}
use Rattle.elaboration_code.specs.Actions.{Action, repeat, Actions, no_action, action, view_action, view_actions}

abbrev mutual
  pub size_of : Action → ℕ
  size_of (repeat lo hi actions at) = 1 + size_in actions
  size_of _ = 1

  pub size_in : Actions → ℕ
  size_in no_action = 1
  size_in (action x rest) = size_of x + size_in rest

some : (xs : Actions) → 1 ≤ size_in xs
some no_action = omega arith
some (action x rest) = omega (arith, some rest)

pub smaller : (xs : List RustAction) (i : ℕ) (x : RustAction)
    → i < length xs
    → x ≡ get_or xs i x
    → size_of (view_action x) < size_in (view_actions xs)
smaller [] i x less e = absurd (omega arith)
smaller (y ∷ xs) zero x less e = omega (arith, ap (λ z. size_of (view_action z)) e, some (view_actions xs))
smaller (y ∷ xs) (suc i) x less e = omega (arith, smaller xs i x (omega arith) e)
