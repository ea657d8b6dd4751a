-- What a table of rules is met with is its first fault, or none.
use Rattle.std.proofs.Common.{sym, subst, Result, Ok, Err, ◌≡◌}
use Rattle.std.specs.Prelude.{OnOk, IfErr}
use Rattle.fault_order.specs.Ranked.{IsClear, IsFirst}
use Rattle.fault_order.specs.Rules.{Rules, faults}
use Rattle.fault_order.specs.Private.FirstMet.{first}
use Rattle.fault_order.proofs.FirstFaults.{Answers}
use Rattle.fault_order.proofs.TableFaults.{first_answers}

module _ {F : Type 0} (rules : Rules F) where
  on_clear : (r : Result (Unit {0}) F) → Answers (faults rules) r → OnOk r (IsClear (faults rules))
  on_clear (Ok x) h = h
  on_clear (Err e) h = tt

  if_first : (r : Result (Unit {0}) F) → Answers (faults rules) r → IfErr r (IsFirst (faults rules))
  if_first (Ok x) h = tt
  if_first (Err e) h = h

  module _ (r : Result (Unit {0}) F) (met : r ≡ first rules) where
    answers : Answers (faults rules) r
    answers = subst (λ (x : Result (Unit {0}) F). Answers (faults rules) x) (sym met) (first_answers rules)

    pub clear : OnOk r (IsClear (faults rules))
    clear = on_clear r answers

    pub fault : IfErr r (IsFirst (faults rules))
    fault = if_first r answers
