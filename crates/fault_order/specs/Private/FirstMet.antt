-- The fault that is met first on the way through a table of rules, in order.
use Rattle.std.specs.Prelude.{◌≡◌, ◌≢◌, true, false, Result, Ok, Err}
use Rattle.fault_order.specs.Rules.{Rules, RuleRow, parts, own, none, ◌▸◌}

module _ {F : Type 0} where
  infixl 10 ◌>>◌
  abbrev pub ◌>>◌ : Result (Unit {0}) F → Result (Unit {0}) F → Result (Unit {0}) F
  (Ok x) >> b = b
  (Err e) >> b = Err e

  -- Ok where no rule fails
  abbrev mutual
    pub first : Rules F → Result (Unit {0}) F
    first (parts row) = first_in row
    first (own true g row) = first_in row
    first (own false g row) = Err g

    pub first_in : RuleRow F → Result (Unit {0}) F
    first_in none = Ok tt
    first_in (x ▸ row) = first x >> first_in row

  -- the call answers as a table is met, or it is out of memory
  abbrev pub MeetsOr : {A : Type 0} → (memory : F) → (met : Result (Unit {0}) F) → Result A F → Type 0
  MeetsOr memory met (Ok x) = met ≡ Ok tt
  MeetsOr memory met (Err e) = e ≢ memory → met ≡ Err e
