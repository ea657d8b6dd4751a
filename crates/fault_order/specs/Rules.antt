-- Rules as a table: each is a test, with the fault where it fails.
use Rattle.std.specs.Prelude.{◌≡◌, ◌+◌, ℕ, Bool, false, List, [], ◌∷◌}
use Rattle.fault_order.specs.Ranked.{FaultSet, FaultRow, faults_in, own_fault, no_faults, ◌before◌}

mutual
  pub data Rules (F : Type 0) : Type 0 where
    -- the rules of the parts of a thing, in their order
    parts : RuleRow F → Rules F
    -- a rule of the thing itself, before those of its parts
    own : (holds : Bool) → F → RuleRow F → Rules F

  pub data RuleRow (F : Type 0) : Type 0 where
    none : RuleRow F
    ◌▸◌ : Rules F → RuleRow F → RuleRow F

infixr 20 ◌▸◌
module _ {F : Type 0} where
  -- one rule alone
  abbrev pub unless : (holds : Bool) → F → Rules F
  unless holds g = own holds g none

  abbrev pub each : {A : Type 0} → (A → Rules F) → List A → RuleRow F
  each G [] = none
  each G (x ∷ xs) = G x ▸ each G xs

  -- the same where the rules of a thing depend on its position, of which the first is k
  abbrev pub each_from : {A : Type 0} → (ℕ → A → Rules F) → (k : ℕ) → List A → RuleRow F
  each_from G k [] = none
  each_from G k (x ∷ xs) = G k x ▸ each_from G (k + 1) xs

  -- the faults of the rules that fail: the rank of each is its place in the table
  abbrev mutual
    pub faults : Rules F → FaultSet F
    faults (parts row) = faults_in (row_faults row)
    faults (own holds g row) = own_fault (holds ≡ false) g (row_faults row)

    pub row_faults : RuleRow F → FaultRow F
    row_faults none = no_faults
    row_faults (x ▸ row) = faults x before row_faults row
