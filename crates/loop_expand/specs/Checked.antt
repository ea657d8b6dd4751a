-- What the checks say of a program.
use Rattle.std.specs.Prelude.{◌≡◌, ℕ, ◌≤◌, length, slice_get, Some}
use Rattle.fault_order.specs.Ranked.{IsClear}
use Rattle.silage_syntax.specs.Tree.{Func, function, Program}
use Rattle.silage_meaning.specs.Instances.{HasCallsApart}
use Rattle.name_rules.specs.NameFaults.{name_faults}
use Rattle.element_rules.specs.ElementFaults.{element_faults}
use Rattle.element_rules.specs.CallPositions.{HasOwnPositions}
use Rattle.type_rules.specs.Numbers.{AreNumbersShort}
use Rattle.type_rules.specs.TypeFaults.{type_faults}

-- each function has a parameter and a result, as the grammar asks
abbrev pub HasParametersAndResults : Program → Type 0
HasParametersAndResults p =
    (k : ℕ) (f : Func) → slice_get p.tops k ≡ Some (function f) → (1 ≤ length f.params) × (1 ≤ length f.results)

-- it has no fault of names, elements or types, and was read from a source
pub record IsChecked (p : Program) : Type 0 where
  pub names : IsClear (name_faults p)
  pub elements : IsClear (element_faults p)
  pub types : IsClear (type_faults p)
  pub numbers : AreNumbersShort p
  pub calls : HasCallsApart p
  pub positions : HasOwnPositions p
  pub signals : HasParametersAndResults p
