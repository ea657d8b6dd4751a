-- The first element of a program that depends on itself without a delay.
use Rattle.std.specs.Prelude.{ℕ, ◌≤◌}
use Rattle.silage_syntax.specs.Tree.{Program}
use Rattle.silage_meaning.specs.Instances.{Element}
use Rattle.silage_meaning.specs.Rules.{DependsNow}
use Rattle.element_rules.specs.Expansion.{IsExpansion}
use Rattle.element_rules.specs.declared.elements.Elements.{Elements}
use Rattle.element_rules.specs.Numbers.{IsNumberOf}

-- element k of the program's expansion depends on itself without a delay
pub record IsInLoop (p : Program) (k : ℕ) : Type 0 where
  pub elements : Elements
  pub expansion : IsExpansion p elements
  pub element : Element
  pub number : IsNumberOf elements k element
  pub loops : DependsNow p element element

-- and no element before it does
pub record IsFirstLoop (p : Program) (k : ℕ) : Type 0 where
  pub loop : IsInLoop p k
  pub first : (l : ℕ) → IsInLoop p l → k ≤ l
