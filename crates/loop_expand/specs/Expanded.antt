-- What expansion takes: the typed program and the elements of one program that passed the checks.
use Rattle.std.specs.Prelude.{◌≡◌}
use Rattle.silage_syntax.specs.Tree.{Program}
use Rattle.element_rules.specs.declared.elements.Elements.{Elements}
use Rattle.element_rules.specs.Expansion.{IsExpansion}
use Rattle.type_rules.specs.declared.typed.Typed.{Typed}
use Rattle.type_rules.specs.TypedTree.{view_typed}
use Rattle.type_rules.specs.Translation.{typed_program}
use Rattle.loop_expand.specs.Checked.{IsChecked}

-- they are of this program
pub record AreOf (p : Program) (typed : Typed) (es : Elements) : Type 0 where
  pub checked : IsChecked p
  pub program : view_typed typed ≡ typed_program p
  pub elements : IsExpansion p es

abbrev pub AreOfOneProgram : Typed → Elements → Type 0
AreOfOneProgram typed es = (p : Program) × AreOf p typed es
