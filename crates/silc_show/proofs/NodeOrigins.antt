-- The typed form and the elements of a program that has no fault are what its flat program is made of.
use Rattle.std.proofs.Common.{◌≡◌, ℕ, List}
use Rattle.silage_syntax.specs.Tree.{Program}
use Rattle.element_rules.specs.declared.elements.Elements.{Elements}
use Rattle.element_rules.specs.Expansion.{IsExpansion}
use Rattle.type_rules.specs.Translation.{typed_program}
use Rattle.type_rules.specs.TypedTree.{view_typed}
use Rattle.type_rules.specs.declared.typed.Typed.{Typed}
use Rattle.loop_expand.specs.Expanded.{AreOfOneProgram}
use Rattle.source_faults.specs.Faults.{HasProgram}
use Rattle.front_end.proofs.Counts.{checked}

pub of_one : (source : List ℕ) (p : Program) (typed : Typed) (es : Elements)
    → HasProgram source p
    → view_typed typed ≡ typed_program p
    → IsExpansion p es
    → AreOfOneProgram typed es
of_one source p typed es has program elements = (
  p,
  record {
    checked = checked source p has.read (record { names = has.names; elements = has.elements; types = has.types });
    program = program;
    elements = elements;
  },
)
