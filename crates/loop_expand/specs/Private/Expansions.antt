-- The flat program that a typed program and instances come to.
use Rattle.std.specs.Prelude.{ℕ, List, [], length, slice_get, Option, Some, None}
use Rattle.fix_word.specs.declared.types.SigType.{SigType}
use Rattle.element_rules.specs.declared.elements.Instance.{Instance}
use Rattle.type_rules.specs.declared.typed.TypedConst.{TypedConst}
use Rattle.type_rules.specs.TypedTree.{Typed}
use Rattle.signal_graph.specs.Flat as flat
use Rattle.loop_expand.specs.Private.Scopes.{Body, body_at, bodies_for, firsts_from}
use Rattle.loop_expand.specs.Private.Facts.{facts_from}
use Rattle.loop_expand.specs.Private.Elements.{types_of, first_elements, inputs_of, outs_of, with_facts}

abbrev pub elements_by : List TypedConst → List Body → List Instance → (inputs : ℕ) → List flat.Element
elements_by tables bodies instances inputs =
    with_facts (facts_from tables bodies instances (firsts_from bodies 0 instances) 0 instances)
    (first_elements inputs 0 (types_of bodies instances))

abbrev pub main_inputs : Option Body → List SigType
main_inputs None = []
main_inputs (Some b) = inputs_of b.of

abbrev pub main_outs : Option Body → List ℕ
main_outs None = []
main_outs (Some b) = outs_of b.of

abbrev pub bodies_by : Typed → List Instance → List Body
bodies_by t instances = bodies_for instances t.funcs

abbrev pub flat_with : List TypedConst → List Body → List Instance → flat.Program
flat_with tables bodies instances = record {
  elems = elements_by tables bodies instances (length (main_inputs (body_at bodies (slice_get instances 0))));
  inputs = main_inputs (body_at bodies (slice_get instances 0));
  outs = main_outs (body_at bodies (slice_get instances 0));
}

abbrev pub flat_by : Typed → List Instance → flat.Program
flat_by t instances = flat_with t.consts (bodies_by t instances) instances
