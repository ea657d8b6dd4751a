use Rattle.std.proofs.Common.{◌≡◌, ◌∙◌, refl, ap, ap₂, map, List, rules, arith, length, slice_get}
use Rattle.element_rules.specs.declared.elements.Instance.{Instance}
use Rattle.type_rules.specs.declared.typed.TypedFunc.{TypedFunc}
use Rattle.type_rules.specs.TypedTree.{Typed as Tree, view_func, view_typed}
use Rattle.loop_expand.specs.Private.Scopes.{Body, bodies_for, body_at, view_body, view_bodies}
use Rattle.loop_expand.proofs.FlatMade.{few_inputs}
use Rattle.loop_expand.proofs.Sites.{bounded, of_program, some_instances, have_bodies}
use Rattle.loop_expand.proofs.program.flat_program.Goals as goal

pub bodies-requires : goal.bodies-requires
bodies-requires c =
    let (p, of) = c.requires in
    bounded c.args.typed.now c.args.elements.now p of (map view_func c.deref.result.now) c.deref-2.result.now
    (ap (map view_func) c.deref.ensures) c.deref-2.ensures

pub instance_body-requires-clause-bodies : goal.instance_body-requires-clause-bodies
instance_body-requires-clause-bodies c =
    let (p, of) = c.requires in
    let t = c.args.typed.now in
    let es = c.args.elements.now in
    let bodies : view_bodies c.deref-3.result.now ≡ bodies_for es.instances (view_typed t).funcs =
    ap view_bodies c.deref-3.ensures.value ∙ c.in_ok-bodies.ensures
    ∙ ap₂ (λ (is : List Instance) (fs : List TypedFunc). bodies_for is (map view_func fs)) c.deref-2.ensures
    c.deref.ensures in
    have_bodies t.consts (view_bodies c.deref-3.result.now) c.deref-4.result.now
    (of_program t es p of t.consts (view_bodies c.deref-3.result.now) c.deref-4.result.now refl bodies
    c.deref-4.ensures)

pub instance_body-requires-clause-instance : goal.instance_body-requires-clause-instance
instance_body-requires-clause-instance c =
    let (p, of) = c.requires in
    some_instances c.args.typed.now c.args.elements.now p of c.deref-4.result.now c.deref-4.ensures

pub all_elements-requires-clause-inputs : goal.all_elements-requires-clause-inputs
all_elements-requires-clause-inputs c =
    let (p, of) = c.requires in
    let t = c.args.typed.now in
    let es = c.args.elements.now in
    let bodies : view_bodies c.deref-3.result.now ≡ bodies_for es.instances (view_typed t).funcs =
    ap view_bodies c.deref-3.ensures.value ∙ c.in_ok-bodies.ensures
    ∙ ap₂ (λ (is : List Instance) (fs : List TypedFunc). bodies_for is (map view_func fs)) c.deref-2.ensures
    c.deref.ensures in
    let whole = bodies ∙ ap (λ (u : Tree). bodies_for es.instances u.funcs) of.program in
    let main = view_body c.instance_body.result.now in
    let is =
    c.instance_body.ensures
    ∙ ap₂ (λ (bs : List Body) (is : List Instance). body_at bs (slice_get is 0)) whole c.deref-4.ensures in
    let long : c.len.result ≡ length c.in_ok-inputs.inputs = search rules in
    omega (arith, long, ap length c.in_ok-inputs.ensures.0, few_inputs p of.checked es of.elements main is)
