use Rattle.std.proofs.Common.{List, Option, ℕ, ◌++◌, ap, ap₂, sym, subst, ◌∙◌, map, length, arith}
use Rattle.silage_syntax.specs.Tree.{view_place}
use Rattle.type_rules.specs.TypedTree as typed
use Rattle.loop_expand.specs.declared.body.Signal.{Signal}
use Rattle.loop_expand.specs.Private.Elements.{Puts}
use Rattle.loop_expand.specs.Private.Facts.{Fact, all_passed, all_taken, bound_by}
use Rattle.loop_expand.specs.Private.Scopes.{Body, view_body, view_signal, view_signals}
use Rattle.loop_expand.specs.Private.Views.{view_scope}
use Rattle.loop_expand.proofs.FactSteps.{puts_then, puts_as_many, map_long}
use Rattle.loop_expand.proofs.calls.bind.Goals as goal

pub returns : goal.returns
returns c =
    let scope = view_scope c.args.scope.now in
    let env = c.args.env.now in
    let places = map view_place c.args.places.now in
    let args = map typed.view_expr c.args.args.now in
    let step =
    ap₂ (λ (ss : List Signal) (rs : List Signal).
    all_passed scope env c.first_of-first.result (view_signals ss) args
    ++ all_taken scope env c.first_of-first.result (view_signals rs) places)
    c.deref.ensures.value c.deref-2.ensures.value
    ∙ ap₂ (λ (o : Option Body) (n : ℕ). bound_by scope env o n places args) c.instance_body-callee.ensures
    c.first_of-first.ensures in
    subst (λ (fs : List Fact). Puts fs c.args.elems.now c.take_all.new.elems) step
    (puts_then (all_passed scope env c.first_of-first.result (view_signals c.deref.result.now) args)
    (all_taken scope env c.first_of-first.result (view_signals c.deref-2.result.now) places)
    c.args.elems.now c.pass_all.new.elems c.take_all.new.elems c.in_ok-pass_all.ensures c.take_all.ensures)

pub pass_all-requires-clause-count : goal.pass_all-requires-clause-count
pass_all-requires-clause-count c =
    let known = c.requires.known (view_body c.instance_body-callee.result.now) (sym c.instance_body-callee.ensures) in
    omega (
      arith,
      known.few_args,
      map_long typed.view_expr c.args.args.now,
      map_long view_signal c.instance_body-callee.result.now.signals.items,
      ap length c.deref.ensures.value,
    )

pub pass_all-requires-clause-known : goal.pass_all-requires-clause-known
pass_all-requires-clause-known c =
    let known = c.requires.known (view_body c.instance_body-callee.result.now) (sym c.instance_body-callee.ensures) in
    rw (c.deref.ensures.value, c.first_of-first.ensures) known.passed

pub take_all-requires-clause-elements : goal.take_all-requires-clause-elements
take_all-requires-clause-elements c =
    puts_as_many
    (all_passed (view_scope c.args.scope.now) c.args.env.now c.first_of-first.result (view_signals c.deref.result.now)
    (map typed.view_expr c.args.args.now)) c.args.elems.now c.pass_all.new.elems c.in_ok-pass_all.ensures
    ∙ c.requires.elements

pub take_all-requires-clause-count : goal.take_all-requires-clause-count
take_all-requires-clause-count c =
    let known = c.requires.known (view_body c.instance_body-callee.result.now) (sym c.instance_body-callee.ensures) in
    omega (
      arith,
      known.few_places,
      map_long view_place c.args.places.now,
      map_long view_signal c.instance_body-callee.result.now.results.items,
      ap length c.deref-2.ensures.value,
    )

pub take_all-requires-clause-known : goal.take_all-requires-clause-known
take_all-requires-clause-known c =
    let known = c.requires.known (view_body c.instance_body-callee.result.now) (sym c.instance_body-callee.ensures) in
    rw (c.deref-2.ensures.value, c.first_of-first.ensures) known.taken
