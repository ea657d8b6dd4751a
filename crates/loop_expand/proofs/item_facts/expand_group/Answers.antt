use Rattle.std.proofs.Common.{◌∙◌, ◌+◌, ◌-◌, ap, ap₂, List, map, arith}
use Rattle.std.specs.List.{range_with_len}
use Rattle.silage_syntax.specs.Manifests.{Indices}
use Rattle.type_rules.specs.TypedTree as typed
use Rattle.loop_expand.specs.Private.Elements.{view_elems, with_facts}
use Rattle.loop_expand.specs.Private.Facts.{joined, turn_facts, group_facts}
use Rattle.loop_expand.specs.Private.Groups.{view_ref, view_group}
use Rattle.loop_expand.specs.Private.Sites.{AreItemsOf}
use Rattle.loop_expand.specs.Private.Views.{view_scope}
use Rattle.loop_expand.specs.Private.Turns.{indices_at}
use Rattle.loop_expand.proofs.FactSteps.{next_joined, as_many}
use Rattle.loop_expand.proofs.GroupItems.{turn_there}
use Rattle.loop_expand.proofs.item_facts.expand_group.Goals as goal

pub loop-k-preserved : goal.loop-k-preserved
loop-k-preserved c =
    let scope = view_scope c.args.scope.now in
    let group = c.args.group.now in
    next_joined (turn_facts scope (map view_ref group.items.items)) (indices_at group.turns) group.turns.count
    c.loop-k.k (view_elems c.loop-k.elems) (view_elems c.expand_items.new.elems) _ (omega arith)
    (c.in_ok-expand_items.ensures
    ∙ ap₂ (λ (items : List typed.TypedItem) (env : Indices).
    with_facts (turn_facts scope items env) (view_elems c.loop-k.elems))
    (ap (map view_ref) c.deref.ensures.value) c.in_ok-env.ensures)
    c.loop-k.invariant

pub expand_items-requires-clause-elements : goal.expand_items-requires-clause-elements
expand_items-requires-clause-elements c =
    let scope = view_scope c.args.scope.now in
    let group = c.args.group.now in
    let rest =
    joined (turn_facts scope (map view_ref group.items.items))
    (map (indices_at group.turns) (range_with_len (0 + c.loop-k.k) (group.turns.count - c.loop-k.k))) in
    as_many rest (group_facts scope (view_group group)) c.loop-k.elems c.args.elems.now c.loop-k.invariant
    ∙ c.requires.elements

pub expand_items-requires-clause-of : goal.expand_items-requires-clause-of
expand_items-requires-clause-of c =
    let scope = view_scope c.args.scope.now in
    let group = c.args.group.now in
    let k = c.loop-k.k in
    let all : AreItemsOf scope (indices_at group.turns k) (map view_ref group.items.items) = λ n y at.
    c.requires.of k n (indices_at group.turns k) y (turn_there group.turns k (omega arith)) at in
    rw (c.deref.ensures.value, c.in_ok-env.ensures) all
