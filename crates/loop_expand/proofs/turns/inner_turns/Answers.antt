use Rattle.std.proofs.Common.{◌<◌, ◌∙◌, Some, sym, ap₂, arith}
use Rattle.silage_syntax.specs.Manifests.{manifest_value}
use Rattle.silage_syntax.specs.Tree.{view_manifest}
use Rattle.element_rules.specs.ElementRules.{loop_turns}
use Rattle.loop_expand.specs.Private.Turns.{indices_at, value_in}
use Rattle.loop_expand.proofs.TurnRows.{inner_same, inner_inside, if_ok}
use Rattle.loop_expand.proofs.turns.inner_turns.Goals as goal

pub returns-clause-inside : goal.returns-clause-inside
returns-clause-inside c =
    if_ok c.known_turns.result
    (λ inner is.
    inner_inside (λ k. loop_turns (Some (value_in c.in_ok-first.first k)) (Some (value_in c.in_ok-last.last k)))
    c.args.turns.now.count inner.items is)
    c.known_turns.ensures

pub returns-clause-turns : goal.returns-clause-turns
returns-clause-turns c =
    let turns = c.args.turns.now in
    let lo = view_manifest c.args.lo.now in
    let hi = view_manifest c.args.hi.now in
    if_ok c.known_turns.result
    (λ inner is.
    is
    ∙ inner_same (λ k. loop_turns (Some (value_in c.in_ok-first.first k)) (Some (value_in c.in_ok-last.last k)))
    (λ k. loop_turns (manifest_value (indices_at turns k) lo) (manifest_value (indices_at turns k) hi)) 0
    turns.count
    (λ k less.
    let within : k < turns.count = omega arith in
    sym (ap₂ loop_turns (c.in_ok-first.ensures.values k within) (c.in_ok-last.ensures.values k within))))
    c.known_turns.ensures
