use Rattle.std.proofs.Common.{◌<◌, ◌++◌, ◌∙◌, ℤ, Some, map, ap₂, sym, arith, rules, w32}
use mir.Val.{SFits}
use Rattle.std.proofs.lemmas.Int.{to_z-of_z}
use Rattle.element_rules.specs.ElementRules.{loop_turns}
use Rattle.loop_expand.specs.Private.Turns.{value_in, inner_at}
use Rattle.loop_expand.proofs.TurnRows.{inner_more, none_within, no_turns}
use Rattle.loop_expand.proofs.turns.known_turns.Goals as goal

pub returns-then-are_past : goal.returns-then-are_past
returns-then-are_past c =
    c.new-inner.ensures.items
    ∙ sym (none_within (λ k. loop_turns (Some (value_in c.args.lo.now k)) (Some (value_in c.args.hi.now k))) 0
    c.args.count
    (λ k less.
    let within : k < c.args.count = omega arith in no_turns _ _ (c.are_past.ensures c.if-are_past.true k within)))

pub loop-k-preserved : goal.loop-k-preserved
loop-k-preserved c =
    let fits : SFits w32 c.value_of.result = search rules in
    let fits_last : SFits w32 c.value_of-in-loop-k.result = search rules in
    let put = simp (to_z-of_z, fits, fits_last) at c.in_ok-put_turns.ensures in
    inner_more (λ k. loop_turns (Some (value_in c.args.lo.now k)) (Some (value_in c.args.hi.now k))) c.args.count
    c.loop-k.k c.loop-k.inner.items c.put_turns.new.inner.items _ (omega arith)
    (put
    ∙ ap₂ (λ (a b : ℤ). c.loop-k.inner.items ++ map (inner_at c.loop-k.k) (loop_turns (Some a) (Some b)))
    c.value_of.ensures c.value_of-in-loop-k.ensures)
    c.loop-k.invariant
