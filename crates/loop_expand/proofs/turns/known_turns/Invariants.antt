use Rattle.std.proofs.Common.{◌≡◌, ◌++◌, ◌+◌, ◌-◌, Some}
use Rattle.std.specs.List.{range_with_len}
use Rattle.element_rules.specs.ElementRules.{loop_turns}
use Rattle.loop_expand.specs.Private.Turns.{value_in, inner_of}
use Rattle.loop_expand.proofs.turns.known_turns.Given as goal

abbrev pub invariant-loop-k : goal.invariant-loop-k
invariant-loop-k l =
    l.inner.items
    ++ inner_of (λ k. loop_turns (Some (value_in l.lo k)) (Some (value_in l.hi k)))
    (range_with_len (0 + l.k) (l.count - l.k))
    ≡ inner_of (λ k. loop_turns (Some (value_in l.lo k)) (Some (value_in l.hi k))) (range_with_len 0 l.count)
