use Rattle.std.proofs.Common.{◌≡◌, ◌++◌, ◌+◌, ◌-◌, ◌+ℤ◌, pos, map, Some}
use Rattle.std.specs.List.{range_with_len}
use Rattle.element_rules.specs.ElementRules.{count_up, loop_turns}
use Rattle.loop_expand.specs.Private.Turns.{inner_at}
use Rattle.loop_expand.proofs.turns.put_turns.Given as goal

abbrev pub invariant-loop-k : goal.invariant-loop-k
invariant-loop-k l =
    l.inner.items
    ++ map (inner_at l.outer) (map (λ j. l.lo +ℤ pos j) (range_with_len (0 + l.k) (count_up l.lo l.hi - l.k)))
    ≡ l.fn.inner.items ++ map (inner_at l.outer) (loop_turns (Some l.lo) (Some l.hi))
