use Rattle.std.proofs.Common.{◌≡◌, ◌+◌, ◌-◌, ℕ, map}
use Rattle.std.specs.List.{range_with_len}
use Rattle.signal_graph.specs.Flat as flat
use Rattle.loop_expand.specs.Private.Elements.{view_elems, with_facts}
use Rattle.loop_expand.specs.Private.Facts.{defines, copies}
use Rattle.loop_expand.proofs.calls.copy.Given as goal

abbrev pub invariant-loop-k : goal.invariant-loop-k
invariant-loop-k l =
    with_facts
    (map (λ (k : ℕ). defines (l.to + k) (flat.read (l.from + k) 0)) (range_with_len (0 + l.k) (l.count - l.k)))
    (view_elems l.elems)
    ≡ with_facts (copies l.to l.from l.count) (view_elems l.fn.elems)
