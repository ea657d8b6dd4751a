use Rattle.std.proofs.Common.{◌≡◌, ℕ, ◌<◌}
use Rattle.std.specs.Prelude.{slice_index_or}
use Rattle.node_order.specs.Private.Search.{no_edge}
use Rattle.node_order.specs.declared.search.Mark.TheVariants.{New}
use Rattle.node_order.specs.Private.Search.{mark_at}
use Rattle.node_order.proofs.search.new_operand.Given as goal

abbrev pub invariant-loop-edge : goal.invariant-loop-edge
invariant-loop-edge l =
    (q : ℕ) → q < l.edge-index → (slice_index_or l.edge-items q no_edge).delay ≡ 0
    → mark_at l.marks (slice_index_or l.edge-items q no_edge).node ≡ New → ⊥
