use Rattle.std.proofs.Common.{◌≡◌, ◌+◌, ◌*◌, map, take}
use Rattle.signal_graph.specs.declared.flat.FlatExpr.{FlatExpr}
use Rattle.signal_graph.specs.Flat.{view_expr, size, size_of_parts}
use Rattle.signal_graph.specs.Expressions.{view_exprs}
use Rattle.rate_unfold.specs.Private.Unfolding.{expr_in_phase}
use Rattle.rate_unfold.proofs.phases.+copies.Given as goal

abbrev pub invariant-parts_in_phase-loop-part : goal.invariant-parts_in_phase-loop-part
invariant-parts_in_phase-loop-part l =
    map view_expr l.copies.items
    ≡ map (λ (x : FlatExpr). expr_in_phase l.phase.phases l.phase.elements l.phase.number (view_expr x))
    (take l.part-index l.parts)

abbrev pub decreases-expr_in_phase : goal.decreases-expr_in_phase
decreases-expr_in_phase l = 2 * size (view_expr l.value.now)

abbrev pub decreases-parts_in_phase : goal.decreases-parts_in_phase
decreases-parts_in_phase l = 2 * size_of_parts (view_exprs l.parts.now) + 1
