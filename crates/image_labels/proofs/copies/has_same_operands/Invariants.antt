use Rattle.std.proofs.Common.{ℕ, ◌<◌}
use Rattle.operations.specs.Operations.{operands}
use Rattle.plan_core.specs.Operands.{edge_of}
use Rattle.image_labels.specs.Rules.{AreSameOperands}
use Rattle.image_labels.proofs.copies.has_same_operands.Given as goal

abbrev pub invariant-loop-port : goal.invariant-loop-port
invariant-loop-port l =
    (q : ℕ)
    → q < l.port
    → q < operands l.a.op
    → AreSameOperands l.nodes l.v l.u (edge_of l.a q) (edge_of l.b q)
