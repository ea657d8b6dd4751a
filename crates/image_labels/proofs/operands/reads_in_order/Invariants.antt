use Rattle.std.proofs.Common.{ℕ, ◌<◌}
use Rattle.operations.specs.Operations.{operands}
use Rattle.image_labels.specs.Labelled.{ReadsOperand}
use Rattle.image_labels.proofs.operands.reads_in_order.Given as goal

abbrev pub invariant-loop-port : goal.invariant-loop-port
invariant-loop-port l =
    (q : ℕ)
    → q < l.port
    → q < operands l.issue.op
    → ReadsOperand l.graph l.image l.certificate l.sample l.cycle l.issue l.node q q
