use Rattle.std.proofs.Common.{subst, sym}
use Rattle.node_order.specs.Topological.{CanBeOrdered}
use Rattle.schedule_priority.proofs.Problems.{can_be_ordered}
use Rattle.schedule_priority.proofs.heights.heights_of.Goals as goal

pub topological_order-requires : goal.topological_order-requires
topological_order-requires c =
    subst CanBeOrdered (sym c.as_slice.ensures)
    (can_be_ordered c.args.problem.now.datapath.now c.args.problem.now.assigned.now c.requires)
