use Rattle.std.proofs.Common.{◌+◌, ◌*◌}
use Rattle.node_names.proofs.names.NodeNames.+values.Given as goal

abbrev pub decreases-put_value : goal.decreases-put_value
decreases-put_value l = 3 * l.depth

abbrev pub decreases-put_operation : goal.decreases-put_operation
decreases-put_operation l = 3 * l.depth + 2

abbrev pub decreases-put_operand : goal.decreases-put_operand
decreases-put_operand l = 3 * l.depth + 1
