use Rattle.type_rules.proofs.TypedRows.{view_Node}
use Rattle.fix_types.proofs.nodes.node.Goals as goal

pub returns : goal.returns
returns c = view_Node c.args.op c.args.fmt c.args.parts c.args.amount
