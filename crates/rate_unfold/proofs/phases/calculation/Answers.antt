use Rattle.signal_graph.proofs.Rows.{view_Node}
use Rattle.rate_unfold.proofs.phases.calculation.Goals as goal

pub returns : goal.returns
returns c = view_Node c.args.op c.args.fmt c.args.parts
