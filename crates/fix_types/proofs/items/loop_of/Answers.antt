use Rattle.type_rules.proofs.TypedRows.{view_Loop}
use Rattle.fix_types.proofs.items.loop_of.Goals as goal

pub returns : goal.returns
returns c = view_Loop c.args.index c.args.lo c.args.hi c.args.items
