use Rattle.elaboration_code.proofs.ActionRows.{view_Repeat}
use Rattle.elaboration_compile.proofs.items.repeat.Goals as goal

pub returns : goal.returns
returns c = view_Repeat c.args.lo c.args.hi c.args.actions c.args.at
