use Rattle.bus_alloc.proofs.Blocked.{before_in_word}
use Rattle.bus_alloc.proofs.rows.cycles_before.Goals as goal

pub returns-then-cycle-index : goal.returns-then-cycle-index
returns-then-cycle-index c i small = before_in_word c.args.cycle c.args.index i small c.if-cycle-index.true
