use Rattle.bus_alloc.proofs.FirstOpens.{test_of_open}
use Rattle.bus_alloc.proofs.rows.Rows.is_open.Goals as goal

pub returns : goal.returns
returns c =
    test_of_open c.args.self.now c.args.unit c.args.dests.now c.args.cycle c.blocked-blocked.result
    c.blocked-blocked.ensures
