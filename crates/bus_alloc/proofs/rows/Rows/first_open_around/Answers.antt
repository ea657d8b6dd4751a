use Rattle.bus_alloc.proofs.Around.{open_on, open_behind}
use Rattle.bus_alloc.proofs.rows.Rows.first_open_around.Goals as goal

pub returns-in-Some : goal.returns-in-Some
returns-in-Some c =
    open_on c.args.self.now c.args.unit c.args.dests.now c.args.from c.requires.from c.in-Some.cycle c.in-Some.ensures

pub returns-in-Some-first_open : goal.returns-in-Some-first_open
returns-in-Some-first_open c =
    open_behind c.args.self.now c.args.unit c.args.dests.now c.args.from c.requires.from c.in-Some-first_open.cycle
    c.in_default.ensures c.in-Some-first_open.ensures
