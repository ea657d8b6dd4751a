use Rattle.list_schedule.proofs.Placings.{ports_known}
use Rattle.placed_plan.proofs.placing.check_cycle.Goals as goal

pub check_ports-requires-clause-ports : goal.check_ports-requires-clause-ports
check_ports-requires-clause-ports c =
    ports_known c.args.problem.now.datapath.now c.args.problem.now.assigned.now c.requires.problem c.args.v
    c.requires.node c.args.ports.now c.requires.ports c.args.placing.now.slots c.args.placing.now.table c.requires.table
