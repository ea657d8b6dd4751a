use Rattle.std.proofs.Common.{◌<◌, length, sym, subst}
use Rattle.datapath.specs.declared.types.Datapath.{Datapath}
use Rattle.list_schedule.proofs.Placings.{ports_known}
use Rattle.placed_stages.proofs.placing.issue.Goals as goal

pub take-requires-clause-ports : goal.take-requires-clause-ports
take-requires-clause-ports c =
    ports_known c.args.staged.now.problem.datapath.now c.args.staged.now.problem.assigned.now c.requires.staged.problem
    c.args.v c.requires.node c.args.ports.now c.requires.ports c.args.placing.now.slots c.args.placing.now.table
    c.requires.table
