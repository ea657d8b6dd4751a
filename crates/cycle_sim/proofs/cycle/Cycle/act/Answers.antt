use Rattle.std.proofs.Common.{arith, subst}
use Rattle.cycle_sim.specs.Private.Execution.{IsCycle}
use Rattle.cycle_sim.proofs.Actions.{action_logged}
use Rattle.cycle_sim.proofs.cycle.Cycle.act.Goals as goal

pub returns-clause-log : goal.returns-clause-log
returns-clause-log c =
    let is = subst IsCycle c.self.view_is c.self.invariant.0 in
    action_logged c.args.self.now is c.args.storage.now c.args.row.now c.args.unit c.args.in_flight.now
    c.issue.new.in_flight (omega (arith, c.requires.unit, is.valid.image.unit_count.1)) c.issue.ensures
    c.args.at c.args.log.now c.log_takes-taken.new.log c.log_end.new.log c.log_takes-taken.result c.log_end.result
    c.log_takes-taken.ensures.log c.log_end.ensures.log
