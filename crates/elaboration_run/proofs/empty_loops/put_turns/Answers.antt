use Rattle.elaboration_run.proofs.HeldTurns.{reached_ok}
use Rattle.elaboration_run.proofs.empty_loops.put_turns.Goals as goal

pub returns-in-Some-2-clause-reached : goal.returns-in-Some-2-clause-reached
returns-in-Some-2-clause-reached c =
    let from = rw c.in-Some.is at c.in_ok-number_row.ensures in
    let to = rw c.in-Some-2.is at c.in_ok-number_row-2.ensures in
    reached_ok c.args.lanes c.args.lo.now c.args.hi.now c.in-Some.row c.in-Some-2.last c.put_lanes.new.inner.items from
    to c.put_lanes.result c.put_lanes.ensures.reached
