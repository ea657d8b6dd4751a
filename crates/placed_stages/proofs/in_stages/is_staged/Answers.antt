use Rattle.std.proofs.Common.{◌+◌, arith}
use Rattle.placed_stages.proofs.Staged.{decided}
use Rattle.placed_stages.proofs.in_stages.is_staged.Goals as goal

pub returns : goal.returns
returns c =
    decided c.args.staged.now.stages c.args.staged.now.problem.datapath.now c.args.staged.now.problem.assigned.now
    c.args.schedule.now c.args.v c.earliest.result c.end.result (c.requires.ends c.args.v c.requires.node)
    c.earliest.ensures.late c.end.ensures c.is_between.result c.cycle-cycle.result
    (c.cycle-cycle.result + c.latency.result) c.cycle-cycle.ensures
    (omega (arith, c.cycle-cycle.ensures, c.latency.ensures.latency)) c.is_between.ensures
