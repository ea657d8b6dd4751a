use Rattle.std.proofs.Common.{arith}
use Rattle.cyclic_life.proofs.Around.{all_around}
use Rattle.cyclic_life.proofs.placement.Placement.reads_around.Goals as goal

pub returns : goal.returns
returns c =
    all_around c.args.self.now.datapath.now c.args.self.now.assigned.now c.args.self.now.schedule.now
    c.in_ok-reads.reads.items c.loop-k.reads.items c.loop-k.k
    (omega (arith, c.loop-k-test.false, c.len-k-end.ensures, c.loop-k.auto.k-end)) c.loop-k.invariant
    c.in_ok-reads.ensures
