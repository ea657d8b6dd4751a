use Rattle.std.proofs.Common.{arith}
use Rattle.bus_alloc.proofs.Around.{one_more_around}
use Rattle.bus_alloc.proofs.cycles.CycleSet.insert_around.Goals as goal

pub loop-away-preserved : goal.loop-away-preserved
loop-away-preserved c =
    one_more_around c.args.period c.loop-away.away c.args.cycle c.requires.cycle (omega arith) c.args.self.now.words
    c.loop-away.self.words c.insert.new.self.words c.insert-in-loop-away.new.self.words c.loop-away.invariant
    (record { same = c.insert.ensures.same; others = c.insert.ensures.others })
    (record { same = c.insert-in-loop-away.ensures.same; others = c.insert-in-loop-away.ensures.others })
