use Rattle.bus_alloc.proofs.Loops.{reads_none, reads_bus, reads_all, reads_enough}
use Rattle.bus_alloc.proofs.RowReads.{bus_word}
use Rattle.bus_alloc.proofs.rows.Rows.all_used.Goals as goal

pub loop-bus-init : goal.loop-bus-init
loop-bus-init c = reads_none c.args.self.now c.args.buses c.args.index

pub loop-bus-preserved : goal.loop-bus-preserved
loop-bus-preserved c =
    reads_bus c.args.self.now c.args.buses c.args.index c.loop-bus.left c.loop-bus.all c.in-Some.bus
    c.pop_last.new.self
    c.word-all.result c.loop-bus.invariant c.in-Some.ensures.small
    c.in-Some.ensures.last.taken
    (bus_word c.args.self.now c.requires.rows c.in-Some.bus c.args.index c.word-all.result c.index.result.now
    c.in-Some.ensures.small c.index.ensures c.word-all.ensures)

pub returns-then-all-eq0 : goal.returns-then-all-eq0
returns-then-all-eq0 c i small =
    reads_enough c.args.self.now c.args.buses c.args.index c.pop_last.new.self _ i
    (reads_bus c.args.self.now c.args.buses c.args.index c.loop-bus.left c.loop-bus.all c.in-Some.bus
    c.pop_last.new.self c.word-all.result c.loop-bus.invariant c.in-Some.ensures.small
    c.in-Some.ensures.last.taken
    (bus_word c.args.self.now c.requires.rows c.in-Some.bus c.args.index c.word-all.result c.index.result.now
    c.in-Some.ensures.small c.index.ensures c.word-all.ensures)) c.if-all-eq0.true small

pub returns : goal.returns
returns c i = reads_all c.args.self.now c.args.buses c.args.index c.loop-bus.left c.loop-bus.all i
    c.loop-bus.invariant c.in_default.ensures.last
