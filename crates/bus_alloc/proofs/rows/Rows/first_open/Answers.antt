use Rattle.std.proofs.Common.{ap}
use Rattle.bus_alloc.specs.declared.rows.UnitRow.{UnitRow}
use Rattle.bus_alloc.proofs.FirstOpens.{first_in_word, none_in_word, none_in_period, none_in_busy}
use Rattle.bus_alloc.proofs.RowReads.{unit_read}
use Rattle.bus_alloc.proofs.rows.Rows.first_open.Goals as goal

pub loop-index-init : goal.loop-index-init
loop-index-init c =
    none_in_busy c.args.self.now c.args.unit c.args.dests.now c.index.result.now.busy.words c.args.from
    c.first_gap-first.result
    (ap (λ (row : UnitRow). row.busy.words)
    (unit_read c.args.self.now c.requires.rows c.args.unit c.index.result.now c.requires.unit c.index.ensures))
    c.first_gap-first.ensures.full

pub returns-then-cycle-self : goal.returns-then-cycle-self
returns-then-cycle-self c =
    first_in_word c.args.self.now c.args.unit c.args.dests.now c.args.from c.loop-index.index c.blocked.result
    c.cycles_before.result c.blocked.ensures c.cycles_before.ensures c.loop-index.invariant c.in-Some.bit
    c.in-Some.ensures c.if-cycle-self.true

pub returns-else-cycle-self : goal.returns-else-cycle-self
returns-else-cycle-self c =
    none_in_period c.args.self.now c.args.unit c.args.dests.now c.args.from c.loop-index.index c.blocked.result
    c.cycles_before.result c.blocked.ensures c.cycles_before.ensures c.loop-index.invariant c.in-Some.bit
    c.in-Some.ensures c.if-cycle-self.false

pub loop-index-preserved : goal.loop-index-preserved
loop-index-preserved c =
    none_in_word c.args.self.now c.args.unit c.args.dests.now c.args.from c.loop-index.index c.blocked.result
    c.cycles_before.result c.blocked.ensures c.cycles_before.ensures c.loop-index.invariant c.in_default.ensures
