use Rattle.std.proofs.Common.{◌∙◌, ◌≡◌, ◌↔◌, ap, subst, arith, List}
use Rattle.std.specs.Prelude.{slice_index}
use Rattle.std.specs.Int.{bit_at}
use Rattle.std.proofs.lemmas.List.{take_all}
use Rattle.operations.specs.declared.units.PortRef.{PortRef}
use Rattle.bus_alloc.specs.Private.Rows.{IsOpenIn}
use Rattle.bus_alloc.specs.declared.rows.UnitRow.{UnitRow}
use Rattle.bus_alloc.proofs.Blocked.{none_open, unit_shut, one_more_open}
use Rattle.bus_alloc.proofs.RowReads.{unit_read}
use Rattle.bus_alloc.proofs.rows.Rows.blocked.Goals as goal

pub returns-then-blocked : goal.returns-then-blocked
returns-then-blocked c i small =
    unit_shut c.args.self.now c.args.index c.args.unit c.args.dests.now c.word-blocked.result i
    (c.word-blocked.ensures ∙ ap (λ (row : UnitRow). slice_index row.busy.words c.args.index)
    (unit_read c.args.self.now c.requires.rows c.args.unit c.index.result.now c.requires.unit c.index.ensures))
    c.if-blocked.true small

pub loop-port-init : goal.loop-port-init
loop-port-init c i small =
    none_open c.args.self.now c.args.index c.args.unit c.args.dests.now c.word-blocked.result i
    (c.word-blocked.ensures ∙ ap (λ (row : UnitRow). slice_index row.busy.words c.args.index)
    (unit_read c.args.self.now c.requires.rows c.args.unit c.index.result.now c.requires.unit c.index.ensures))

pub loop-port-preserved : goal.loop-port-preserved
loop-port-preserved c i small =
    one_more_open c.args.self.now c.args.index c.args.unit c.args.dests.now c.loop-port.port-index _ c.loop-port.blocked
    c.blocked_at-blocked.result i c.loop-port-test.true (c.loop-port.invariant i small)
    (c.blocked_at-blocked.ensures i small)

pub returns : goal.returns
returns c i small =
    subst (λ (ports : List PortRef). (bit_at c.loop-port.blocked i ≡ 0)
    ↔ IsOpenIn c.args.self.now c.args.unit ports c.args.index i)
    (take_all c.loop-port.port-index c.args.dests.now (omega arith)) (c.loop-port.invariant i small)
