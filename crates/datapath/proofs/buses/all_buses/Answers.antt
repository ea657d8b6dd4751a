use Rattle.std.proofs.Common.{Bor, BTreeMap, String, Global, ◌+◌, ◌∙◌, ap}
use Rattle.std.proofs.lemmas.List.{length_push}
use Rattle.std.proofs.lemmas.Result.{err_from_is_err_and}
use Rattle.toml.specs.Data.{Members}
use Rattle.toml.specs.View.{table_view}
use Rattle.toml.specs.declared.value.Value.{Value}
use Rattle.datapath.specs.PathOf.{bus_at}
use Rattle.datapath.proofs.Turn.{turn_goes_on, turn_ends, turn_done}
use Rattle.datapath.proofs.buses.all_buses.Goals as goal

abbrev members : Bor (BTreeMap (String Global) Value) → Members
members t = table_view t.now

pub returns-in_err-bus : goal.returns-in_err-bus
returns-in_err-bus c =
    let p = err_from_is_err_and c.from_residual-in_err-bus.result c.from_residual-in_err-bus.ensures.1 in
    rw (p.1, p.2)
    (turn_ends (bus_at c.args.units.now) members c.args.tables.now c.loop-table.table-index c.table-item.result
    c.in_err-bus.field-0.0 c.loop-table.buses _ c.loop-table-test.true c.table-item.is
    (rw (c.len.ensures, c.as_slice.ensures) at c.in_err-bus.ensures) c.loop-table.invariant.0)

pub loop-table-preserved : goal.loop-table-preserved
loop-table-preserved c =
    rw c.in_ok-push.ensures.ok (
      turn_goes_on (bus_at c.args.units.now) members c.args.tables.now c.loop-table.table-index c.table-item.result _
          c.loop-table.buses _ c.loop-table-test.true c.table-item.is
          (rw (c.len.ensures, c.as_slice.ensures) at c.in_ok-bus.ensures) c.loop-table.invariant.0,
      length_push
          c.loop-table.buses _ ∙ ap (λ n. n + 1) c.loop-table.invariant.1,
    )

pub returns : goal.returns
returns c = turn_done (bus_at c.args.units.now) members c.args.tables.now c.loop-table.table-index c.loop-table.buses
    _ c.loop-table-test.false c.loop-table.invariant.0
