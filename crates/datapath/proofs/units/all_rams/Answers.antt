use Rattle.std.proofs.Common.{Bor, BTreeMap, String, Global, ◌+◌, ◌∙◌, ap}
use Rattle.std.proofs.lemmas.List.{length_push}
use Rattle.std.proofs.lemmas.Result.{err_from_is_err_and}
use Rattle.toml.specs.Data.{Members}
use Rattle.toml.specs.View.{table_view}
use Rattle.toml.specs.declared.value.Value.{Value}
use Rattle.datapath.specs.PathOf.{ram_at}
use Rattle.datapath.proofs.Turn.{turn_goes_on, turn_ends, turn_done}
use Rattle.datapath.proofs.units.all_rams.Goals as goal

abbrev members : Bor (BTreeMap (String Global) Value) → Members
members t = table_view t.now

pub returns-in_err-ram-clause-value : goal.returns-in_err-ram-clause-value
returns-in_err-ram-clause-value c =
    let p = err_from_is_err_and c.from_residual-in_err-ram.result c.from_residual-in_err-ram.ensures.1 in
    rw (p.1, p.2)
    (turn_ends (ram_at c.args.units.now) members c.args.tables.now c.loop-table.table-index c.table-item.result
    c.in_err-ram.field-0.0 c.loop-table.rams _ c.loop-table-test.true c.table-item.is
    (rw c.len.ensures at c.in_err-ram.ensures) c.loop-table.invariant.0)

pub loop-table-preserved : goal.loop-table-preserved
loop-table-preserved c =
    rw c.in_ok-push.ensures.ok (
      turn_goes_on (ram_at c.args.units.now) members c.args.tables.now c.loop-table.table-index c.table-item.result _
          c.loop-table.rams _ c.loop-table-test.true c.table-item.is (rw c.len.ensures at c.in_ok-ram.ensures)
          c.loop-table.invariant.0,
      length_push c.loop-table.rams _ ∙ ap (λ n. n + 1) c.loop-table.invariant.1,
    )

pub returns-clause-value : goal.returns-clause-value
returns-clause-value c = turn_done (ram_at c.args.units.now) members c.args.tables.now c.loop-table.table-index
    c.loop-table.rams _ c.loop-table-test.false c.loop-table.invariant.0
