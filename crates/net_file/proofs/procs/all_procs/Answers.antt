use Rattle.std.proofs.Common.{Bor, BTreeMap, String, Global, ◌+◌, ◌∙◌, ap}
use Rattle.std.proofs.lemmas.List.{length_push}
use Rattle.std.proofs.lemmas.List.Elements.{All-push}
use Rattle.std.proofs.lemmas.Result.{err_from_is_err_and}
use Rattle.toml.specs.Data.{Members}
use Rattle.toml.specs.View.{table_view}
use Rattle.toml.specs.declared.value.Value.{Value}
use Rattle.toml_rows.proofs.Turn.{turn_goes_on, turn_ends, turn_done}
use Rattle.net_core.specs.declared.fault.NetFault.TheVariants.{Memory}
use Rattle.net_file.specs.Described.{HasTexts}
use Rattle.net_file.specs.Private.Reading.{proc_at}
use Rattle.net_file.proofs.procs.all_procs.Goals as goal

abbrev members : Bor (BTreeMap (String Global) Value) → Members
members t = table_view t.now

pub returns-in_err-proc-clause-procs : goal.returns-in_err-proc-clause-procs
returns-in_err-proc-clause-procs c =
    let p = err_from_is_err_and c.from_residual-in_err-proc.result c.from_residual-in_err-proc.ensures.1 in
    rw (p.1, p.2)
    (turn_ends Memory (proc_at c.args.inputs) members c.args.tables.now c.loop-table.table-index c.table-item.result
    c.in_err-proc.field-0.0 c.loop-table.procs _ c.loop-table-test.true c.table-item.is
    (rw c.len-own.ensures at c.in_err-proc.ensures.proc) c.loop-table.invariant.0)

pub loop-table-preserved : goal.loop-table-preserved
loop-table-preserved c =
    rw c.in_ok-push.ensures.ok (
      turn_goes_on Memory (proc_at c.args.inputs) members c.args.tables.now c.loop-table.table-index c.table-item.result
          _
          c.loop-table.procs _ c.loop-table-test.true c.table-item.is
          (rw c.len-own.ensures at c.in_ok-proc.ensures.proc)
          c.loop-table.invariant.0,
      length_push c.loop-table.procs _ ∙ ap (λ n. n + 1) c.loop-table.invariant.1,
      All-push HasTexts c.loop-table.procs c.in_ok-proc.proc c.loop-table.invariant.2 c.in_ok-proc.ensures.texts,
    )

pub returns-clause-procs : goal.returns-clause-procs
returns-clause-procs c =
    turn_done Memory (proc_at c.args.inputs) members c.args.tables.now c.loop-table.table-index c.loop-table.procs _
    c.loop-table-test.false c.loop-table.invariant.0
