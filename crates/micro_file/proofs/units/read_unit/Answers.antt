use Rattle.std.proofs.lemmas.Result.{err_from_is_err_and}
use Rattle.micro_file.proofs.UnitSteps.{files_fail, cells_fail, ram_fails, unit_read}
use Rattle.micro_file.proofs.units.read_unit.Goals as goal

pub returns-in_err-files : goal.returns-in_err-files
returns-in_err-files g c =
    let left = g.R.Fields.rest c.args.reader.now in
    let p = err_from_is_err_and c.from_residual-in_err-files.result c.from_residual-in_err-files.ensures.1 in
    rw (p.1, p.2)
    (files_fail g.R.Fields.form left c.in_ok-kind.ensures c.in_ok-latency.ensures c.in_ok-gap.ensures c.ports.ensures
    c.in_err-files.field-0.0 c.in_err-files.ensures)

pub returns-in_err-cells : goal.returns-in_err-cells
returns-in_err-cells g c =
    let left = g.R.Fields.rest c.args.reader.now in
    let p = err_from_is_err_and c.from_residual-in_err-cells.result c.from_residual-in_err-cells.ensures.1 in
    rw (p.1, p.2)
    (cells_fail g.R.Fields.form left c.in_ok-kind.ensures c.in_ok-latency.ensures c.in_ok-gap.ensures c.ports.ensures
    c.in_ok-files.ensures c.in_err-cells.field-0.0 c.in_err-cells.ensures)

pub returns-in_err-ram : goal.returns-in_err-ram
returns-in_err-ram g c =
    let left = g.R.Fields.rest c.args.reader.now in
    let p = err_from_is_err_and c.from_residual-in_err-ram.result c.from_residual-in_err-ram.ensures.1 in
    rw (p.1, p.2)
    (ram_fails g.R.Fields.form left c.in_ok-kind.ensures c.in_ok-latency.ensures c.in_ok-gap.ensures c.ports.ensures
    c.in_ok-files.ensures c.in_ok-cells.ensures c.in_err-ram.field-0.0 c.in_err-ram.ensures)

pub returns : goal.returns
returns g c =
    unit_read g.R.Fields.form (g.R.Fields.rest c.args.reader.now) c.in_ok-kind.ensures c.in_ok-latency.ensures
    c.in_ok-gap.ensures c.ports.ensures c.in_ok-files.ensures c.in_ok-cells.ensures c.in_ok-ram.ensures
