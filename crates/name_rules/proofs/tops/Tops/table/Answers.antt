use Rattle.std.proofs.Common.{ap, sym, ◌∙◌, Some, None}
use Rattle.std.specs.Option.{option_copied}
use Rattle.silage_syntax.specs.Tree.{table, function, view, view_func}
use Rattle.name_rules.proofs.ApartNames.{table_is}
use Rattle.name_rules.proofs.tops.Tops.table.Goals as goal

pub returns-in_err-table : goal.returns-in_err-table
returns-in_err-table c =
    ap option_copied c.from_residual.ensures
    ∙ sym
    (table_is (view c.args.self.now.program.now) c.args.name.now None c.args.self.now.apart c.in_err-table.ensures)

pub returns-in-Const : goal.returns-in-Const
returns-in-Const c =
    let found = rw c.in-Const.is at c.in_ok-table.ensures in
    sym (table_is (view c.args.self.now.program.now) c.args.name.now (Some (table c.in-Const.table))
    c.args.self.now.apart found)

pub returns-in-Func : goal.returns-in-Func
returns-in-Func c =
    let found = rw c.in-Func.is at c.in_ok-table.ensures in
    sym (table_is (view c.args.self.now.program.now) c.args.name.now (Some (function (view_func c.in-Func.field-0)))
    c.args.self.now.apart found)
