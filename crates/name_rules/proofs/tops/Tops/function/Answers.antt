use Rattle.std.proofs.Common.{ap, sym, ◌∙◌, option_map, Some, None}
use Rattle.std.specs.Option.{option_copied}
use Rattle.silage_syntax.specs.Tree.{table, function, view, view_func}
use Rattle.name_rules.proofs.ApartNames.{function_is}
use Rattle.name_rules.proofs.tops.Tops.function.Goals as goal

pub returns-in_err-function : goal.returns-in_err-function
returns-in_err-function c =
    ap (λ o. option_map view_func (option_copied o)) c.from_residual.ensures
    ∙ sym (function_is (view c.args.self.now.program.now) c.args.name.now None c.args.self.now.apart
    c.in_err-function.ensures)

pub returns-in-Const : goal.returns-in-Const
returns-in-Const c =
    let found = rw c.in-Const.is at c.in_ok-function.ensures in
    sym (function_is (view c.args.self.now.program.now) c.args.name.now (Some (table c.in-Const.field-0))
    c.args.self.now.apart found)

pub returns-in-Func : goal.returns-in-Func
returns-in-Func c =
    let found = rw c.in-Func.is at c.in_ok-function.ensures in
    sym (function_is (view c.args.self.now.program.now) c.args.name.now (Some (function (view_func c.in-Func.function)))
    c.args.self.now.apart found)
