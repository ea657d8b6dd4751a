use Rattle.name_check.specs.Private.Views.{context_of}
use Rattle.name_check.proofs.TreeRows.{arms_fail, arms_pass}
use Rattle.name_check.proofs.expressions.+exprs.Goals as goal

pub check_expr-returns-in_err-check_arms-in-Choose : goal.check_expr-returns-in_err-check_arms-in-Choose
check_expr-returns-in_err-check_arms-in-Choose t c =
    arms_fail (context_of c.args.context.now) c.args.e.now c.in-Choose.field-0 c.in-Choose.arms c.in-Choose.last
    c.in-Choose.is
    c.deref-in-Choose.result.now _ _ c.deref-in-Choose.ensures.value c.in_err-check_arms-in-Choose.ensures
    c.from_residual-in_err-check_arms-in-Choose.ensures.1

pub check_expr-returns-in_ok-check_arms-in-Choose : goal.check_expr-returns-in_ok-check_arms-in-Choose
check_expr-returns-in_ok-check_arms-in-Choose t c =
    arms_pass (context_of c.args.context.now) c.args.e.now c.in-Choose.field-0 c.in-Choose.arms c.in-Choose.last
    c.in-Choose.is
    c.deref-in-Choose.result.now c.deref-in-Choose-2.result.now _ c.deref-in-Choose.ensures.value
    c.deref-in-Choose-2.ensures c.in_ok-check_arms-in-Choose.ensures c.check_expr-in-Choose.ensures
