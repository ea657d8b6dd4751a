use Rattle.std.proofs.Common.{ap, ◌∙◌, arith}
use Rattle.fault_order.specs.Private.FirstMet.{first}
use Rattle.fault_order.proofs.TableFaults.{next_fails, next_passes}
use Rattle.silage_syntax.specs.Tree.{view_expr}
use Rattle.name_rules.specs.NameRules.{argument_rules, passing_rules}
use Rattle.name_check.specs.Private.Views.{context_of}
use Rattle.name_check.proofs.calls.check_arguments.Goals as goal

pub returns-in_err-check_argument : goal.returns-in_err-check_argument
returns-in_err-check_argument c =
    let context = context_of c.args.context.now in
    let x = c.index-args-i.result in
    next_fails (passing_rules context c.args.params.now) view_expr c.args.args.now c.loop-i.i x (omega arith)
    c.index-args-i.is _ _ _ c.loop-i.invariant
    (c.in_err-check_argument.ensures ∙ ap (λ o. first (argument_rules context o (view_expr x))) c.decl_at.ensures)
    c.from_residual.ensures.1

pub loop-i-preserved : goal.loop-i-preserved
loop-i-preserved c =
    let context = context_of c.args.context.now in
    let x = c.index-args-i.result in
    next_passes (passing_rules context c.args.params.now) view_expr c.args.args.now c.loop-i.i x (omega arith)
    c.index-args-i.is _ c.loop-i.invariant
    (c.in_ok-check_argument.ensures ∙ ap (λ o. first (argument_rules context o (view_expr x))) c.decl_at.ensures)
