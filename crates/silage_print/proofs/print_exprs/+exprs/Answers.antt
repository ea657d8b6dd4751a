-- Each kind of expression: the parts of its text one after another.
use Rattle.std.proofs.Common.{ap, sym, ◌∙◌}
use Rattle.std.specs.List.{flat_map}
use Rattle.silage_syntax.specs.Tree.{view_expr}
use Rattle.silage_print.specs.Text.{expr_text}
use Rattle.silage_print.specs.Private.Puts.{arm_text}
use Rattle.silage_print.proofs.Rows.{choice_spelled}
use Rattle.silage_print.proofs.Spelled.{nothing, followed, more, ends, alike}
use Rattle.silage_print.proofs.print_exprs.+exprs.Goals as goal

pub put_arms-loop-arm-init : goal.put_arms-loop-arm-init
put_arms-loop-arm-init t c = nothing

pub put_arms-loop-arm-preserved : goal.put_arms-loop-arm-preserved
put_arms-loop-arm-preserved t c =
    more _ _ _ _ _ _ _ _ c.loop-arm-test.true c.arm-item.is c.loop-arm.invariant
    (followed (followed c.in_ok-put_expr.ensures (followed c.in_ok-put_symbol.ensures c.in_ok-put_expr-2.ensures))
    c.in_ok-put_symbol-2.ensures)

pub put_part-returns : goal.put_part-returns
put_part-returns t c =
    ends _ _ c.put_close.result (λ h. followed (followed c.in_ok-put_open.ensures c.in_ok-put_expr.ensures) h)
    c.put_close.ensures

pub put_expr-returns-in_ok-put_place-in-Read : goal.put_expr-returns-in_ok-put_place-in-Read
put_expr-returns-in_ok-put_place-in-Read t c =
    let whole = ap (λ e. expr_text (view_expr e)) c.in-Read.is in
    ends _ _ c.put_delay.result (λ h. alike (cc) (followed c.in_ok-put_place-in-Read.ensures h)) c.put_delay.ensures

pub put_expr-returns-in_ok-put_symbol-in-Negate : goal.put_expr-returns-in_ok-put_symbol-in-Negate
put_expr-returns-in_ok-put_symbol-in-Negate t c =
    let whole = ap (λ e. expr_text (view_expr e)) c.in-Negate.is in
    ends _ _ c.put_part.result (λ h. alike (cc) (followed c.in_ok-put_symbol-in-Negate.ensures h)) c.put_part.ensures

pub put_expr-returns-in_ok-put_symbol-in-Not : goal.put_expr-returns-in_ok-put_symbol-in-Not
put_expr-returns-in_ok-put_symbol-in-Not t c =
    let whole = ap (λ e. expr_text (view_expr e)) c.in-Not.is in
    ends _ _ c.put_part-in-Not.result (λ h. alike (cc) (followed c.in_ok-put_symbol-in-Not.ensures h))
    c.put_part-in-Not.ensures

pub put_expr-returns-in_ok-put_symbol-in-Binary : goal.put_expr-returns-in_ok-put_symbol-in-Binary
put_expr-returns-in_ok-put_symbol-in-Binary t c =
    let whole = ap (λ e. expr_text (view_expr e)) c.in-Binary.is in
    ends _ _ c.put_part-in-Binary-2.result
    (λ h. alike (cc) (followed c.in_ok-put_part-in-Binary.ensures (followed c.in_ok-put_symbol-in-Binary.ensures h)))
    c.put_part-in-Binary-2.ensures

pub put_expr-returns-in_ok-put_symbol-in-Shift : goal.put_expr-returns-in_ok-put_symbol-in-Shift
put_expr-returns-in_ok-put_symbol-in-Shift t c =
    let whole = ap (λ e. expr_text (view_expr e)) c.in-Shift.is in
    ends _ _ c.put_amount.result
    (λ h. alike (cc) (followed c.in_ok-put_part-in-Shift.ensures (followed c.in_ok-put_symbol-in-Shift.ensures h)))
    c.put_amount.ensures

pub put_expr-returns-in_ok-put_fix-in-Cast : goal.put_expr-returns-in_ok-put_fix-in-Cast
put_expr-returns-in_ok-put_fix-in-Cast t c =
    let whole = ap (λ e. expr_text (view_expr e)) c.in-Cast.is in
    ends _ _ c.put_part-in-Cast.result (λ h. alike (cc) (followed c.in_ok-put_fix-in-Cast.ensures h))
    c.put_part-in-Cast.ensures

pub put_expr-returns-in_ok-put_expr-in-Choose : goal.put_expr-returns-in_ok-put_expr-in-Choose
put_expr-returns-in_ok-put_expr-in-Choose t c =
    let whole =
    ap (λ e. expr_text (view_expr e)) c.in-Choose.is
    ∙ choice_spelled c.in-Choose.field-0 c.in-Choose.arms c.in-Choose.last in
    let arms = c.deref-in-Choose.ensures.value in
    let last = c.deref-in-Choose-2.ensures in
    let arms_are = ap (flat_map arm_text) arms in
    let last_is = ap (λ e. expr_text (view_expr e)) last in
    ends _ _ c.put_word-in-Choose.result
    (λ h.
    alike (sym whole)
    (followed
    (followed (followed c.in_ok-put_word-in-Choose.ensures (alike arms_are c.in_ok-put_arms-in-Choose.ensures))
    (alike last_is c.in_ok-put_expr-in-Choose.ensures)) h))
    c.put_word-in-Choose.ensures
