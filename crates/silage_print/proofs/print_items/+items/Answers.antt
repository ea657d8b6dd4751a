-- Each kind of item: the parts of its text one after another.
use Rattle.std.proofs.Common.{ap, sym, ◌∙◌, ◌++◌, ◌∷◌, []}
use Rattle.silage_lex.specs.declared.punctuation.TheConstants as punctuation
use Rattle.silage_syntax.specs.Tree.{view_item, view_items}
use Rattle.silage_print.specs.Text.{symbol, clause_text, items_text}
use Rattle.silage_print.proofs.Rows.{items_spelled, loop_spelled}
use Rattle.silage_print.proofs.Spelled.{nothing, followed, more, all, ends, alike}
use Rattle.silage_print.proofs.print_items.+items.Goals as goal

pub put_items-loop-item-init : goal.put_items-loop-item-init
put_items-loop-item-init t c = nothing

pub put_items-loop-item-preserved : goal.put_items-loop-item-preserved
put_items-loop-item-preserved t c =
    more (λ x. clause_text (view_item x) ++ symbol punctuation.SEMICOLON ∷ []) _ _ _ _ _ _ _ c.loop-item-test.true
    c.item-item.is c.loop-item.invariant
    (followed c.in_ok-put_clause.ensures c.in_ok-put_symbol.ensures)

pub put_items-returns : goal.put_items-returns
put_items-returns t c =
    alike (sym (items_spelled c.args.items.now)) (all _ _ _ _ _ c.loop-item-test.false c.loop-item.invariant)

pub put_clause-returns-in_ok-put_symbol-in-Equation : goal.put_clause-returns-in_ok-put_symbol-in-Equation
put_clause-returns-in_ok-put_symbol-in-Equation t c =
    let whole = ap (λ x. clause_text (view_item x)) c.in-Equation.is in
    ends _ _ c.put_expr.result (λ h.
    alike (cc) (followed c.in_ok-put_place-in-Equation.ensures (followed c.in_ok-put_symbol-in-Equation.ensures h)))
    c.put_expr.ensures

pub put_clause-returns-in_ok-put_symbol-in-Call : goal.put_clause-returns-in_ok-put_symbol-in-Call
put_clause-returns-in_ok-put_symbol-in-Call t c =
    let whole = ap (λ x. clause_text (view_item x)) c.in-Call.is in
    ends _ _ c.put_call.result
    (λ h. alike (cc) (followed c.in_ok-put_targets-in-Call.ensures (followed c.in_ok-put_symbol-in-Call.ensures h)))
    c.put_call.ensures

pub put_clause-returns-in_ok-put_symbol-in-Initial-2 : goal.put_clause-returns-in_ok-put_symbol-in-Initial-2
put_clause-returns-in_ok-put_symbol-in-Initial-2 t c =
    let whole = ap (λ x. clause_text (view_item x)) c.in-Initial.is in
    let amount =
    followed c.in_ok-put_place-in-Initial.ensures
    (followed c.in_ok-put_symbol-in-Initial.ensures c.in_ok-put_amount-in-Initial.ensures) in
    ends _ _ c.put_lit.result (λ h. alike (cc) (followed amount (followed c.in_ok-put_symbol-in-Initial-2.ensures h)))
    c.put_lit.ensures

pub put_clause-returns-in_ok-put_items-in-Loop : goal.put_clause-returns-in_ok-put_items-in-Loop
put_clause-returns-in_ok-put_items-in-Loop t c =
    let whole =
    ap (λ x. clause_text (view_item x)) c.in-Loop.is
    ∙ loop_spelled c.in-Loop.index c.in-Loop.lo c.in-Loop.hi c.in-Loop.items c.in-Loop.at in
    let items_are = ap (λ xs. items_text (view_items xs)) c.deref-in-Loop.ensures.value in
    let front =
    followed c.in_ok-put_turns-in-Loop.ensures
    (followed c.in_ok-put_symbol-in-Loop.ensures
    (followed c.in_ok-put_word-in-Loop.ensures (alike items_are c.in_ok-put_items-in-Loop.ensures))) in
    ends _ _ c.put_word-in-Loop.result (λ h. alike (sym whole) (followed front h)) c.put_word-in-Loop.ensures
