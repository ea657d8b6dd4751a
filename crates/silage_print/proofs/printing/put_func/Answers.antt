-- The head and the body.
use Rattle.std.proofs.Common.{ap, ◌∙◌}
use Rattle.silage_syntax.specs.Tree.{view_items}
use Rattle.silage_print.specs.Text.{body_text}
use Rattle.silage_print.proofs.Spelled.{followed, ends, alike}
use Rattle.silage_print.proofs.printing.put_func.Goals as goal

pub returns : goal.returns
returns c =
    let func = c.args.func.now in
    let body =
    ap (λ ds. body_text ds (view_items c.deref-2.result.now)) c.deref.ensures
    ∙ ap (λ xs. body_text func.locals (view_items xs)) c.deref-2.ensures in
    ends _ _ c.put_body.result
    (λ h. followed c.in_ok-put_head.ensures (followed c.in_ok-put_symbol.ensures (alike body h))) c.put_body.ensures
