-- A constant after its sign, two constants around their operator, and parentheses where they are needed.
use Rattle.std.proofs.Common.{ap}
use Rattle.silage_syntax.specs.Tree.{view_manifest}
use Rattle.silage_print.specs.Text.{manifest_text}
use Rattle.silage_print.proofs.Spelled.{followed, ends, alike}
use Rattle.silage_print.proofs.print_exprs.+manifests.Goals as goal

pub put_manifest-returns-in_ok-put_symbol-in-Negate : goal.put_manifest-returns-in_ok-put_symbol-in-Negate
put_manifest-returns-in_ok-put_symbol-in-Negate t c =
    let whole = ap (λ m. manifest_text (view_manifest m)) c.in-Negate.is in
    let part = c.deref.ensures in
    ends _ _ c.put_term.result (λ h. alike (cc) (followed c.in_ok-put_symbol-in-Negate.ensures h)) c.put_term.ensures

pub put_manifest-returns-in_ok-put_symbol-in-Binary : goal.put_manifest-returns-in_ok-put_symbol-in-Binary
put_manifest-returns-in_ok-put_symbol-in-Binary t c =
    let whole = ap (λ m. manifest_text (view_manifest m)) c.in-Binary.is in
    ends _ _ c.put_term-in-Binary-2.result
    (λ h. alike (cc) (followed c.in_ok-put_term-in-Binary.ensures (followed c.in_ok-put_symbol-in-Binary.ensures h)))
    c.put_term-in-Binary-2.ensures

pub put_term-returns : goal.put_term-returns
put_term-returns t c =
    ends _ _ c.put_close.result
    (λ h. alike (cc) (followed (followed c.in_ok-put_open.ensures c.in_ok-put_manifest.ensures) h)) c.put_close.ensures
