-- The first, and then the others.
use Rattle.silage_syntax.specs.Tree.{view_expr}
use Rattle.silage_print.specs.Text.{expr_text}
use Rattle.silage_print.proofs.Spelled.{none_viewed, some_viewed, ends}
use Rattle.silage_print.proofs.print_exprs.put_exprs.Goals as goal

pub returns-in-empty : goal.returns-in-empty
returns-in-empty c = none_viewed expr_text view_expr c.args.exprs.now _ c.in-empty.len_below

pub returns-in_ok-put_expr-in-len1-up : goal.returns-in_ok-put_expr-in-len1-up
returns-in_ok-put_expr-in-len1-up c =
    ends _ _ c.put_other_exprs.result (λ h.
    some_viewed expr_text view_expr c.args.exprs.now _ _ c.in-len1-up.len_at_least c.first-item.is
    c.in_ok-put_expr-in-len1-up.ensures h)
    c.put_other_exprs.ensures
