-- The first, and then the others.
use Rattle.silage_print.specs.Text.{decl_text}
use Rattle.silage_print.proofs.Spelled.{none_listed, some_listed, ends}
use Rattle.silage_print.proofs.print_types.put_decls.Goals as goal

pub returns-in-empty : goal.returns-in-empty
returns-in-empty c = none_listed decl_text c.args.decls.now _ c.in-empty.len_below

pub returns-in_ok-put_decl-in-len1-up : goal.returns-in_ok-put_decl-in-len1-up
returns-in_ok-put_decl-in-len1-up c =
    ends _ _ c.put_other_decls.result (λ h.
    some_listed decl_text c.args.decls.now _ _ c.in-len1-up.len_at_least c.first-item.is
    c.in_ok-put_decl-in-len1-up.ensures h)
    c.put_other_decls.ensures
