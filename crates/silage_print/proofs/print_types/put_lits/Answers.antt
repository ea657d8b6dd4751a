-- The first, and then the others.
use Rattle.std.proofs.Common.{refl}
use Rattle.silage_print.specs.Text.{lit_text}
use Rattle.silage_print.proofs.Spelled.{none_listed, some_listed, ends}
use Rattle.silage_print.proofs.print_types.put_lits.Goals as goal

pub returns-in-empty : goal.returns-in-empty
returns-in-empty c = none_listed lit_text c.args.lits.now _ c.in-empty.len_below

pub returns-in_ok-put_lit-in-len1-up : goal.returns-in_ok-put_lit-in-len1-up
returns-in_ok-put_lit-in-len1-up c =
    ends _ _ c.put_other_lits.result
    (λ h. some_listed lit_text c.args.lits.now _ _ c.in-len1-up.len_at_least refl c.in_ok-put_lit-in-len1-up.ensures h)
    c.put_other_lits.ensures
