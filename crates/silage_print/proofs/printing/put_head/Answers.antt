-- The name, the parameters and the results.
use Rattle.silage_print.proofs.Spelled.{followed, ends, alike}
use Rattle.silage_print.proofs.printing.put_head.Goals as goal

pub returns : goal.returns
returns c =
    ends _ _ c.put_decls_in-2.result (λ h.
    alike (cc)
    (followed (followed c.in_ok-put_word.ensures (followed c.in_ok-put_name.ensures c.in_ok-put_decls_in.ensures))
    h))
    c.put_decls_in-2.ensures
