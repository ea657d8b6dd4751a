-- The name, the dims and the type.
use Rattle.silage_print.proofs.Spelled.{followed, ends}
use Rattle.silage_print.proofs.print_types.put_decl.Goals as goal

pub returns : goal.returns
returns c =
    ends _ _ c.put_type.result
    (λ h. followed (followed c.in_ok-put_name.ensures c.in_ok-put_dims.ensures) (followed c.in_ok-put_symbol.ensures h))
    c.put_type.ensures
