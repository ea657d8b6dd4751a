-- The targets between their parentheses.
use Rattle.std.proofs.lemmas.List.{length-map}
use Rattle.silage_syntax.specs.Tree.{view_place}
use Rattle.silage_print.proofs.Spelled.{followed, ends, alike}
use Rattle.silage_print.proofs.print_items.put_targets.Goals as goal

pub returns : goal.returns
returns c =
    let count = length-map c.args.places.now view_place in
    ends _ _ c.put_close.result
    (λ h. alike (cc) (followed (followed c.in_ok-put_open.ensures c.in_ok-put_places.ensures) h)) c.put_close.ensures
