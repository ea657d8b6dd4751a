-- The name and the subscripts.
use Rattle.std.proofs.Common.{ap, ◌∙◌}
use Rattle.std.specs.List.{flat_map}
use Rattle.silage_syntax.specs.Tree.{view_manifest}
use Rattle.silage_print.specs.Text.{subscript_text}
use Rattle.silage_print.proofs.Spelled.{followed, ends, alike, flat_map_viewed}
use Rattle.silage_print.proofs.print_exprs.put_place.Goals as goal

pub returns : goal.returns
returns c =
    let subs =
    ap (flat_map (λ m. subscript_text (view_manifest m))) c.deref.ensures
    ∙ flat_map_viewed subscript_text view_manifest c.args.place.now.subs in
    ends _ _ c.put_subs.result (λ h. followed c.in_ok-put_name.ensures (alike subs h)) c.put_subs.ensures
