-- What was added to nothing is the whole text.
use Rattle.std.proofs.Common.{ap, ◌∙◌, ◌++◌}
use Rattle.std.specs.List.{flat_map}
use Rattle.silage_syntax.specs.Tree.{view_top}
use Rattle.silage_print.specs.Text.{spelled, top_text}
use Rattle.silage_print.proofs.Spelled.{flat_map_viewed}
use Rattle.silage_print.proofs.printing.print.Goals as goal

pub returns : goal.returns
returns c =
    let tops =
    ap (flat_map (λ top. top_text (view_top top))) c.deref.ensures
    ∙ flat_map_viewed top_text view_top c.args.program.now.tops in
    c.in_ok-put_tops.ensures.added
    ∙ ap (λ out. out ++ spelled (flat_map (λ top. top_text (view_top top)) c.deref.result.now)) c.new-out.ensures
    ∙ ap spelled tops
