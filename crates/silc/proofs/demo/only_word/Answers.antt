use Rattle.std.proofs.Common.{rules, ◌≡◌, ◌∙◌, sym, ap, [], ◌∷◌, get_or, ℤ, pos, to_z, of_z, FitsSigned, w64}
use Rattle.std.proofs.lemmas.Int.{to_z-of_z}
use Rattle.silc.proofs.Demonstrating.{only_item}
use Rattle.silc.proofs.demo.only_word.Goals as goal

pub returns : goal.returns
returns c =
    let fits : FitsSigned w64 (get_or c.args.row.now 0 (pos 0)) = search rules in
    let word : to_z w64 (of_z w64 (get_or c.args.row.now 0 (pos 0))) ≡ get_or c.args.row.now 0 (pos 0) =
    to_z-of_z w64 _ fits in
    only_item c.args.row.now (pos 0) c.requires ∙ ap (λ (w : ℤ). w ∷ []) (sym word)
