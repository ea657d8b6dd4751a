-- A source gives at most one word.
use Rattle.std.proofs.Common.{◌≡◌, sym, ◌∙◌, ap, ℕ, List, slice_get, ℤ}
use Rattle.lists.proofs.Places.{some_once}
use Rattle.silage_syntax.specs.Tree.{Program}
use Rattle.silage_meaning.specs.Value.{Words}
use Rattle.lists.specs.Rows.{Rows}
use Rattle.silage_meaning.specs.Solves.{Source, word, value, same, number, Gives}
use Rattle.silage_meaning.proofs.Values.{value_once, entry_once}

pub gives_once : (p : Program) (stream : Rows) (words : Words) (n : ℕ) (source : Source) (v w : ℤ)
    → Gives p stream words n source v
    → Gives p stream words n source w
    → v ≡ w
gives_once p stream words n (word j) v w (row, is, at) (row', is', at') =
    let same_row : row ≡ row' = some_once is is' in
    some_once at (ap (λ (r : List ℤ). slice_get r j) same_row ∙ at')
gives_once p stream words n (value s x ty) v w h k = value_once p s words n x ty v w h k
gives_once p stream words n (same e theirs ours) v w h k = h.1 ∙ sym k.1
gives_once p stream words n (number c j ty) v w h k = entry_once c j ty v w h k
