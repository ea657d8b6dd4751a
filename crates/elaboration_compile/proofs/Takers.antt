-- The places of a call and its results.
use Rattle.std.proofs.Common.{◌≡◌, ◌≤◌, ℕ, zero, suc, List, [], ◌∷◌, map, drop, length, refl, arith}
use Rattle.lists.proofs.Places.{drop_end}
use Rattle.silage_syntax.specs.declared.tree.Decl.{Decl}
use Rattle.silage_syntax.specs.declared.tree.Place.{Place as RustPlace}
use Rattle.silage_syntax.specs.Tree.{Func, view_place}
use Rattle.elaboration_code.specs.ItemActions.{actions_of_takers}

-- none are left where there are no more results
pub takers_end : (f : Func) (loops : List (List ℕ)) (results : List Decl) (places : List RustPlace) (i : ℕ)
    → length results ≤ i
    → actions_of_takers f loops (drop i results) (map view_place (drop i places)) ≡ []
takers_end f loops results places i h = rw (drop_end results i h) refl
