-- An element of an array has one row of subscripts, and these select it where a place is written with them.
use Rattle.std.proofs.Common.{◌≡◌, ◌∙◌, ◌+◌, ◌*◌, ◌/◌, ◌%◌, ◌<◌, ◌≤◌, ◌^◌, ℕ, pos, List, [], ◌∷◌, map, Some, refl, ap}
use Rattle.std.proofs.Common.{arith}
use Rattle.std.proofs.Math.Nat.{mod-lt}
use Rattle.std.proofs.lemmas.Nat.{div-mul-add, div-add-mod'}
use Rattle.silage_syntax.specs.Tree.{whole}
use Rattle.silage_syntax.specs.Manifests.{Indices, in_range}
use Rattle.silage_syntax.specs.Names.{IsOffset}
use Rattle.element_rules.specs.Subscripts.{IsPlace}

-- Arrays with two dims.
module _ (rows columns place : ℕ) where
  pub in_rows : 0 < columns
      → place / columns < rows
      → IsPlace (rows ∷ columns ∷ []) (place / columns ∷ place % columns ∷ []) place
  in_rows some less =
      let rest = mod-lt place some in
      let parts = div-add-mod' place columns in
      (place % columns, less, (0, rest, refl, omega arith), omega (arith, parts))

  pub record IsPicked (subs : List ℕ) : Type 0 where
    pub some : 0 < columns
    pub less : place / columns < rows
    pub is : subs ≡ place / columns ∷ place % columns ∷ []

  picked : (i j : ℕ) → i < rows → j < columns → place ≡ i * columns + j → IsPicked (i ∷ j ∷ [])
  picked i j less inner e =
      let row = ap (λ n. n / columns) e ∙ div-mul-add i columns j inner in
      let parts = div-add-mod' place columns in
      let whole = ap (λ n. n * columns) row in
      let column : place % columns ≡ j = omega (arith, parts, whole, e) in
      record { some = omega arith; less = rw row less; is = rw (row, column) refl }

  pub only_picked : (subs : List ℕ) → IsPlace (rows ∷ columns ∷ []) subs place → IsPicked subs
  only_picked [] h = absurd h
  only_picked (i ∷ []) (rest, less, h, e) = absurd h
  only_picked (i ∷ j ∷ []) (rest, less, (last, inner, none, at), e) = picked i j less inner (omega (arith, none, at, e))
  only_picked (i ∷ j ∷ k ∷ subs) (rest, less, (last, inner, h, at), e) = absurd h

-- the dims that an array may have are far below this
abbrev pub AreSmall : (dims : List ℕ) → Type 0
AreSmall [] = Unit {0}
AreSmall (dim ∷ dims) = (dim ≤ 2 ^ 31) × AreSmall dims

in_numbers : (n : ℕ) → n < 2 ^ 31 → in_range (pos n) ≡ Some (pos n)
in_numbers n less = grind arith

-- written as numbers, the subscripts select the place
pub written : (indices : Indices) (dims subs : List ℕ) (place : ℕ)
    → AreSmall dims
    → IsPlace dims subs place
    → IsOffset indices dims (map (λ n. whole n 0) subs) place
written indices [] [] place small h = h
written indices [] (sub ∷ subs) place small h = absurd h
written indices (dim ∷ dims) [] place small h = absurd h
written indices (dim ∷ dims) (sub ∷ subs) place small (rest, less, inner, e) =
    (sub, rest, in_numbers sub (omega (arith, small.0)), less, written indices dims subs rest small.1 inner, e)
