-- Going over a list, each element by what was read before it.
use Rattle.std.proofs.Common.{◌≡◌, ◌≢◌, ℕ, ◌+◌, ◌<◌, ◌≤◌, List, [], ◌∷◌, ◌++◌, length, map, drop, get_or, Result, Ok}
use Rattle.std.proofs.Common.{Err}
use Rattle.std.proofs.Common.{refl, sym, ◌∙◌}
use Rattle.std.proofs.lemmas.List.{drop_more, drop_all}
use Rattle.toml_rows.specs.Reading.{in_turn}

module _ {F X A B : Type 0} (memory : F) (one : List B → A → Result B F) (view : X → A) where
  -- the elements from the place on are still to be read
  abbrev pub rest_of : List X → ℕ → List B → Result (List B) F
  rest_of xs i before = in_turn one before (map view (drop i xs))

  pub turn_goes_on : (xs : List X) (i : ℕ) (x : X) (y : B) (before : List B) (total : Result (List B) F)
      → i < length xs
      → x ≡ get_or xs i x
      → one before (view x) ≡ Ok y
      → rest_of xs i before ≡ total
      → rest_of xs (i + 1) (before ++ y ∷ []) ≡ total
  unfolding in_turn
  turn_goes_on xs i x y before total lt is good so_far =
      let step : rest_of xs i before ≡ rest_of xs (i + 1) (before ++ y ∷ []) =
      rw (drop_more xs i x lt, ← is, good) refl in
      sym step ∙ so_far

  pub turn_ends : (xs : List X) (i : ℕ) (x : X) (e : F) (before : List B) (total : Result (List B) F)
      → i < length xs
      → x ≡ get_or xs i x
      → (e ≢ memory → one before (view x) ≡ Err e)
      → rest_of xs i before ≡ total
      → e ≢ memory
      → total ≡ Err e
  unfolding in_turn
  turn_ends xs i x e before total lt is bad so_far other =
      let step : rest_of xs i before ≡ Err e = rw (drop_more xs i x lt, ← is, bad other) refl in
      sym so_far ∙ step

  pub turn_done : (xs : List X) (i : ℕ) (before : List B) (total : Result (List B) F)
      → length xs ≤ i
      → rest_of xs i before ≡ total
      → total ≡ Ok before
  unfolding in_turn
  turn_done xs i before total le so_far =
      let none : drop i xs ≡ [] = drop_all i xs le in
      let step : rest_of xs i before ≡ Ok before = rw none refl in
      sym so_far ∙ step
