-- Going over a list, each element by what was read before it.
use Rattle.std.proofs.Common.{Bor, ◌≡◌, ◌≢◌, ℕ, ◌+◌, ◌<◌, ◌≤◌, List, [], ◌∷◌, ◌++◌, length, map, drop, get_or, Ok, Err}
use Rattle.std.proofs.Common.{refl, sym, ◌∙◌}
use Rattle.std.proofs.lemmas.List.{drop_more, drop_all}
use Rattle.datapath.specs.declared.fault.PathFault.{PathFault}
use Rattle.datapath.specs.declared.fault.PathFault.TheVariants.{Memory}
use Rattle.datapath.specs.Reading.{Read, in_turn}

-- what a read of a list of texts shows behind its end
abbrev pub no_text : Bor (List ℕ)
no_text = record { ref_ptr = (0, 0); now = [] }

module _ {X A B : Type 0} (one : List B → A → Read B) (view : X → A) where
  -- the elements from the place on are still to be read
  abbrev pub rest_of : List X → ℕ → List B → Read (List B)
  rest_of xs i before = in_turn one before (map view (drop i xs))

  pub turn_goes_on : (xs : List X) (i : ℕ) (x : X) (y : B) (before : List B) (total : Read (List B))
      → i < length xs
      → x ≡ get_or xs i x
      → one before (view x) ≡ Ok y
      → rest_of xs i before ≡ total
      → rest_of xs (i + 1) (before ++ y ∷ []) ≡ total
  unfolding in_turn
  turn_goes_on xs i x y before total lt is good so_far =
      let step : rest_of xs i before ≡ rest_of xs (i + 1) (before ++ y ∷ []) =
      rw (drop_more xs i x lt, ← is, good) refl in
      sym step ∙ so_far

  pub turn_ends : (xs : List X) (i : ℕ) (x : X) (e : PathFault) (before : List B) (total : Read (List B))
      → i < length xs
      → x ≡ get_or xs i x
      → (e ≢ Memory → one before (view x) ≡ Err e)
      → rest_of xs i before ≡ total
      → e ≢ Memory
      → total ≡ Err e
  unfolding in_turn
  turn_ends xs i x e before total lt is bad so_far other =
      let step : rest_of xs i before ≡ Err e = rw (drop_more xs i x lt, ← is, bad other) refl in
      sym so_far ∙ step

  pub turn_done : (xs : List X) (i : ℕ) (before : List B) (total : Read (List B))
      → length xs ≤ i
      → rest_of xs i before ≡ total
      → total ≡ Ok before
  unfolding in_turn
  turn_done xs i before total le so_far =
      let none : drop i xs ≡ [] = drop_all i xs le in
      let step : rest_of xs i before ≡ Ok before = rw none refl in
      sym so_far ∙ step
