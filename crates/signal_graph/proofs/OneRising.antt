-- Lists in which a number of each thing rises are the same where they have the same things.
use Rattle.std.proofs.Common.{◌≡◌, refl, sym, subst, ap, ◌∙◌, arith, ℕ, suc, ◌<◌, ◌⊎◌, inl, inr, List, [], ◌∷◌, map}
use Rattle.std.specs.Prelude.{Contains}
use Rattle.std.specs.List.{AllPairs}
use Rattle.std.specs.List.Sorted.{IsStrictlyIncreasing}
use Rattle.std.proofs.lemmas.List.{get_or-map, length-map}
use Rattle.std.proofs.lemmas.List.Kept.{AllPairs-from_increasing}
use Rattle.signal_graph.proofs.Members.{in_first, in_rest, first_or_rest}

module _ {A : Type 0} (key : A → ℕ) where
  abbrev pub RiseBy : List A → Type 0
  RiseBy xs = AllPairs (λ (x y : A). key x < key y) xs

  pub rise_by : (xs : List A) → IsStrictlyIncreasing (map key xs) → RiseBy xs
  rise_by xs increasing i j d less inside = omega (
    arith,
    AllPairs-from_increasing (map key xs) increasing i j (key d) less (omega (arith, inside, length-map xs key)),
    get_or-map key xs i d (key d) (omega (arith, less, inside)),
    get_or-map key xs j d (key d) inside,
  )

  above : (x v : A) (xs : List A) → RiseBy (x ∷ xs) → Contains xs v → key x < key v
  above x v xs rise (k, lt, h) = subst (λ (y : A). key x < key y) h (rise 0 (suc k) v (omega arith) (omega arith))

  rest_rises : (x : A) (xs : List A) → RiseBy (x ∷ xs) → RiseBy xs
  rest_rises x xs rise i j d lt inside = rise (suc i) (suc j) d (omega arith) (omega arith)

  same_first : (x y : A) (xs ys : List A)
      → RiseBy (x ∷ xs)
      → RiseBy (y ∷ ys)
      → (x ≡ y) ⊎ Contains xs y
      → (y ≡ x) ⊎ Contains ys x
      → x ≡ y
  same_first x y xs ys r s (inl h) k = h
  same_first x y xs ys r s (inr h) (inl k) = sym k
  same_first x y xs ys r s (inr h) (inr k) = absurd (omega (arith, above x y xs r h, above y x ys s k))

  -- what is later in the one list is later in the other
  moved : (x y : A) (xs ys : List A)
      → RiseBy (x ∷ xs)
      → x ≡ y
      → ((v : A) → Contains (x ∷ xs) v → Contains (y ∷ ys) v)
      → (v : A)
      → Contains xs v
      → Contains ys v
  moved x y xs ys r same to v h = by (first_or_rest y v ys (to v (in_rest x v xs h)))
    where
      by : (y ≡ v) ⊎ Contains ys v → Contains ys v
      by (inl e) = absurd (omega (arith, above x v xs r h, ap key (same ∙ e)))
      by (inr k) = k

  pub same_rising : (xs ys : List A)
      → RiseBy xs
      → RiseBy ys
      → ((v : A) → Contains xs v → Contains ys v)
      → ((v : A) → Contains ys v → Contains xs v)
      → xs ≡ ys
  same_rising [] [] r s to from = refl
  same_rising [] (y ∷ ys) r s to from = absurd (let h = from y (in_first y ys) in let lt = h.1 in omega arith)
  same_rising (x ∷ xs) [] r s to from = absurd (let h = to x (in_first x xs) in let lt = h.1 in omega arith)
  same_rising (x ∷ xs) (y ∷ ys) r s to from =
      let same =
      same_first x y xs ys r s (first_or_rest x y xs (from y (in_first y ys)))
      (first_or_rest y x ys (to x (in_first x xs))) in
      let rest =
      same_rising xs ys (rest_rises x xs r) (rest_rises y ys s) (moved x y xs ys r same to)
      (moved y x ys xs s (sym same) from) in
      ap (λ (i : A). i ∷ xs) same ∙ ap (λ (is : List A). y ∷ is) rest
