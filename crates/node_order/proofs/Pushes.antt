-- What stands in a list of numbers with one more at its end.
use Rattle.std.proofs.Common.{◌≡◌, ◌∙◌, sym, ap, subst, arith, ℕ, ◌+◌, ◌<◌, ◌≤◌, ◌⊎◌, inl, inr, ⊎_elim, List, [], ◌∷◌}
use Rattle.std.proofs.Common.{◌++◌, length, length-append}
use Rattle.std.proofs.lemmas.Bool.{cases_lt}
use Rattle.std.proofs.lemmas.List.{get_or_append_left}
use Rattle.std.proofs.Math.Seq.{get_or-append_seam}
use Rattle.node_order.specs.Topological.{nth, IsAt}

module _ (xs : List ℕ) (v : ℕ) where
  pub len : length (xs ++ v ∷ []) ≡ length xs + 1
  len = omega (arith, length-append xs (v ∷ []))

  pub below : (i : ℕ) → i < length xs → nth (xs ++ v ∷ []) i ≡ nth xs i
  below i lt = get_or_append_left xs (v ∷ []) 0 i lt

  pub top : nth (xs ++ v ∷ []) (length xs) ≡ v
  top = get_or-append_seam xs v [] 0

  pub top_at : (i : ℕ) → i ≡ length xs → nth (xs ++ v ∷ []) i ≡ v
  top_at i e = ap (nth (xs ++ v ∷ [])) e ∙ top

  pub at_more : (w : ℕ) → IsAt xs w → IsAt (xs ++ v ∷ []) w
  at_more w h = let less = h.1 in (h.0, omega (arith, len), below h.0 less ∙ h.2)

  pub at_last : IsAt (xs ++ v ∷ []) v
  at_last = (length xs, omega (arith, len), top)

  pub at_split : (w : ℕ) → IsAt (xs ++ v ∷ []) w → IsAt xs w ⊎ (v ≡ w)
  at_split w h = ⊎_elim (λ (less : h.0 < length xs). inl (h.0, less, sym (below h.0 less) ∙ h.2))
      (λ (past : length xs ≤ h.0).
      let inside = h.1 in
      let at : h.0 ≡ length xs = omega (arith, len) in
      inr (sym (top_at h.0 at) ∙ h.2))
      (cases_lt h.0 (length xs))

  pub each : (P : ℕ → Type 0)
      → ((i : ℕ) → i < length xs → P (nth xs i))
      → P v
      → (i : ℕ)
      → i < length (xs ++ v ∷ [])
      → P (nth (xs ++ v ∷ []) i)
  each P all here i lt =
      ⊎_elim (λ (less : i < length xs). subst P (sym (below i less)) (all i less))
      (λ (past : length xs ≤ i).
      let at : i ≡ length xs = omega (arith, len) in
      subst P (sym (top_at i at)) here)
      (cases_lt i (length xs))
