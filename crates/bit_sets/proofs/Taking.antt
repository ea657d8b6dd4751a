-- The numbers of a set, taken out one after another from the first on.
use Rattle.std.proofs.Common.{◌≡◌, ◌≢◌, ◌⊎◌, sym, subst, arith, inl, inr, ⊎_elim, ap, ◌∙◌, ℕ, ◌<◌, ◌≤◌, List, [], ◌∷◌}
use Rattle.std.proofs.Common.{◌++◌, map, Contains}
use Rattle.std.specs.Prelude.{slice_index_or}
use Rattle.std.specs.List.{AllPairs}
use Rattle.std.proofs.lemmas.Bool.{cases_lt, cases_eq}
use Rattle.std.proofs.lemmas.List.{length-map, get_or-map, get_or_default}
use Rattle.std.proofs.lemmas.List.Elements.{Contains-push, Contains-push_cases, Contains-append_left}
use Rattle.std.proofs.lemmas.List.Quantifiers.{all_pairs_push}
use Rattle.bit_sets.specs.Bits.{Has, IsFirstOf, AreNumbersOf}

-- the numbers that are not left any more, all of which are before those that are left
pub record AreTaken (bits left : ℕ) (numbers : List ℕ) : Type 0 where
  pub rise : AllPairs (λ (a b : ℕ). a < b) numbers
  pub only : (k : ℕ) → Contains numbers k → Has bits k
  pub every : (k : ℕ) → Has bits k → Contains numbers k ⊎ Has left k
  pub inside : (k : ℕ) → Has left k → Has bits k
  pub later : (a k : ℕ) → Contains numbers a → Has left k → a < k

pub none_taken : (bits : ℕ) → AreTaken bits bits []
none_taken bits = record {
  rise = λ i j d less within. absurd (omega (arith, within));
  only = λ k among. absurd (omega (arith, among.1));
  every = λ k h. inr h;
  inside = λ k h. h;
  later = λ a k among h. absurd (omega (arith, among.1));
}

module _ (bits old new : ℕ) (numbers : List ℕ) (k : ℕ) (before : AreTaken bits old numbers)
    (takes : IsFirstOf old k new) where
  above : (j : ℕ) → Has new j → k < j
  above j h =
      let x = (takes.taken.rest j).0 h in
      ⊎_elim (λ (less : j < k). absurd (takes.first j less x.0))
      (λ (more : k ≤ j).
      ⊎_elim (λ (l : k < j). l) (λ (g : j ≤ k). absurd (x.1 (omega (arith, more, g)))) (cases_lt k j))
      (cases_lt j k)

  -- one number more
  pub one_taken : AreTaken bits new (numbers ++ k ∷ [])
  one_taken = record {
    rise = all_pairs_push (λ (a b : ℕ). a < b) numbers k before.rise
        (λ i d less. before.later (slice_index_or numbers i d) k
        (i, less, get_or_default numbers i (slice_index_or numbers i d) d less) takes.taken.there);
    only = λ j among.
        ⊎_elim (λ was. before.only j was) (λ (same : k ≡ j). subst (Has bits) same (before.inside k takes.taken.there))
        (Contains-push_cases numbers k j among);
    every = λ j h. ⊎_elim (λ was. inl (Contains-append_left numbers (k ∷ []) j was))
        (λ (o : Has old j). ⊎_elim
        (λ (same : j ≡ k). inl (subst (Contains (numbers ++ k ∷ [])) (sym same) (Contains-push numbers k)))
        (λ (other : j ≢ k). inr ((takes.taken.rest j).1 (o, other)))
        (cases_eq j k))
        (before.every j h);
    inside = λ j h. before.inside j ((takes.taken.rest j).0 h).0;
    later = λ a j among h.
        ⊎_elim (λ was. before.later a j was ((takes.taken.rest j).0 h).0)
        (λ (same : k ≡ a). subst (λ (x : ℕ). x < j) same (above j h))
        (Contains-push_cases numbers k a among);
  }

pub all_taken : (bits left : ℕ) (numbers : List ℕ)
    → AreTaken bits left numbers
    → ((k : ℕ) → ¬ Has left k)
    → AreNumbersOf bits numbers
all_taken bits left numbers are none = record {
  rise = are.rise;
  each = λ k. (
    λ among. are.only k among,
    λ h. ⊎_elim (λ was. was) (λ (x : Has left k). absurd (none k x)) (are.every k h),
  );
}

module _ {A : Type 0} (f : ℕ → A) where
  -- what is made of rising numbers is in order, where what is made of two numbers is
  pub pairs_map : (R : ℕ → ℕ → Type 0) (S : A → A → Type 0)
      → ((a b : ℕ) → R a b → S (f a) (f b))
      → (xs : List ℕ)
      → AllPairs R xs
      → AllPairs S (map f xs)
  pairs_map R S keeps xs pairs i j d less within =
      let long = length-map xs f in
      subst (S (slice_index_or (map f xs) i d)) (sym (get_or-map f xs j 0 d (omega (arith, within, long))))
      (subst (λ (x : A). S x (f (slice_index_or xs j 0)))
      (sym (get_or-map f xs i 0 d (omega (arith, less, within, long))))
      (keeps (slice_index_or xs i 0) (slice_index_or xs j 0) (pairs i j 0 less (omega (arith, within, long)))))

  pub contains_map : (xs : List ℕ) (x : ℕ) → Contains xs x → Contains (map f xs) (f x)
  contains_map xs x (i, less, is) =
      (i, omega (arith, less, length-map xs f), get_or-map f xs i x (f x) less ∙ ap f is)
