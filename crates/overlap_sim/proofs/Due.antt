-- What is due of a list of parts: as the list grows by one, and what of the whole list holds of it too.
use Rattle.std.proofs.Common.{◌≡◌, ℕ, zero, suc, ◌+◌, ◌<◌, ◌≤◌, nat_le, Bool, true, false, cond, List, [], ◌∷◌, ◌++◌}
use Rattle.std.proofs.Common.{length, map, take, get_or, refl, ap, ◌∙◌, arith}
use Rattle.std.specs.List.{All, AllPairs, filter}
use Rattle.std.proofs.lemmas.Bool.{le-leb, leb-true}
use Rattle.std.proofs.lemmas.List.{map-append, append-nil}
use Rattle.std.proofs.lemmas.List.Elements.{filter_more, All-cons, All-head, All-tail}
use Rattle.std.proofs.lemmas.List.Kept.{AllPairs-cons}
use Rattle.overlap_sim.specs.declared.guarded.Staged.{Staged}
use Rattle.overlap_sim.specs.Guarded.{due, whole}
use Rattle.overlap_sim.specs.Private.Stages.{AreUpTo}

module _ {A : Type 0} (sample : ℕ) where
  -- one part more, which is due or not
  more : (xs : List (Staged A)) (i : ℕ) (d : Staged A)
      → i < length xs
      → (b : Bool)
      → nat_le (get_or xs i d).stage sample ≡ b
      → due sample (take (i + 1) xs) ≡ due sample (take i xs) ++ cond b ((get_or xs i d).part ∷ []) []
  more xs i d below b e =
      ap (map (λ (staged : Staged A). staged.part))
      (filter_more (λ (staged : Staged A). nat_le staged.stage sample) xs i d below
      ∙ ap (λ b. filter (λ (staged : Staged A). nat_le staged.stage sample) (take i xs)
      ++ cond b (get_or xs i d ∷ []) []) e)
      ∙ map-append (λ (staged : Staged A). staged.part) _ (cond b (get_or xs i d ∷ []) [])
      ∙ ap (λ l. due sample (take i xs) ++ l) (each b)
    where
      each : (b : Bool)
          → map (λ (staged : Staged A). staged.part) (cond b (get_or xs i d ∷ []) [])
          ≡ cond b ((get_or xs i d).part ∷ []) []
      each true = refl
      each false = refl

  pub due_more : (xs : List (Staged A)) (i : ℕ) (d : Staged A)
      → i < length xs
      → (get_or xs i d).stage ≤ sample
      → due sample (take (i + 1) xs) ≡ due sample (take i xs) ++ (get_or xs i d).part ∷ []
  due_more xs i d below le = more xs i d below true (le-leb (get_or xs i d).stage sample le)

  pub due_same : (xs : List (Staged A)) (i : ℕ) (d : Staged A)
      → i < length xs
      → ((get_or xs i d).stage ≤ sample → ⊥)
      → due sample (take (i + 1) xs) ≡ due sample (take i xs)
  due_same xs i d below never =
      more xs i d below false (other (nat_le (get_or xs i d).stage sample) (λ e. never (leb-true _ sample e)))
      ∙ append-nil (due sample (take i xs))
    where
      other : (b : Bool) → (b ≡ true → ⊥) → b ≡ false
      other true never = absurd (never refl)
      other false never = refl

  -- where no stage is later, all parts are due
  pub all_due : (xs : List (Staged A)) (last : ℕ) → AreUpTo last xs → last ≤ sample → due sample xs ≡ whole xs
  all_due [] last up_to le = refl
  all_due (x ∷ xs) last up_to le =
      ap (λ b. map (λ (staged : Staged A). staged.part)
      (cond b (x ∷ filter (λ (staged : Staged A). nat_le staged.stage sample) xs)
      (filter (λ (staged : Staged A). nat_le staged.stage sample) xs)))
      (le-leb x.stage sample (now (All-head (λ (staged : Staged A). staged.stage ≤ last) x xs up_to)))
      ∙ ap (λ l. x.part ∷ l)
      (all_due xs last (All-tail (λ (staged : Staged A). staged.stage ≤ last) x xs up_to) le)
    where
      now : x.stage ≤ last → x.stage ≤ sample
      now early = omega (arith, early, le)

  -- by cases of one part
  by_first : (P : List A → Type 0) (x : Staged A) (xs : List (Staged A))
      → P (due sample xs)
      → P (x.part ∷ due sample xs)
      → P (due sample (x ∷ xs))
  by_first P x xs without with =
      at (nat_le x.stage sample)
    where
      at : (b : Bool)
          → P (map (λ (staged : Staged A). staged.part)
          (cond b (x ∷ filter (λ (staged : Staged A). nat_le staged.stage sample) xs)
          (filter (λ (staged : Staged A). nat_le staged.stage sample) xs)))
      at true = with
      at false = without

  pub All-due : (P : A → Type 0) (xs : List (Staged A)) → All P (whole xs) → All P (due sample xs)
  All-due P [] all = all
  All-due P (x ∷ xs) all =
      let rest = All-due P xs (All-tail P x.part (whole xs) all) in
      by_first (All P) x xs rest
      (All-cons P x.part (due sample xs) (All-head P x.part (whole xs) all) rest)

  pub AllPairs-due : (R : A → A → Type 0) (xs : List (Staged A)) → AllPairs R (whole xs) → AllPairs R (due sample xs)
  AllPairs-due R [] pairs = pairs
  AllPairs-due R (x ∷ xs) pairs =
      let rest = AllPairs-due R xs (λ i j d lt within. pairs (suc i) (suc j) d (omega arith) (omega arith)) in
      let head : All (R x.part) (whole xs) = λ k d within. pairs zero (suc k) d (omega arith) (omega arith) in
      by_first (AllPairs R) x xs rest
      (AllPairs-cons R x.part (due sample xs) (All-due (R x.part) xs head) rest)

  pub length-due : (xs : List (Staged A)) → length (due sample xs) ≤ length (whole xs)
  length-due [] = omega arith
  length-due (x ∷ xs) =
      let rest = length-due xs in
      by_first (λ l. length l ≤ length (whole (x ∷ xs))) x xs (omega (arith, rest)) (omega (arith, rest))
