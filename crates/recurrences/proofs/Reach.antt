-- Which number of a finite relation reaches which, as a test (Warshall's algorithm).
use Rattle.std.proofs.Common.{◌≡◌, ◌<◌, ◌≤◌, ◌⊎◌, inl, inr, ℕ, zero, suc, Bool, true, ◌&&◌, ◌||◌, subst, arith}
use Rattle.std.proofs.lemmas.Bool.{cases_lt, and_from as both}
use Rattle.lists.proofs.Bools.{both_true as both_cases}
use Rattle.recurrences.proofs.Bools.{either, or_cases}

-- from e to c by the relation, through numbers below k
pub data Via (R : ℕ → ℕ → Type 0) (k : ℕ) : ℕ → ℕ → Type 0 where
  last : {e c : ℕ} → R e c → Via R k e c
  more : {e c : ℕ} (d : ℕ) → d < k → R e d → Via R k d c → Via R k e c

module _ (R : ℕ → ℕ → Type 0) (test : ℕ → ℕ → Bool)
    (tests : (e d : ℕ) → (test e d ≡ true → R e d) × (R e d → test e d ≡ true)) where
  -- whether e reaches c through numbers below k
  abbrev pub reach : ℕ → ℕ → ℕ → Bool
  reach zero e c = test e c
  reach (suc k) e c = reach k e c || (reach k e k && reach k k c)

  -- a path through numbers up to k goes through k or not
  split : (k : ℕ) {e c : ℕ} → Via R (suc k) e c → Via R k e c ⊎ (Via R k e k × Via R k k c)
  split k (last r) = inl (last r)
  split k {e} {c} (more d lt r p) = by (cases_lt d k) (split k p)
    where
      by : (d < k) ⊎ (k ≤ d) → Via R k d c ⊎ (Via R k d k × Via R k k c) → Via R k e c ⊎ (Via R k e k × Via R k k c)
      by (inl less) (inl q) = inl (more d less r q)
      by (inl less) (inr q) = inr (more d less r q.0, q.1)
      by (inr le) rest =
          let is : d ≡ k = omega arith in
          let to : R e k = subst (λ (i : ℕ). R e i) is r in
          onward to (subst (λ (i : ℕ). Via R k i c ⊎ (Via R k i k × Via R k k c)) is rest)
        where
          onward : R e k → Via R k k c ⊎ (Via R k k k × Via R k k c) → Via R k e c ⊎ (Via R k e k × Via R k k c)
          onward to (inl q) = inr (last to, q)
          onward to (inr q) = inr (last to, q.1)

  pub complete : (k e c : ℕ) → Via R k e c → reach k e c ≡ true
  complete zero e c (last r) = (tests e c).1 r
  complete zero e c (more d lt r p) = absurd (omega arith)
  complete (suc k) e c p = by (split k p) (λ a b q. complete k a b q)
    where
      by : Via R k e c ⊎ (Via R k e k × Via R k k c)
          → ((a b : ℕ) → Via R k a b → reach k a b ≡ true)
          → (reach k e c || (reach k e k && reach k k c)) ≡ true
      by (inl q) ih = either _ _ (inl (ih e c q))
      by (inr q) ih = either (reach k e c) _ (inr (both _ _ (ih e k q.0) (ih k c q.1)))

  module _ (Path : ℕ → ℕ → Type 0) (step : (e d : ℕ) → R e d → Path e d)
      (join : (e d c : ℕ) → Path e d → Path d c → Path e c) where
    pub sound : (k e c : ℕ) → reach k e c ≡ true → Path e c
    sound zero e c h = step e c ((tests e c).0 h)
    sound (suc k) e c h = by (or_cases _ _ h) (λ a b q. sound k a b q)
      where
        by : (reach k e c ≡ true) ⊎ ((reach k e k && reach k k c) ≡ true)
            → ((a b : ℕ) → reach k a b ≡ true → Path a b)
            → Path e c
        by (inl q) ih = ih e c q
        by (inr q) ih = let parts = both_cases _ _ q in join e k c (ih e k parts.0) (ih k c parts.1)
