-- The sets of those numbers that pass, made number by number.
use Rattle.std.proofs.Common.{◌≡◌, ◌≢◌, ◌↔◌, ◌⊎◌, sym, subst, arith, inl, inr, ⊎_elim, ℕ, ◌+◌, ◌<◌}
use Rattle.std.proofs.lemmas.Bool.{cases_eq}
use Rattle.bit_sets.specs.Bits.{Has, IsTaken}
use Rattle.bit_sets.proofs.Bits.{has_none}

-- the sets of those of the first numbers that pass
module _ (Passes : ℕ → Type 0) where
  pub passing_none : (u : ℕ) → Has 0 u ↔ ((u < 0) × Passes u)
  passing_none u = (λ h. absurd (has_none u h), λ h. absurd (omega (arith, h.0)))

  pub passing_more : (n : ℕ) (old new : ℕ)
      → ((u : ℕ) → Has old u ↔ ((u < n) × Passes u))
      → ((u : ℕ) → Has new u ↔ (Has old u ⊎ (u ≡ n)))
      → Passes n
      → (u : ℕ)
      → Has new u ↔ ((u < n + 1) × Passes u)
  passing_more n old new before step passes u = (
    λ h.
        ⊎_elim (λ (x : Has old u). let two = (before u).0 x in (omega (arith, two.0), two.1))
        (λ (e : u ≡ n). (omega arith, subst (λ (w : ℕ). Passes w) (sym e) passes)) ((step u).0 h),
    λ h.
        (step u).1 (⊎_elim (λ (e : u ≡ n). inr e) (λ (other : u ≢ n). inl ((before u).1 (omega (arith, h.0), h.1)))
        (cases_eq u n)),
  )

  pub passing_past : (n : ℕ) (old : ℕ)
      → ((u : ℕ) → Has old u ↔ ((u < n) × Passes u))
      → (Passes n → ⊥)
      → (u : ℕ)
      → Has old u ↔ ((u < n + 1) × Passes u)
  passing_past n old before fails u = (
    λ h. let two = (before u).0 h in (omega (arith, two.0), two.1),
    λ h.
        ⊎_elim (λ (e : u ≡ n). absurd (fails (subst (λ (w : ℕ). Passes w) e h.1)))
        (λ (other : u ≢ n). (before u).1 (omega (arith, h.0), h.1)) (cases_eq u n),
  )

-- the sets of those of some numbers that pass, where the numbers in `left` were not looked at yet
pub record IsFiltered (Passes : ℕ → Type 0) (all left found : ℕ) : Type 0 where
  pub inside : (u : ℕ) → Has left u → Has all u
  pub filtered : (u : ℕ) → Has found u ↔ ((Has left u → ⊥) × Has all u × Passes u)

module _ (Passes : ℕ → Type 0) (all : ℕ) where
  pub filter_none : IsFiltered Passes all all 0
  filter_none = record {
    inside = λ u h. h;
    filtered = λ u. (λ h. absurd (has_none u h), λ h. absurd (h.0 h.1));
  }

  module _ (left rest found : ℕ) (k : ℕ) (before : IsFiltered Passes all left found)
      (takes : IsTaken left k rest) where
    rest_inside : (u : ℕ) → Has rest u → Has all u
    rest_inside u h = before.inside u ((takes.rest u).0 h).0

    looked_at : (u : ℕ) → u ≢ k → (Has rest u → ⊥) → Has left u → ⊥
    looked_at u other not h = not ((takes.rest u).1 (h, other))

    pub filter_more : (new : ℕ)
        → ((u : ℕ) → Has new u ↔ (Has found u ⊎ (u ≡ k)))
        → Passes k
        → IsFiltered Passes all rest new
    filter_more new new_is passes = record {
      inside = rest_inside;
      filtered = λ u. (
        λ h.
            ⊎_elim
            (λ (x : Has found u).
            let was = (before.filtered u).0 x in (λ r. was.0 ((takes.rest u).0 r).0, was.1, was.2))
            (λ (e : u ≡ k). (
              λ r. ((takes.rest u).0 r).1 e,
              subst (Has all) (sym e) (before.inside k takes.there),
              subst Passes (sym e) passes,
            ))
            ((new_is u).0 h),
        λ h.
            (new_is u).1
            (⊎_elim (λ (e : u ≡ k). inr e)
            (λ (other : u ≢ k). inl ((before.filtered u).1 (looked_at u other h.0, h.1, h.2))) (cases_eq u k)),
      );
    }

    pub filter_past : (Passes k → ⊥) → IsFiltered Passes all rest found
    filter_past fails = record {
      inside = rest_inside;
      filtered = λ u. (
        λ h. let was = (before.filtered u).0 h in (λ r. was.0 ((takes.rest u).0 r).0, was.1, was.2),
        λ h.
            ⊎_elim (λ (e : u ≡ k). absurd (fails (subst Passes e h.2)))
            (λ (other : u ≢ k). (before.filtered u).1 (looked_at u other h.0, h.1, h.2)) (cases_eq u k),
      );
    }

  pub filter_all : (left found : ℕ)
      → IsFiltered Passes all left found
      → ((u : ℕ) → Has left u → ⊥)
      → (u : ℕ)
      → Has found u ↔ (Has all u × Passes u)
  filter_all left found is none u = (
    λ h. let was = (is.filtered u).0 h in (was.1, was.2),
    λ h. (is.filtered u).1 (none u, h.0, h.1),
  )
