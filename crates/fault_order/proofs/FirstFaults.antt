-- The first fault of a thing, by the faults of its parts.
use Rattle.std.proofs.Common.{◌≡◌, ◌∙◌, ℕ, zero, suc, List, [], ◌∷◌, Result, Ok, Err, refl, sym, subst, inl, inr, arith}
use Rattle.fault_order.specs.Ranked.{FaultSet, FaultRow, StandsBefore, IsFirst, IsClear, no_faults, faults_in}
use Rattle.fault_order.specs.Ranked.{own_fault, ◌before◌}

-- two ranks that stand before one another are the same
same_rank : (r s : List ℕ) → StandsBefore r s → StandsBefore s r → r ≡ s
same_rank [] [] a b = refl
same_rank [] (l ∷ s) a b = absurd b
same_rank (k ∷ r) [] a b = absurd a
same_rank (k ∷ r) (l ∷ s) (inl a) (inl b) = absurd (omega arith)
same_rank (k ∷ r) (l ∷ s) (inl a) (inr b) = absurd (omega (arith, b.0))
same_rank (k ∷ r) (l ∷ s) (inr a) (inl b) = absurd (omega (arith, a.0))
same_rank (k ∷ r) (l ∷ s) (inr a) (inr b) = let e = same_rank r s a.1 b.1 in cc (a.0)

module _ {F : Type 0} where
  -- no rank has two faults
  abbrev pub IsSingle : FaultSet F → Type 0
  IsSingle H = (r : List ℕ) (f g : F) → H r f → H r g → f ≡ g

  -- the first fault, and Ok where there is none
  abbrev pub Answers : {A : Type 0} → FaultSet F → Result A F → Type 0
  Answers H (Ok x) = IsClear H
  Answers H (Err e) = IsFirst H e

  pub none_clear : IsClear {F = F} (faults_in no_faults)
  none_clear [] f h = h
  none_clear (k ∷ r) f h = h

  pub before_clear : (H : FaultSet F) (R : FaultRow F)
      → IsClear H
      → IsClear (faults_in R)
      → IsClear (faults_in (H before R))
  before_clear H R c d [] f h = h
  before_clear H R c d (zero ∷ r) f h = c r f h
  before_clear H R c d (suc k ∷ r) f h = d (k ∷ r) f h

  pub own_clear : (P : Type 0) (g : F) (R : FaultRow F) → (P → ⊥) → IsClear (faults_in R) → IsClear (own_fault P g R)
  own_clear P g R n d [] f h = n h.0
  own_clear P g R n d (k ∷ r) f h = d (k ∷ r) f h

  pub before_first : (H : FaultSet F) (R : FaultRow F) (e : F) → IsFirst H e → IsFirst (faults_in (H before R)) e
  before_first H R e i = record { rank = zero ∷ i.rank; here = i.here; least = least }
    where
      least : (s : List ℕ) (f : F) → faults_in (H before R) s f → StandsBefore (zero ∷ i.rank) s
      least [] f h = h
      least (zero ∷ s) f h = inr (refl, i.least s f h)
      least (suc k ∷ s) f h = inl (omega arith)

  later : (H : FaultSet F) (R : FaultRow F) (e : F)
      → IsClear H
      → (q : List ℕ)
      → faults_in R q e
      → ((s : List ℕ) (f : F) → faults_in R s f → StandsBefore q s)
      → IsFirst (faults_in (H before R)) e
  later H R e c [] h l = absurd h
  later H R e c (j ∷ q) h l = record { rank = suc j ∷ q; here = h; least = least }
    where
      least : (s : List ℕ) (f : F) → faults_in (H before R) s f → StandsBefore (suc j ∷ q) s
      least [] f g = g
      least (zero ∷ s) f g = absurd (c s f g)
      least (suc k ∷ s) f g = up (l (k ∷ s) f g)
        where
          up : StandsBefore (j ∷ q) (k ∷ s) → StandsBefore (suc j ∷ q) (suc k ∷ s)
          up (inl a) = inl (omega arith)
          up (inr b) = inr (omega arith, b.1)

  pub later_first : (H : FaultSet F) (R : FaultRow F) (e : F)
      → IsClear H
      → IsFirst (faults_in R) e
      → IsFirst (faults_in (H before R)) e
  later_first H R e c i = later H R e c i.rank i.here i.least

  pub own_first : (P : Type 0) (g : F) (R : FaultRow F) → P → IsFirst (own_fault P g R) g
  own_first P g R p = record { rank = []; here = (p, refl); least = λ s f h. tt }

  own_later : (P : Type 0) (g : F) (R : FaultRow F) (e : F)
      → (P → ⊥)
      → (q : List ℕ)
      → faults_in R q e
      → ((s : List ℕ) (f : F) → faults_in R s f → StandsBefore q s)
      → IsFirst (own_fault P g R) e
  own_later P g R e n [] h l = absurd h
  own_later P g R e n (j ∷ q) h l = record { rank = j ∷ q; here = h; least = least }
    where
      least : (s : List ℕ) (f : F) → own_fault P g R s f → StandsBefore (j ∷ q) s
      least [] f a = absurd (n a.0)
      least (k ∷ s) f a = l (k ∷ s) f a

  -- where the first thing has no fault, the row answers as its rest; where it has one, that is the answer
  pub go_on : {A : Type 0} (H : FaultSet F) (R : FaultRow F)
      → IsClear H
      → (r : Result A F)
      → Answers (faults_in R) r
      → Answers (faults_in (H before R)) r
  go_on H R c (Ok x) a = before_clear H R c a
  go_on H R c (Err e) i = later_first H R e c i

  pub own_go_on : {A : Type 0} (P : Type 0) (g : F) (R : FaultRow F)
      → (P → ⊥)
      → (r : Result A F)
      → Answers (faults_in R) r
      → Answers (own_fault P g R) r
  own_go_on P g R n (Ok x) a = own_clear P g R n a
  own_go_on P g R n (Err e) i = own_later P g R e n i.rank i.here i.least

  pub none_single : IsSingle (faults_in no_faults)
  none_single [] f g h i = absurd h
  none_single (k ∷ r) f g h i = absurd h

  pub before_single : (H : FaultSet F) (R : FaultRow F)
      → IsSingle H
      → IsSingle (faults_in R)
      → IsSingle (faults_in (H before R))
  before_single H R a b [] f g h i = absurd h
  before_single H R a b (zero ∷ r) f g h i = a r f g h i
  before_single H R a b (suc k ∷ r) f g h i = b (k ∷ r) f g h i

  pub own_single : (P : Type 0) (e : F) (R : FaultRow F) → IsSingle (faults_in R) → IsSingle (own_fault P e R)
  own_single P e R b [] f g h i = h.1 ∙ sym i.1
  own_single P e R b (k ∷ r) f g h i = b (k ∷ r) f g h i

  -- there is one first fault
  pub one_first : (H : FaultSet F) (e f : F) → IsSingle H → IsFirst H e → IsFirst H f → e ≡ f
  one_first H e f one i j =
      let same : i.rank ≡ j.rank = same_rank i.rank j.rank (i.least j.rank f j.here) (j.least i.rank e i.here) in
      one j.rank e f (subst (λ (r : List ℕ). H r e) same i.here) j.here
