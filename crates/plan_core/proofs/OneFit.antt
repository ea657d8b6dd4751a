-- Lifetimes have one choice of registers by first fit at most, and so have the first of them.
use Rattle.std.proofs.Common.{◌≡◌, refl, sym, subst, ap, ◌∙◌, arith, ℕ, zero, suc, ◌<◌, inl, inr, ⊎_elim, List, []}
use Rattle.std.proofs.Common.{length, slice_index_or, ext_get_or}
use Rattle.std.specs.List.{AllPairs}
use Rattle.std.proofs.lemmas.Bool.{cases_lt}
use Rattle.plan_core.specs.Arcs.{no_arc, arc_of, IsWrittenBefore, IsArcBefore}
use Rattle.plan_core.specs.FirstFit.{register_of, IsCopyBefore, IsListedBefore, IsFree, IsFirstFree, IsFirstFit}
use Rattle.plan_core.specs.declared.registers.Arc.{Arc}
use Rattle.plan_core.proofs.OneArcs.{ports_differ, written_one_way}
use Rattle.plan_core.proofs.OneHeight.{neither_less}

pub listed_trans : (l j k i m n : ℕ) → IsListedBefore l j k i → IsListedBefore k i m n → IsListedBefore l j m n
listed_trans l j k i m n (inl h) (inl g) = inl (omega arith)
listed_trans l j k i m n (inl h) (inr g) = let e = g.0 in inl (omega arith)
listed_trans l j k i m n (inr h) (inl g) = let e = h.0 in inl (omega arith)
listed_trans l j k i m n (inr h) (inr g) = let less = h.1 in let more = g.1 in inr (h.0 ∙ g.0, omega arith)

module _ (period unroll : ℕ) (arcs : List Arc) (order : AllPairs IsArcBefore arcs) where
  -- of two arcs of one file the one that is written before is the first in the list
  pub not_later : (k l : ℕ)
      → k < length arcs
      → (arc_of arcs k).port ≡ (arc_of arcs l).port
      → l < k
      → IsWrittenBefore (arc_of arcs l) (arc_of arcs k)
  not_later k l there port less = by (order l k no_arc less there)
    where
      by : IsArcBefore (arc_of arcs l) (arc_of arcs k) → IsWrittenBefore (arc_of arcs l) (arc_of arcs k)
      by (inl h) = absurd (ports_differ (arc_of arcs l).port (arc_of arcs k).port h (sym port))
      by (inr h) = h.1

  never_same : (x y : Arc) → IsWrittenBefore x y → x.w ≡ y.w → x.node ≡ y.node → ⊥
  never_same x y (inl h) w node = omega arith
  never_same x y (inr h) w node = let less = h.1 in omega arith

  -- a copy that gets its register before another stands before it in the list, or is of the same arc
  pub comes_first : (k i l j : ℕ)
      → k < length arcs
      → l < length arcs
      → (arc_of arcs k).port ≡ (arc_of arcs l).port
      → IsCopyBefore (arc_of arcs k) i (arc_of arcs l) j
      → IsListedBefore k i l j
  comes_first k i l j k_there l_there port (inl h) =
      ⊎_elim (λ less. inl less) (λ not_less. ⊎_elim (λ more. absurd
      (written_one_way (arc_of arcs k) (arc_of arcs l) h (not_later k l k_there port more)))
      (λ same. let e : k ≡ l = omega arith in absurd (alone k l e h)) (cases_lt l k)) (cases_lt k l)
    where
      alone : (k l : ℕ) → k ≡ l → IsWrittenBefore (arc_of arcs k) (arc_of arcs l) → ⊥
      alone k l e h = never_same (arc_of arcs k) (arc_of arcs l) h (ap (λ (x : ℕ). (arc_of arcs x).w) e)
          (ap (λ (x : ℕ). (arc_of arcs x).node) e)
  comes_first k i l j k_there l_there port (inr h) =
      ⊎_elim (λ less. inl less) (λ not_less. ⊎_elim (λ more. absurd
      (never_same (arc_of arcs l) (arc_of arcs k) (not_later k l k_there port more) (sym h.0) (sym h.1)))
      (λ same. inr (omega arith, h.2)) (cases_lt l k)) (cases_lt k l)

  -- and the other way round
  pub comes_before : (k i l j : ℕ)
      → l < length arcs
      → (arc_of arcs k).port ≡ (arc_of arcs l).port
      → IsListedBefore k i l j
      → IsCopyBefore (arc_of arcs k) i (arc_of arcs l) j
  comes_before k i l j there port (inl h) = inl (not_later l k there (sym port) h)
  comes_before k i l j there port (inr h) =
      inr (ap (λ (x : ℕ). (arc_of arcs x).w) h.0, ap (λ (x : ℕ). (arc_of arcs x).node) h.0, h.1)

  -- the two choices agree on the copies before copy j of arc l
  abbrev pub Agree : List (List ℕ) → List (List ℕ) → ℕ → ℕ → Type 0
  Agree rs qs l j =
      (k i : ℕ) → k < length arcs → i < (arc_of arcs k).copies → IsListedBefore k i l j
      → register_of rs k i ≡ register_of qs k i

  pub free-same : (rs qs : List (List ℕ)) (l j register : ℕ)
      → l < length arcs
      → Agree rs qs l j
      → IsFree period unroll arcs rs l j register
      → IsFree period unroll arcs qs l j register
  free-same rs qs l j register there agree free k i x =
      free k i (record {
        there = x.there;
        copy = x.copy;
        file = x.file;
        before = x.before;
        its_register = agree k i x.there x.copy (comes_first k i l j x.there there x.file x.before) ∙ x.its_register;
      })

  agree-back : (rs qs : List (List ℕ)) (l j : ℕ) → Agree rs qs l j → Agree qs rs l j
  agree-back rs qs l j agree k i there copy before = sym (agree k i there copy before)

  pub first-same : (rs qs : List (List ℕ)) (l j : ℕ)
      → l < length arcs
      → Agree rs qs l j
      → register_of rs l j ≡ register_of qs l j
      → IsFirstFree period unroll arcs rs l j
      → IsFirstFree period unroll arcs qs l j
  first-same rs qs l j there agree same first = record {
    free = subst (λ (register : ℕ). IsFree period unroll arcs qs l j register) same
        (free-same rs qs l j (register_of rs l j) there agree first.free);
    least = λ register less free.
        first.least register (omega (arith, less, same))
        (free-same qs rs l j register there (agree-back rs qs l j agree) free);
  }

  register-same : (rs qs : List (List ℕ)) (l j : ℕ)
      → l < length arcs
      → Agree rs qs l j
      → IsFirstFree period unroll arcs rs l j
      → IsFirstFree period unroll arcs qs l j
      → register_of rs l j ≡ register_of qs l j
  register-same rs qs l j there agree r q =
      neither_less (register_of rs l j) (register_of qs l j)
      (λ less. q.least (register_of rs l j) less (free-same rs qs l j (register_of rs l j) there agree r.free))
      (λ less. r.least (register_of qs l j) less (free-same qs rs l j (register_of qs l j) there
      (agree-back rs qs l j agree) q.free))

  -- each copy before copy n of arc m has the first register that is free for it
  abbrev pub AreFirstBefore : List (List ℕ) → ℕ → ℕ → Type 0
  AreFirstBefore rs m n =
      (k i : ℕ) → k < length arcs → i < (arc_of arcs k).copies → IsListedBefore k i m n
      → IsFirstFree period unroll arcs rs k i

  module _ (rs qs : List (List ℕ)) (m n : ℕ) (firsts_r : AreFirstBefore rs m n) (firsts_q : AreFirstBefore qs m n) where
    -- arc by arc, and in an arc copy by copy
    copies-same : (l : ℕ)
        → l < length arcs
        → ((k i : ℕ)
        → k < length arcs
        → k < l
        → i < (arc_of arcs k).copies
        → IsListedBefore k i m n
        → register_of rs k i ≡ register_of qs k i)
        → (bound j : ℕ)
        → j < bound
        → j < (arc_of arcs l).copies
        → IsListedBefore l j m n
        → register_of rs l j ≡ register_of qs l j
    copies-same l there arcs_before zero j less copy before = absurd (omega arith)
    copies-same l there arcs_before (suc bound) j less copy before =
        register-same rs qs l j there
        (agree-here (λ i low i_copy i_before. copies-same l there arcs_before bound i (omega arith) i_copy i_before))
        (firsts_r l j there copy before) (firsts_q l j there copy before)
      where
        at_l :
            ((i : ℕ)
            → i < j
            → i < (arc_of arcs l).copies
            → IsListedBefore l i m n
            → register_of rs l i ≡ register_of qs l i)
            → (k i : ℕ)
            → k ≡ l
            → i < j
            → i < (arc_of arcs k).copies
            → register_of rs k i ≡ register_of qs k i
        at_l rest k i e low i_copy =
            subst (λ (x : ℕ). register_of rs x i ≡ register_of qs x i) (sym e)
            (rest i low (subst (λ (x : ℕ). i < (arc_of arcs x).copies) e i_copy)
            (listed_trans l i l j m n (inr (refl, low)) before))

        agree-here :
            ((i : ℕ)
            → i < j
            → i < (arc_of arcs l).copies
            → IsListedBefore l i m n
            → register_of rs l i ≡ register_of qs l i)
            → Agree rs qs l j
        agree-here rest k i k_there i_copy (inl h) =
            arcs_before k i k_there h i_copy (listed_trans k i l j m n (inl h) before)
        agree-here rest k i k_there i_copy (inr h) = at_l rest k i h.0 h.1 i_copy

    arcs-same : (bound l j : ℕ)
        → l < bound
        → l < length arcs
        → j < (arc_of arcs l).copies
        → IsListedBefore l j m n
        → register_of rs l j ≡ register_of qs l j
    arcs-same zero l j less there copy before = absurd (omega arith)
    arcs-same (suc bound) l j less there copy before =
        copies-same l there
        (λ k i k_there low i_copy k_before. arcs-same bound k i (omega arith) k_there i_copy k_before) (suc j) j
        (omega arith) copy before

    pub agree : Agree rs qs m n
    agree k i there copy before = arcs-same (suc k) k i (omega arith) there copy before

  module _ (rs qs : List (List ℕ)) (fit_r : IsFirstFit period unroll arcs rs)
      (fit_q : IsFirstFit period unroll arcs qs) where
    same : (k i : ℕ) → k < length arcs → i < (arc_of arcs k).copies → register_of rs k i ≡ register_of qs k i
    same k i there copy =
        agree rs qs (length arcs) 0 (λ l j l_there l_copy _. fit_r.each l j l_there l_copy)
        (λ l j l_there l_copy _. fit_q.each l j l_there l_copy) k i there copy (inl there)

    pub one_fit : rs ≡ qs
    one_fit =
        let count = fit_r.count in
        ext_get_or [] rs qs (fit_r.count ∙ sym fit_q.count) (λ k less. of_arc k (omega arith))
      where
        of_arc : (k : ℕ) → k < length arcs → slice_index_or rs k [] ≡ slice_index_or qs k []
        of_arc k there =
            let copies = fit_r.copies k there in
            ext_get_or 0 (slice_index_or rs k []) (slice_index_or qs k [])
            (fit_r.copies k there ∙ sym (fit_q.copies k there))
            (λ i less. same k i there (omega arith))
