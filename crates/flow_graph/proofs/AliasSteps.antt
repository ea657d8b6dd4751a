-- Chains of aliases, followed twice as far at a time.
use Rattle.std.proofs.Common.{◌≡◌, ℕ, ◌+◌, ◌<◌, ◌≤◌, inl, inr, List, length, get_or, sym, subst, ◌∙◌, arith}
use Rattle.std.proofs.Math.ListN.{set}
use Rattle.std.proofs.lemmas.Bool.{cases_eq, cases_lt}
use Rattle.std.proofs.lemmas.List.{length-set, get_or-set_same, get_or-set_other}
use Rattle.signal_graph.specs.Flat.{Program}
use Rattle.flow_graph.specs.Private.Aliases.{IsEnd, IsInside, JumpsTo}

module _ (p : Program) (height : ℕ → ℕ) (far : ℕ) where
  jumps_on : (e d c : ℕ) → JumpsTo p height far e d → JumpsTo p height far d c → JumpsTo p height (far + far) e c
  jumps_on e d c a b = record {
    named = λ t n. a.named t (b.named t n);
    stays = λ ends. (let same = a.stays ends in b.stays (subst (IsEnd p) (sym same) ends) ∙ same);
    falls = elim b.falls [
      | inl ends ↦ inl ends
      | inr low ↦ elim a.falls [
        | inl ends ↦ inl (subst (IsEnd p) (sym (b.stays ends)) ends)
        | inr lower ↦ inr (omega arith)
      ]
    ];
  }

  less_far : (e d : ℕ) → JumpsTo p height (far + far) e d → JumpsTo p height far e d
  less_far e d a = record {
    named = a.named;
    stays = a.stays;
    falls = elim a.falls [ inl ends ↦ inl ends | inr low ↦ inr (omega arith) ];
  }

  -- the first elements lead twice as far
  pub record DoubledTo (n : ℕ) (leads : List ℕ) : Type 0 where
    pub done : (e : ℕ) → e < n → e < length leads → JumpsTo p height (far + far) e (get_or leads e 0)
    pub rest : (e : ℕ) → n ≤ e → e < length leads → JumpsTo p height far e (get_or leads e 0)

  pub one_doubled : (n : ℕ) (leads : List ℕ)
      → IsInside leads
      → n < length leads
      → DoubledTo n leads
      → DoubledTo (n + 1) (set leads n (get_or leads (get_or leads n 0) 0))
  one_doubled n leads inside within h =
      let d = get_or leads n 0 in
      let c = get_or leads d 0 in
      let size : length (set leads n c) ≡ length leads = length-set leads n c in
      let there : JumpsTo p height far d c = elim (cases_lt d n) [
        | inl below ↦ less_far d c (h.done d below (inside n within))
        | inr above ↦ h.rest d above (inside n within)
      ] in
      let same : get_or (set leads n c) n 0 ≡ c = get_or-set_same leads n c 0 within in
      record {
        done = λ e below e_within. elim (cases_eq e n) [
          | inl is ↦ subst (λ (k : ℕ). JumpsTo p height (far + far) k (get_or (set leads n c) k 0)) (sym is)
              (subst (λ (k : ℕ). JumpsTo p height (far + far) n k) (sym same)
              (jumps_on n d c (h.rest n (omega arith) within) there))
          | inr other ↦
              subst (λ (k : ℕ). JumpsTo p height (far + far) e k) (sym (get_or-set_other leads n e c 0 other))
              (h.done e (omega arith) (omega arith))
        ];
        rest = λ e above e_within. (let other : e ≡ n → ⊥ = λ is. omega arith in
            subst (λ (k : ℕ). JumpsTo p height far e k) (sym (get_or-set_other leads n e c 0 other))
            (h.rest e (omega arith) (omega arith)));
      }

pub inside_set : (leads : List ℕ) (n : ℕ)
    → IsInside leads
    → n < length leads
    → IsInside (set leads n (get_or leads (get_or leads n 0) 0))
inside_set leads n inside within e e_within =
    let c = get_or leads (get_or leads n 0) 0 in
    let size : length (set leads n c) ≡ length leads = length-set leads n c in
    let low : c < length leads = inside (get_or leads n 0) (inside n within) in
    elim (cases_eq e n) [
      | inl is ↦
          subst (λ (k : ℕ). get_or (set leads n c) k 0 < length (set leads n c)) (sym is)
          (let same = get_or-set_same leads n c 0 within in omega arith)
      | inr other ↦ (let same = get_or-set_other leads n e c 0 other in let old = inside e (omega arith) in omega arith)
    ]
