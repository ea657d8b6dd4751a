-- Who goes through a table in order meets the fault of least rank.
use Rattle.std.proofs.Common.{◌≡◌, ◌<◌, ◌∙◌, ◌+◌, ℕ, suc, List, ◌∷◌, Bool, true, false, Result, Ok, Err, IsErrAnd, map}
use Rattle.std.proofs.Common.{drop, length, get_or, refl, sym, ap, add-one, drop-cons, true≢false}
use Rattle.fault_order.specs.Ranked.{FaultSet, FaultRow, faults_in, ◌before◌}
use Rattle.fault_order.specs.Rules.{Rules, RuleRow, parts, own, none, ◌▸◌, unless, each_from, faults, row_faults}
use Rattle.fault_order.specs.Private.FirstMet.{first, first_in, ◌>>◌}
use Rattle.fault_order.proofs.FirstFaults.{Answers, IsSingle, none_clear, go_on, before_first, own_first, own_go_on}
use Rattle.fault_order.proofs.FirstFaults.{none_single, before_single, own_single}

module _ {F : Type 0} where
  pub then_ok : (r : Result (Unit {0}) F) → r >> Ok tt ≡ r
  then_ok (Ok x) = refl
  then_ok (Err e) = refl

  pub err_is : (r : Result (Unit {0}) F) (e : F) → IsErrAnd r (λ x. x ≡ e) → r ≡ Err e
  err_is (Ok x) e h = absurd h
  err_is (Err x) e h = ap Err h

  -- where a table is met without a fault, so is each part of it
  pub then_parts : (r s : Result (Unit {0}) F) → r >> s ≡ Ok tt → (r ≡ Ok tt) × (s ≡ Ok tt)
  then_parts (Ok x) s e = (refl, e)
  then_parts (Err f) s e = absurd (cc)

  pub rule_holds : (holds : Bool) (g : F) → first (unless holds g) ≡ Ok tt → holds ≡ true
  rule_holds true g e = refl
  rule_holds false g e = absurd (cc)

  pub in_turn : (H : FaultSet F) (R : FaultRow F) (r s : Result (Unit {0}) F)
      → Answers H r
      → Answers (faults_in R) s
      → Answers (faults_in (H before R)) (r >> s)
  in_turn H R (Ok x) s a b = go_on H R a s b
  in_turn H R (Err e) s a b = before_first H R e a

  mutual
    pub first_answers : (x : Rules F) → Answers (faults x) (first x)
    first_answers (parts row) = row_answers row
    first_answers (own true g row) =
        own_go_on (true ≡ false) g (row_faults row) (λ e. true≢false e) (first_in row) (row_answers row)
    first_answers (own false g row) = own_first (false ≡ false) g (row_faults row) refl

    pub row_answers : (row : RuleRow F) → Answers (faults_in (row_faults row)) (first_in row)
    row_answers none = none_clear
    row_answers (x ▸ row) =
        in_turn (faults x) (row_faults row) (first x) (first_in row) (first_answers x) (row_answers row)

  -- each place of a table has one fault at most
  mutual
    pub single_faults : (x : Rules F) → IsSingle (faults x)
    single_faults (parts row) = single_row row
    single_faults (own holds g row) = own_single (holds ≡ false) g (row_faults row) (single_row row)

    pub single_row : (row : RuleRow F) → IsSingle (faults_in (row_faults row))
    single_row none = none_single
    single_row (x ▸ row) = before_single (faults x) (row_faults row) (single_faults x) (single_row row)

  -- a loop over things, of which the next is at i: it fails as the next one does, or goes on behind it
  module _ {A B : Type 0} (G : ℕ → B → Rules F) (v : A → B) (xs : List A) (i : ℕ) (x : A) (within : i < length xs)
      (is : x ≡ get_or xs i x) where
    next : first_in (each_from G i (map v (drop i xs)))
        ≡ first (G i (v x)) >> first_in (each_from G (i + 1) (map v (drop (i + 1) xs)))
    next =
        let here : drop i xs ≡ x ∷ drop (i + 1) xs =
        drop-cons xs i x within ∙ ap (λ y. y ∷ drop (suc i) xs) (sym is)
        ∙ ap (λ k. x ∷ drop k xs) (sym (add-one i)) in
        ap (λ l. first_in (each_from G i (map v l))) here

    pub next_fails : (whole r : Result (Unit {0}) F) (err : F)
        → first_in (each_from G i (map v (drop i xs))) ≡ whole
        → Err err ≡ first (G i (v x))
        → IsErrAnd r (λ e. e ≡ err)
        → r ≡ whole
    next_fails whole r err so_far h fails =
        err_is r err fails ∙ sym (ap (λ s. s >> first_in (each_from G (i + 1) (map v (drop (i + 1) xs)))) (sym h))
        ∙ sym next ∙ so_far

    pub next_passes : (whole : Result (Unit {0}) F)
        → first_in (each_from G i (map v (drop i xs))) ≡ whole
        → Ok tt ≡ first (G i (v x))
        → first_in (each_from G (i + 1) (map v (drop (i + 1) xs))) ≡ whole
    next_passes whole so_far h =
        ap (λ s. s >> first_in (each_from G (i + 1) (map v (drop (i + 1) xs)))) h ∙ sym next ∙ so_far

  pub then_assoc : (a b d : Result (Unit {0}) F) → a >> (b >> d) ≡ (a >> b) >> d
  then_assoc (Ok x) b d = refl
  then_assoc (Err e) b d = refl
