-- The registers of a file that are in use, and the next one.
use Rattle.std.proofs.Common.{◌≡◌, ◌∙◌, ℕ, zero, suc, ◌<◌, ◌≤◌, refl, sym, ap, arith, ⊎_elim, List, [], ◌∷◌, ◌++◌}
use Rattle.std.proofs.Common.{length, slice_index_or, slice_set}
use Rattle.std.specs.Prelude.{Some, None}
use Rattle.std.proofs.lemmas.Bool.{cases_lt}
use Rattle.std.proofs.lemmas.List.{get_or_append_left, get_or_past, get_or_push, get_or_read, get_or-set_same}
use Rattle.std.proofs.lemmas.List.{get_or-set_other, length_push}
use Rattle.reg_alloc.specs.declared.circle.Span.{Span}
use Rattle.reg_alloc.specs.declared.circle.Occupancy.{Occupancy}
use Rattle.reg_alloc.specs.Private.Spans.{joined}
use Rattle.reg_alloc.specs.Private.Occupancies.{span_at, IsJoined}
use Rattle.reg_alloc.specs.Private.Files.{no_occupancy, register_in}

pub some_same : (a b : Span) → Some a ≡ Some b → a ≡ b
some_same a b e = cc

pub nothing_at : (n : ℕ) → span_at no_occupancy n ≡ None
nothing_at zero = refl
nothing_at (suc zero) = refl
nothing_at (suc (suc zero)) = refl
nothing_at (suc (suc (suc zero))) = refl
nothing_at (suc (suc (suc (suc n)))) = refl

-- a register more leaves the others as they are
pub others_pushed : (registers : List Occupancy) (o : Occupancy) (p : ℕ)
    → (p ≡ length registers → ⊥)
    → register_in (registers ++ o ∷ []) p ≡ register_in registers p
others_pushed registers o p differ =
    ⊎_elim (λ (less : p < length registers). get_or_append_left registers (o ∷ []) no_occupancy p less)
    (λ (above : length registers ≤ p).
    let count = length_push registers o in
    ⊎_elim (λ (past : length registers < p).
    get_or_past (registers ++ o ∷ []) p no_occupancy (omega arith)
    ∙ sym (get_or_past registers p no_occupancy (omega arith)))
    (λ (upto : p ≤ length registers). absurd (differ (omega arith))) (cases_lt (length registers) p))
    (cases_lt p (length registers))

-- one that holds nothing is as one that is not in use
pub new_as_none : (registers : List Occupancy) (o : Occupancy) (q : ℕ)
    → q ≡ length registers
    → ((n : ℕ) → span_at o n ≡ None)
    → (n : ℕ)
    → span_at (register_in (registers ++ o ∷ []) q) n ≡ span_at (register_in registers q) n
new_as_none registers o q is none n =
    ap (λ (x : Occupancy). span_at x n) (get_or_push registers o no_occupancy q (sym is)) ∙ none n
    ∙ sym (ap (λ (x : Occupancy). span_at x n) (get_or_past registers q no_occupancy (omega arith)) ∙ nothing_at n)

-- where register q of those in use is replaced
module _ (old now : List Occupancy) (q : ℕ) (item other new : Occupancy) (there : q < length now)
    (item_is : item ≡ slice_index_or now q item) (joins : IsJoined item other new) where
  pub others_same : ((p : ℕ) → (p ≡ q → ⊥) → register_in now p ≡ register_in old p)
      → (p : ℕ)
      → (p ≡ q → ⊥)
      → register_in (slice_set now q new) p ≡ register_in old p
  others_same kept p differ = get_or-set_other now q p new no_occupancy differ ∙ kept p differ

  pub joined_at : ((n : ℕ) → span_at (register_in now q) n ≡ span_at (register_in old q) n)
      → IsJoined (register_in old q) other (register_in (slice_set now q new) q)
  joined_at kept n =
      ap (λ (x : Occupancy). span_at x n) (get_or-set_same now q new no_occupancy there) ∙ joins n
      ∙ ap (λ x. joined x (span_at other n))
      (ap (λ (x : Occupancy). span_at x n) (get_or_read now q item there item_is no_occupancy) ∙ kept n)
