-- Values in many turns at once.
use Rattle.std.proofs.Common.{◌≡◌, ◌<◌, ◌≤◌, ◌+◌, ◌∙◌, ℕ, zero, suc, ℤ, pos, neg_ℤ, Bool, true, false, List, length}
use Rattle.std.proofs.Common.{replicate, slice_set, Some, inl, inr, refl, sym, ap, arith}
use Rattle.std.specs.Prelude.{◌≤ℤ◌, ◌^◌, ◌-◌, int_le, IsSome}
use Rattle.std.proofs.lemmas.Int.{ints}
use Rattle.std.proofs.lemmas.List.{get_or-set_same, get_or-set_other, length-set}
use Rattle.std.proofs.lemmas.Bool.Decides.{eqb_tells}
use Rattle.silage_syntax.specs.declared.tree.MOp.TheVariants.{Sub}
use Rattle.silage_syntax.specs.Manifests.{in_range, combined}
use Rattle.loop_expand.specs.Private.Turns.{at}

-- a number that is in the range
pub record IsRanged (z : ℤ) : Type 0 where
  pub least : neg_ℤ (pos (2 ^ 31)) ≤ℤ z
  pub most : z ≤ℤ pos (2 ^ 31 - 1)
  pub is : in_range z ≡ Some z

pub ranged : (z : ℤ) → IsSome (in_range z) → IsRanged z
ranged z some = by (int_le (neg_ℤ (pos (2 ^ 31))) z) (int_le z (pos (2 ^ 31 - 1))) refl refl
  where
    le_is : (a b : ℤ) → int_le a b ≡ true → a ≤ℤ b
    le_is a b e = grind (arith, ints, e)

    by : (a b : Bool) → int_le (neg_ℤ (pos (2 ^ 31))) z ≡ a → int_le z (pos (2 ^ 31 - 1)) ≡ b → IsRanged z
    by true true low high = record { least = le_is _ _ low; most = le_is _ _ high; is = rw (low, high) refl }
    by true false low high = absurd (cc (rw (low, high) at some))
    by false b low high = absurd (cc (rw low at some))

-- the first k of a row are combined with others in place
module _ (f : ℤ → ℤ → ℤ) (first : List ℤ) (right : ℕ → ℤ) where
  abbrev pub Done : ℕ → List ℤ → Type 0
  Done k left =
      (length left ≡ length first)
      × ((j : ℕ) → j < k → in_range (f (at first j) (right j)) ≡ Some (at left j))
      × ((j : ℕ) → k ≤ j → at left j ≡ at first j)

  pub one_more : (k : ℕ) (left : List ℤ) (v : ℤ)
      → k < length left
      → Done k left
      → in_range (f (at left k) (right k)) ≡ Some v
      → Done (k + 1) (slice_set left k v)
  one_more k left v lt done e = (length-set left k v ∙ done.0, below, above)
    where
      below : (j : ℕ) → j < k + 1 → in_range (f (at first j) (right j)) ≡ Some (at (slice_set left k v) j)
      below j less =
          elim (eqb_tells j k) [
            | inl is ↦ let same = is.1 in
                ap (λ i. in_range (f (at first i) (right i))) same
                ∙ ap (λ z. in_range (f z (right k))) (sym (done.2 k (omega arith))) ∙ e
                ∙ ap Some (sym (ap (λ i. at (slice_set left k v) i) same ∙ get_or-set_same left k v (pos 0) lt))
            | inr is ↦
                let apart = is.1 in done.1 j (omega arith) ∙ ap Some (sym (get_or-set_other left k j v (pos 0) apart))
          ]

      above : (j : ℕ) → k + 1 ≤ j → at (slice_set left k v) j ≡ at first j
      above j more =
          get_or-set_other left k j v (pos 0) (λ same. absurd (omega (arith, same, more))) ∙ done.2 j (omega arith)

pub at_replicate : (n : ℕ) (v : ℤ) (k : ℕ) → k < n → at (replicate n v) k ≡ v
at_replicate zero v k less = absurd (omega arith)
at_replicate (suc n) v zero less = refl
at_replicate (suc n) v (suc k) less = at_replicate n v k (omega arith)

pub from_0 : (a : ℤ) → combined Sub (pos 0) a ≡ neg_ℤ a
from_0 a = grind arith
