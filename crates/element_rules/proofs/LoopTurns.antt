-- The turns of a loop, as a list and by its bounds.
use Rattle.std.proofs.Common.{◌≡◌, ◌<◌, ◌≤◌, ◌+◌, ◌⊎◌, inl, inr, ℕ, zero, suc, ℤ, pos, negsuc, ◌+ℤ◌, ◌-ℤ◌, ◌≤ℤ◌, List}
use Rattle.std.proofs.Common.{[], ◌∷◌, map, Option, Some, None, refl, ap, arith}
use Rattle.std.proofs.lemmas.Bool.{cases_eq}
use Rattle.std.proofs.lemmas.Int.{ints}
use Rattle.std.specs.List.{range_with_len}
use Rattle.silage_syntax.specs.Tree.{Manifest}
use Rattle.silage_syntax.specs.Manifests.{Indices, manifest_value}
use Rattle.silage_meaning.specs.Instances.{IsTurn}
use Rattle.element_rules.specs.ElementRules.{at_least_0, count_up, loop_turns}

abbrev pub IsAmong : ℤ → List ℤ → Type 0
IsAmong turn [] = ⊥
IsAmong turn (t ∷ turns) = (turn ≡ t) ⊎ IsAmong turn turns

module _ (first : ℤ) where
  abbrev turns_from : (a n : ℕ) → List ℤ
  turns_from a n = map (λ k. first +ℤ pos k) (range_with_len a n)

  among_from : (a n k : ℕ) → a ≤ k → k < a + n → IsAmong (first +ℤ pos k) (turns_from a n)
  among_from a zero k least most = absurd (omega arith)
  among_from a (suc n) k least most = elim (cases_eq k a) [
    | inl same ↦ inl (ap (λ k. first +ℤ pos k) same)
    | inr other ↦ inr (among_from (a + 1) n k (omega arith) (omega arith))
  ]

  record IsTurnFrom (a n : ℕ) (turn : ℤ) : Type 0 where
    number : ℕ
    least : a ≤ number
    most : number < a + n
    is : turn ≡ first +ℤ pos number

  from_among : (a n : ℕ) (turn : ℤ) → IsAmong turn (turns_from a n) → IsTurnFrom a n turn
  from_among a zero turn h = absurd h
  from_among a (suc n) turn (inl same) = record { number = a; least = omega arith; most = omega arith; is = same }
  from_among a (suc n) turn (inr h) =
      let rest = from_among (a + 1) n turn h in
      record { number = rest.number; least = omega (arith, rest.least); most = omega (arith, rest.most); is = rest.is }

up_to : (first last turn : ℤ) → first ≤ℤ turn → turn ≤ℤ last → IsTurnFrom first 0 (count_up first last) turn
up_to first last turn begun ended = by (turn -ℤ first) refl
  where
    below : (k : ℕ) (z : ℤ) → turn -ℤ first ≡ pos k → last -ℤ first +ℤ pos 1 ≡ z → k < at_least_0 z
    below k (pos m) e is = omega (arith, ints)
    below k (negsuc m) e is = absurd (omega (arith, ints))

    by : (z : ℤ) → turn -ℤ first ≡ z → IsTurnFrom first 0 (count_up first last) turn
    by (pos k) e =
        let less = below k (last -ℤ first +ℤ pos 1) e refl in
        record { number = k; least = omega arith; most = omega arith; is = omega (arith, ints) }
    by (negsuc k) e = absurd (omega (arith, ints))

down_from : (first last turn : ℤ) → IsTurnFrom first 0 (count_up first last) turn → (first ≤ℤ turn) × (turn ≤ℤ last)
down_from first last turn h = by (last -ℤ first +ℤ pos 1) refl h.number h.is h.most
  where
    by : (z : ℤ)
        → last -ℤ first +ℤ pos 1 ≡ z
        → (k : ℕ)
        → turn ≡ first +ℤ pos k
        → k < 0 + at_least_0 z
        → (first ≤ℤ turn) × (turn ≤ℤ last)
    by (pos m) e k is less = (omega (arith, ints), omega (arith, ints))
    by (negsuc m) e k is less = absurd (omega arith)

module _ (indices : Indices) (lo hi : Manifest) (turn : ℤ) where
  pub turn_among : IsTurn indices lo hi turn
      → IsAmong turn (loop_turns (manifest_value indices lo) (manifest_value indices hi))
  turn_among t =
      let at = up_to t.first t.last turn t.begun t.ended in
      rw (t.from, t.to, at.is) (among_from t.first 0 (count_up t.first t.last) at.number at.least at.most)

  pub among_turn : IsAmong turn (loop_turns (manifest_value indices lo) (manifest_value indices hi))
      → IsTurn indices lo hi turn
  among_turn h = by (manifest_value indices lo) (manifest_value indices hi) refl refl h
    where
      by : (v w : Option ℤ)
          → manifest_value indices lo ≡ v
          → manifest_value indices hi ≡ w
          → IsAmong turn (loop_turns v w)
          → IsTurn indices lo hi turn
      by None w from to h = absurd h
      by (Some first) None from to h = absurd h
      by (Some first) (Some last) from to h =
          let within = down_from first last turn (from_among first 0 (count_up first last) turn h) in
          record { first = first; last = last; from = from; to = to; begun = within.0; ended = within.1 }
