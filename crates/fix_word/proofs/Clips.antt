-- A number has one nearest word of a width.
use Rattle.std.proofs.Common.{arith, ◌≡◌, refl, ◌-◌, ℕ, ℤ, ◌<ℤ◌, ◌≤ℤ◌, int_lt, Bool, true, false}
use Rattle.std.specs.Bool.{Decides}
use Rattle.std.proofs.lemmas.Int.{ints}
use Rattle.std.proofs.lemmas.Nat.{pow_pos}
use Rattle.fix_word.specs.Words.{IsWord, IsClip, lowest_word, highest_word}
use Rattle.fix_word.specs.Values.{clip_by, clip_of}

pub lt_decides : (a b : ℤ) → Decides (int_lt a b) (a <ℤ b)
lt_decides a b = (λ e. grind (arith, ints, e), λ h. grind (arith, ints, h))

not_less : (a b : ℤ) → ((a <ℤ b) → ⊥) → b ≤ℤ a
not_less a b more = grind (arith, ints, more)

by_is : (q : ℤ) (w : ℕ) (below above : Bool)
    → Decides below (q <ℤ lowest_word w)
    → Decides above (highest_word w <ℤ q)
    → IsClip q w (clip_by below above q w)
by_is q w true above h k =
    let low : q <ℤ lowest_word w = h.0 refl in
    record {
      below = λ less. refl;
      above = λ more. absurd (omega (arith, ints, pow_pos (w - 1)));
      inside = λ word. absurd (omega (arith, ints, word.low));
    }
by_is q w false true h k =
    let high : highest_word w <ℤ q = k.0 refl in
    record {
      below = λ less. cc (h.1 less);
      above = λ more. refl;
      inside = λ word. absurd (omega (arith, ints, word.high));
    }
by_is q w false false h k =
    record { below = λ less. cc (h.1 less); above = λ more. cc (k.1 more); inside = λ word. refl }

pub clip_is : (q : ℤ) (w : ℕ) → IsClip q w (clip_of q w)
unfolding clip_of
clip_is q w =
    by_is q w (int_lt q (lowest_word w)) (int_lt (highest_word w) q) (lt_decides q (lowest_word w))
    (lt_decides (highest_word w) q)

by_word : (q : ℤ) (w : ℕ) (below above : Bool)
    → Decides below (q <ℤ lowest_word w)
    → Decides above (highest_word w <ℤ q)
    → IsWord w (clip_by below above q w)
by_word q w true above h k =
    let some = pow_pos (w - 1) in
    record { low = omega (arith, ints); high = omega (arith, ints, some) }
by_word q w false true h k =
    let some = pow_pos (w - 1) in
    record { low = omega (arith, ints, some); high = omega (arith, ints, some) }
by_word q w false false h k =
    let not_low : lowest_word w ≤ℤ q = not_less q (lowest_word w) (λ less. cc (h.1 less)) in
    let not_high : q ≤ℤ highest_word w = not_less (highest_word w) q (λ more. cc (k.1 more)) in
    record { low = omega (arith, ints, not_low); high = omega (arith, ints, not_high) }

pub clip_word : (q : ℤ) (w : ℕ) → IsWord w (clip_of q w)
unfolding clip_of
clip_word q w =
    by_word q w (int_lt q (lowest_word w)) (int_lt (highest_word w) q) (lt_decides q (lowest_word w))
    (lt_decides (highest_word w) q)

pub clip_unique : (q : ℤ) (w : ℕ) (m m' : ℤ) → IsClip q w m → IsClip q w m' → m ≡ m'
clip_unique q w m m' x y = one (int_lt q (lowest_word w)) (int_lt (highest_word w) q)
    (lt_decides q (lowest_word w)) (lt_decides (highest_word w) q) where
      one : (below above : Bool)
          → Decides below (q <ℤ lowest_word w)
          → Decides above (highest_word w <ℤ q)
          → m ≡ m'
      one true above h k = omega (arith, ints, x.below (h.0 refl), y.below (h.0 refl))
      one false true h k = omega (arith, ints, x.above (k.0 refl), y.above (k.0 refl))
      one false false h k =
          let not_low : lowest_word w ≤ℤ q = not_less q (lowest_word w) (λ less. cc (h.1 less)) in
          let not_high : q ≤ℤ highest_word w = not_less (highest_word w) q (λ more. cc (k.1 more)) in
          let word : IsWord w q =
          record { low = omega (arith, ints, not_low); high = omega (arith, ints, not_high) } in
          omega (arith, ints, x.inside word, y.inside word)
