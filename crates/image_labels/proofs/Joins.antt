-- Two formats one after the other, and one of the sum of their shifts.
use Rattle.std.proofs.Common.{arith, ◌≡◌, ◌⊎◌, ⊎_elim, refl, sym, ap, ap₂, ◌∙◌, ℕ, zero, suc, ◌^◌, ◌*◌, ◌+◌, ◌-◌, ◌<◌}
use Rattle.std.proofs.Common.{◌≤◌, ℤ, pos, negsuc, ◌+ℤ◌, ◌*ℤ◌, neg_ℤ, ◌≤ℤ◌, ◌<ℤ◌}
use borrow.Author.Differences.{up, down}
use Rattle.std.proofs.lemmas.Int.{ints}
use Rattle.std.proofs.lemmas.Nat.{pow_pos, pow-add}
use Rattle.std.proofs.Math.Nat.{mul_assoc, div-div-eq-div-mul}
use Rattle.fix_word.specs.Words.{IsWrap, IsFloor, rounding}
use Rattle.fix_word.specs.Values.{floor_of, wrap_of, fit_of, scaled_of, form_of}
use Rattle.fix_word.specs.declared.types.Format.{Format}
use Rattle.fix_word.specs.declared.types.Mode.{Mode}
use Rattle.fix_word.specs.declared.types.Mode.TheVariants.{Trunc, Round, Sat, RoundSat}
use Rattle.fix_word.proofs.Floors.{floor_is, floor_unique}
use Rattle.fix_word.proofs.Wraps.{wrap_is, wrap_unique}
use Rattle.image_labels.specs.Rules.{IsWrapping, IsFlooring, FloorsFirst, RoundsOnce, IsJoined}

-- multiples

neg_times : (m b : ℕ) → neg_ℤ (pos m) *ℤ pos b ≡ neg_ℤ (pos (m * b))
neg_times zero b = omega (arith, ints)
neg_times (suc m) b = refl

times_over : (j : ℤ) (a b : ℕ) → j *ℤ pos (a * b) ≡ j *ℤ pos a *ℤ pos b
times_over (pos n) a b = ap pos (sym (mul_assoc n a b))
times_over (negsuc n) a b =
    ap (λ (t : ℕ). neg_ℤ (pos t)) (sym (mul_assoc (suc n) a b)) ∙ sym (neg_times (suc n * a) b)

times_both : (l k : ℤ) (n : ℕ) → (l +ℤ k) *ℤ pos n ≡ l *ℤ pos n +ℤ k *ℤ pos n
times_both l k n =
    let e : up (l +ℤ k) + down l + down k ≡ down (l +ℤ k) + up l + up k = omega (arith, ints) in
    let f : (up (l +ℤ k) + down l + down k) * n ≡ (down (l +ℤ k) + up l + up k) * n = ap (λ (t : ℕ). t * n) e in
    omega (arith, ints)

power : (v w : ℕ) → w ≤ v → 2 ^ v ≡ 2 ^ (v - w) * 2 ^ w
power v w le =
    let e : v ≡ v - w + w = omega (arith, le) in
    ap (λ (k : ℕ). 2 ^ k) e ∙ pow-add 2 (v - w) w

multiple : (j : ℤ) (v w : ℕ) → w ≤ v → j *ℤ pos (2 ^ v) ≡ j *ℤ pos (2 ^ (v - w)) *ℤ pos (2 ^ w)
multiple j v w le = ap (λ (n : ℕ). j *ℤ pos n) (power v w le) ∙ times_over j (2 ^ (v - w)) (2 ^ w)

congruent_by : (a b m turns i l : ℤ) (n : ℕ)
    → a ≡ b +ℤ turns
    → b ≡ m +ℤ l *ℤ pos n
    → turns ≡ i *ℤ pos n
    → a ≡ m +ℤ (l +ℤ i) *ℤ pos n
congruent_by a b m turns i l n e f h = omega (arith, ints, e, f, h, times_both l i n)

-- a number that differs by multiples of the width's range wraps to the same
wrap_turns : (a b i : ℤ) (w : ℕ) → 1 ≤ w → a ≡ b +ℤ i *ℤ pos (2 ^ w) → wrap_of a w ≡ wrap_of b w
wrap_turns a b i w some e =
    let x : IsWrap b w (wrap_of b w) = wrap_is b w some in
    wrap_unique a w (wrap_of a w) (wrap_of b w) some (wrap_is a w some)
    (record {
      word = x.word;
      congruent = (
        x.congruent.0 +ℤ i,
        congruent_by a b (wrap_of b w) (i *ℤ pos (2 ^ w)) i x.congruent.0 (2 ^ w) e x.congruent.1 refl,
      );
    })

-- floors

floor_both : (q f j : ℤ) (d : ℕ) → IsFloor q d f → IsFloor (q +ℤ j *ℤ pos d) d (f +ℤ j)
floor_both q f j d x =
    let both : (f +ℤ j) *ℤ pos d ≡ f *ℤ pos d +ℤ j *ℤ pos d = times_both f j d in
    record { below = omega (arith, ints, x.below, both); above = omega (arith, ints, x.above, both) }

-- a multiple of the divisor is added to the quotient
floor_turns : (q j : ℤ) (d : ℕ) → 0 < d → floor_of (q +ℤ j *ℤ pos d) d ≡ floor_of q d +ℤ j
floor_turns q j d some =
    floor_unique (q +ℤ j *ℤ pos d) d (floor_of (q +ℤ j *ℤ pos d) d) (floor_of q d +ℤ j)
    (floor_is (q +ℤ j *ℤ pos d) d some) (floor_both q (floor_of q d) j d (floor_is q d some))

floor_floor : (q : ℤ) (a b : ℕ) → floor_of (floor_of q a) b ≡ floor_of q (a * b)
floor_floor (pos n) a b = ap pos (div-div-eq-div-mul n a b)
floor_floor (negsuc n) a b = ap negsuc (div-div-eq-div-mul n a b)

-- two floors, with half a step of the second one between
floors_joined : (q : ℤ) (r a b : ℕ) → 0 < a → floor_of (floor_of q a +ℤ pos r) b ≡ floor_of (q +ℤ pos (r * a)) (a * b)
floors_joined q r a b some =
    ap (λ (m : ℤ). floor_of m b) (sym (floor_turns q (pos r) a some)) ∙ floor_floor (q +ℤ pos (r * a)) a b

-- shifts

half_step : (mode : Mode) (a b : ℕ) → rounding mode (2 ^ b) * 2 ^ suc a ≡ rounding mode (2 ^ (a + suc b))
half_step Trunc a b = omega arith
half_step Round a b =
    let e : b + suc a ≡ a + suc b = omega arith in
    sym (pow-add 2 b (suc a)) ∙ ap (λ (k : ℕ). 2 ^ k) e
half_step Sat a b = omega arith
half_step RoundSat a b =
    let e : b + suc a ≡ a + suc b = omega arith in
    sym (pow-add 2 b (suc a)) ∙ ap (λ (k : ℕ). 2 ^ k) e

nothing_added : (q : ℤ) (mode : Mode) (half : ℕ) → IsFlooring mode → q +ℤ pos (rounding mode half) ≡ q
nothing_added q Trunc half is = omega (arith, ints)
nothing_added q Round half is = absurd is
nothing_added q Sat half is = omega (arith, ints)
nothing_added q RoundSat half is = absurd is

both_right : (q : ℤ) (a b : ℕ) (first later : Mode)
    → IsFlooring first
    → scaled_of (scaled_of q (pos (suc a)) first) (pos (suc b)) later ≡ scaled_of q (pos (suc a) +ℤ pos (suc b)) later
both_right q a b first later is =
    let sum : pos (suc (a + suc b)) ≡ pos (suc a) +ℤ pos (suc b) = omega (arith, ints) in
    let steps : suc a + suc b ≡ suc (a + suc b) = omega arith in
    let divisor : 2 ^ suc a * 2 ^ suc b ≡ 2 ^ suc (a + suc b) =
    sym (pow-add 2 (suc a) (suc b)) ∙ ap (λ (k : ℕ). 2 ^ k) steps in
    ap (λ (z : ℤ). floor_of (floor_of z (2 ^ suc a) +ℤ pos (rounding later (2 ^ b))) (2 ^ suc b))
    (nothing_added q first (2 ^ a) is)
    ∙ floors_joined q (rounding later (2 ^ b)) (2 ^ suc a) (2 ^ suc b) (pow_pos (suc a))
    ∙ ap₂ (λ (r d : ℕ). floor_of (q +ℤ pos r) d) (half_step later a b) divisor
    ∙ ap (λ (s : ℤ). scaled_of q s later) sum

floored_joined : (q s t : ℤ) (first later : Mode)
    → pos 0 ≤ℤ s
    → pos 0 <ℤ t
    → IsFlooring first
    → scaled_of (scaled_of q s first) t later ≡ scaled_of q (s +ℤ t) later
floored_joined q (pos zero) t first later low right is =
    let sum : t ≡ pos zero +ℤ t = omega (arith, ints) in
    ap (λ (s : ℤ). scaled_of q s later) sum
floored_joined q (pos (suc a)) (pos zero) first later low right is = absurd (omega (arith, ints, right))
floored_joined q (pos (suc a)) (pos (suc b)) first later low right is = both_right q a b first later is
floored_joined q (pos (suc a)) (negsuc b) first later low right is = absurd (omega (arith, ints, right))
floored_joined q (negsuc a) t first later low right is = absurd (omega (arith, ints, low))

unshifted_joined : (q s t : ℤ) (first later : Mode)
    → s ≡ pos 0
    → scaled_of (scaled_of q s first) t later ≡ scaled_of q (s +ℤ t) later
unshifted_joined q s t first later none =
    let sum : t ≡ s +ℤ t = omega (arith, ints, none) in
    ap (λ (z : ℤ). scaled_of (scaled_of q z first) t later) none ∙ ap (λ (z : ℤ). scaled_of q z later) sum

kept_joined : (q s t : ℤ) (first later : Mode)
    → t ≡ pos 0
    → first ≡ later
    → scaled_of (scaled_of q s first) t later ≡ scaled_of q (s +ℤ t) later
kept_joined q s t first later none same =
    let sum : s ≡ s +ℤ t = omega (arith, ints, none) in
    ap (λ (z : ℤ). scaled_of (scaled_of q s first) z later) none
    ∙ ap (λ (m : Mode). scaled_of q s m) same
    ∙ ap (λ (z : ℤ). scaled_of q z later) sum

-- one shift by the sum, where the exact number is rounded once
scaled_joined : (q : ℤ) (f g : Format)
    → RoundsOnce f g
    → scaled_of (scaled_of q f.shift f.mode) g.shift g.mode ≡ scaled_of q (f.shift +ℤ g.shift) g.mode
scaled_joined q f g once =
    ⊎_elim (λ (none : f.shift ≡ pos 0). unshifted_joined q f.shift g.shift f.mode g.mode none)
    (λ (rest : ((g.shift ≡ pos 0) × (f.mode ≡ g.mode)) ⊎ FloorsFirst f g).
    ⊎_elim
    (λ (kept : (g.shift ≡ pos 0) × (f.mode ≡ g.mode)).
    kept_joined q f.shift g.shift f.mode g.mode kept.0 kept.1)
    (λ (floors : FloorsFirst f g).
    floored_joined q f.shift g.shift f.mode g.mode floors.first floors.later floors.mode)
    rest)
    once

-- a multiple of the range of v bits is one of w bits behind a shift
scaled_turns : (m k shift : ℤ) (mode : Mode) (v w : ℕ)
    → (pos w +ℤ shift) ≤ℤ pos v
    → (i : ℤ) × (scaled_of (m +ℤ k *ℤ pos (2 ^ v)) shift mode ≡ scaled_of m shift mode +ℤ i *ℤ pos (2 ^ w))
scaled_turns m k (negsuc s) mode v w few =
    let le : w ≤ v + suc s = omega (arith, ints, few) in (
      k *ℤ pos (2 ^ (v + suc s - w)),
      times_both m (k *ℤ pos (2 ^ v)) (2 ^ suc s)
          ∙ ap (λ (z : ℤ). m *ℤ pos (2 ^ suc s) +ℤ z)
          (sym (times_over k (2 ^ v) (2 ^ suc s)) ∙ ap (λ (n : ℕ). k *ℤ pos n) (sym (pow-add 2 v (suc s)))
          ∙ multiple k (v + suc s) w le),
    )
scaled_turns m k (pos zero) mode v w few =
    let le : w ≤ v = omega (arith, ints, few) in
    (k *ℤ pos (2 ^ (v - w)), ap (λ (z : ℤ). m +ℤ z) (multiple k v w le))
scaled_turns m k (pos (suc s)) mode v w few =
    let le : w + suc s ≤ v = omega (arith, ints, few) in
    let right : suc s ≤ v = omega (arith, le) in
    let left : w ≤ v - suc s = omega (arith, le) in
    let r : ℤ = pos (rounding mode (2 ^ s)) in
    let j : ℤ = k *ℤ pos (2 ^ (v - suc s)) in
    let moved : m +ℤ k *ℤ pos (2 ^ v) +ℤ r ≡ m +ℤ r +ℤ j *ℤ pos (2 ^ suc s) =
    exchanged_sum m (k *ℤ pos (2 ^ v)) r (j *ℤ pos (2 ^ suc s)) (multiple k v (suc s) right) in (
      k *ℤ pos (2 ^ (v - suc s - w)),
      ap (λ (z : ℤ). floor_of z (2 ^ suc s)) moved
          ∙ floor_turns (m +ℤ r) j (2 ^ suc s) (pow_pos (suc s))
          ∙ ap (λ (z : ℤ). floor_of (m +ℤ r) (2 ^ suc s) +ℤ z) (multiple k (v - suc s) w left),
    )
  where
    exchanged_sum : (a b c d : ℤ) → b ≡ d → a +ℤ b +ℤ c ≡ a +ℤ c +ℤ d
    exchanged_sum a b c d e = omega (arith, ints, e)

fit_wraps : (q : ℤ) (w : ℕ) (mode : Mode) → IsWrapping mode → fit_of q w mode ≡ wrap_of q w
fit_wraps q w Trunc is = refl
fit_wraps q w Round is = refl
fit_wraps q w Sat is = absurd is
fit_wraps q w RoundSat is = absurd is

-- what the first format wraps is wrapped by the second too
wraps_joined : (q shift : ℤ) (mode : Mode) (v w : ℕ)
    → 1 ≤ v
    → 1 ≤ w
    → (pos w +ℤ shift) ≤ℤ pos v
    → wrap_of (scaled_of (wrap_of q v) shift mode) w ≡ wrap_of (scaled_of q shift mode) w
wraps_joined q shift mode v w some some' few =
    let x : IsWrap q v (wrap_of q v) = wrap_is q v some in
    let turns = scaled_turns (wrap_of q v) x.congruent.0 shift mode v w few in
    sym (wrap_turns (scaled_of q shift mode) (scaled_of (wrap_of q v) shift mode) turns.0 w some'
    (ap (λ (z : ℤ). scaled_of z shift mode) x.congruent.1 ∙ turns.1))

by_format : (q : ℤ) (h : Format) (shift : ℤ) (mode : Mode) (width : ℕ)
    → h.shift ≡ shift
    → h.mode ≡ mode
    → h.width ≡ width
    → form_of q h ≡ fit_of (scaled_of q shift mode) width mode
by_format q h shift mode width e f i =
    ap (λ (s : ℤ). fit_of (scaled_of q s h.mode) h.width h.mode) e
    ∙ ap (λ (m : Mode). fit_of (scaled_of q shift m) h.width m) f
    ∙ ap (λ (w : ℕ). fit_of (scaled_of q shift mode) w mode) i

-- two formats one after the other give what the joined one does
pub joined : (q : ℤ) (f g h : Format)
    → 1 ≤ f.width
    → 1 ≤ g.width
    → IsJoined f g h
    → form_of (form_of q f) g ≡ form_of q h
joined q f g h some some' is =
    ap (λ (m : ℤ). form_of m g) (fit_wraps (scaled_of q f.shift f.mode) f.width f.mode is.first_wraps)
    ∙ fit_wraps (scaled_of (wrap_of (scaled_of q f.shift f.mode) f.width) g.shift g.mode) g.width g.mode is.wraps
    ∙ wraps_joined (scaled_of q f.shift f.mode) g.shift g.mode f.width g.width some some' is.keeps
    ∙ ap (λ (m : ℤ). wrap_of m g.width) (scaled_joined q f g is.rounds)
    ∙ sym (fit_wraps (scaled_of q (f.shift +ℤ g.shift) g.mode) g.width g.mode is.wraps)
    ∙ sym (by_format q h (f.shift +ℤ g.shift) g.mode g.width is.shift is.mode is.width)
