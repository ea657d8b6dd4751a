-- Samples, phases and frames.
use Rattle.std.proofs.Common.{◌≡◌, ℕ, zero, suc, ◌+◌, ◌-◌, ◌*◌, ◌/◌, ◌%◌, ◌<◌, ◌≤◌, refl, sym, ap, arith, inl, inr, ◌⊎◌}
use Rattle.std.proofs.lemmas.Bool.{cases_lt}
use Rattle.std.proofs.lemmas.Nat.{same_from_place, div-add-mod'}
use Rattle.std.proofs.Math.Nat.{add-mul}
use Rattle.rate_unfold.specs.Unfolded.{IsBefore}
use Rattle.rate_unfold.specs.Private.Unfolding.{frames_before, phase_before}

-- the least multiple of m that is not below t is less than m above it
next_multiple : (m t : ℕ) → 0 < m → (t ≤ (t + (m - 1)) / m * m) × ((t + (m - 1)) / m * m < t + m)
next_multiple m t some =
    let split = div-add-mod' (t + (m - 1)) m in
    let low : (t + (m - 1)) % m < m = omega arith in
    (omega arith, omega arith)

pub is_before : (m j k : ℕ) → j < m → IsBefore m j k (phase_before m j k) (frames_before m j k)
is_before m j k inside =
    let next = next_multiple m (k - j) (omega arith) in
    let reached : k ≤ j + frames_before m j k * m = omega (arith, next.0) in
    record { phase = by (cases_lt j k) next; samples = omega arith }
  where
    by : (j < k) ⊎ (k ≤ j)
        → (k - j ≤ frames_before m j k * m) × (frames_before m j k * m < k - j + m)
        → phase_before m j k < m
    by (inl less) next = omega (arith, next.1)
    by (inr le) next =
        let none : k - j ≡ 0 = omega arith in
        let zeros = quotient (frames_before m j k) (let b = next.1 in omega arith) in
        omega (arith, ap (λ (d : ℕ). d * m) zeros)
      where
        quotient : (d : ℕ) → d * m < m → d ≡ 0
        quotient zero less = refl
        quotient (suc d) less = absurd (grind arith)

-- there is one such phase and one such frame
pub one_before : (m j k p d q c : ℕ) → IsBefore m j k p d → IsBefore m j k q c → (p ≡ q) × (d ≡ c)
one_before m j k p d q c a b =
    let same = same_from_place d q c p m b.phase a.phase (omega (arith, a.samples, b.samples)) in
    (sym same.1, same.0)

-- no more frames than samples
pub few_frames : (m j k p d : ℕ) → j < m → IsBefore m j k p d → d ≤ k
few_frames m j k p zero inside a = omega arith
few_frames m j k p (suc d) inside a =
    let steps = multiple d in
    omega (arith, a.samples, steps)
  where
    multiple : (d : ℕ) → d + m ≤ suc d * m
    multiple d = grind arith

pub rows_together : (c d m : ℕ) → c * m + d * m ≡ (c + d) * m
rows_together c d m = sym (add-mul c d m)
