-- Cycles of a run by sample and cycle of the sample.
use Rattle.std.proofs.Common.{◌≡◌, ℕ, ◌+◌, ◌*◌, ◌/◌, ◌%◌, ◌<◌, ◌≤◌, sym, ap, arith, ⊎_elim}
use Rattle.std.proofs.lemmas.Bool.{cases_lt}
use Rattle.std.proofs.Math.Nat.{mul-le-mul_right, div-add-mod'}
pub use Rattle.plan_core.proofs.Samples.{one_more, sample_upto}

-- a cycle of the run is one of its sample
pub split : (t q : ℕ) → t ≡ t / q * q + t % q
split t q = sym (div-add-mod' t q)

-- what begins before the cycles of sample m is of a sample before m
pub sample_below : (s m w q : ℕ) → w + s * q < m * q → s < m
sample_below s m w q before =
    ⊎_elim
    (λ (below : s < m). below)
    (λ (above : m ≤ s). absurd (let le : m * q ≤ s * q = mul-le-mul_right q above in omega (arith, before)))
    (cases_lt s m)

-- a cycle has one sample, and one place in it
pub one_place : (a b s n q : ℕ)
    → a < q
    → b < q
    → a + s * q ≡ b + n * q
    → (a ≡ b) × (s ≡ n)
one_place a b s n q in-a in-b e =
    let le : s ≤ n = sample_upto n s b q in-b (omega (arith, e)) in
    let ge : n ≤ s = sample_upto s n a q in-a (omega (arith, e)) in
    let same : s ≡ n = omega (arith, le, ge) in
    (omega (arith, e, ap (λ m. m * q) same), same)

-- a cycle of the run is one of its samples
pub below_count : (n q t count : ℕ) → n * q ≤ t → t < count * q → n < count
below_count n q t count from below =
    sample_below n count 0 q (omega (arith, from, below))
