-- Cycles by sample, and numbers with one remainder.
use Rattle.std.proofs.Common.{◌≡◌, ℕ, ◌+◌, ◌*◌, ◌/◌, ◌%◌, ◌<◌, ◌≤◌, arith, ⊎_elim}
use Rattle.std.proofs.lemmas.Bool.{cases_lt}
use Rattle.std.proofs.Math.Nat.{div-add-mod', mul-le-mul_right}

-- a sample later is a period later
pub one_more : (n q : ℕ) → (n + 1) * q ≡ n * q + q
one_more n q = grind arith

-- what is still wanted in the last cycle of a sample is of a sample up to it
pub sample_upto : (s m t q : ℕ) → t < q → m * q ≤ t + s * q → m ≤ s
sample_upto s m t q in-t upto =
    ⊎_elim
    (λ (below : s < m).
    absurd (let le : (s + 1) * q ≤ m * q = mul-le-mul_right q (omega arith) in omega (arith, one_more s q, upto)))
    (λ (above : m ≤ s). above)
    (cases_lt s m)

-- two numbers with one remainder differ by the divisor at least
pub step_of_same : (s n c : ℕ)
    → 0 < c
    → s % c ≡ n % c
    → s < n
    → s + c ≤ n
step_of_same s n c some same below =
    let at : s / c * c + s % c ≡ s = div-add-mod' s c in
    let at' : n / c * c + n % c ≡ n = div-add-mod' n c in
    let less : s / c < n / c = quotient at at' in
    let le : (s / c + 1) * c ≤ n / c * c = mul-le-mul_right c (omega arith) in
    omega (arith, le, one_more (s / c) c, same, at, at')
  where
    quotient : s / c * c + s % c ≡ s → n / c * c + n % c ≡ n → s / c < n / c
    quotient at at' =
        ⊎_elim
        (λ less. less)
        (λ (le : n / c ≤ s / c).
        absurd (let more : n / c * c ≤ s / c * c = mul-le-mul_right c le in omega (arith, more, at, at', same, below)))
        (cases_lt (s / c) (n / c))
