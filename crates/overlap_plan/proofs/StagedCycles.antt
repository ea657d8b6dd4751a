-- The cycles of stages.
use Rattle.std.proofs.Common.{◌≡◌, ◌∙◌, sym, ap, arith, ℕ, ◌+◌, ◌-◌, ◌*◌, ◌<◌, ◌≤◌, ◌↔◌, Fits, w32}
use Rattle.std.proofs.Math.Nat.{add-mul, mul-le-mul}

-- before the last stage there is one less
pub last_stage : (stages period : ℕ) → 1 ≤ stages → (stages - 1) * period + period ≡ stages * period
last_stage stages period some =
    let more : stages - 1 + 1 ≡ stages = omega (arith, some) in
    let sum = sym (add-mul (stages - 1) 1 period) ∙ ap (λ (n : ℕ). n * period) more in
    omega (arith, sum)

-- an operation that begins no earlier than this ends in the last stage
pub late_from : (stages period latency t : ℕ)
    → 1 ≤ stages
    → ((stages * period - period + 1) - latency ≤ t) ↔ ((stages - 1) * period < t + latency)
late_from stages period latency t some =
    let whole = last_stage stages period some in
    (λ after. omega (arith, whole, after), λ late. omega (arith, whole, late))

-- cycles of so many samples are few
pub fits_product : (ago period : ℕ) → ago ≤ 1023 → period ≤ 4096 → Fits w32 (ago * period)
fits_product ago period few short =
    let most : ago * period ≤ 1023 * 4096 = mul-le-mul few short in omega (arith, most)

pub fits_sum : (cycle ago period : ℕ)
    → cycle ≤ 16384
    → ago ≤ 1023
    → period ≤ 4096
    → Fits w32 (cycle + ago * period)
fits_sum cycle ago period early few short =
    let most : ago * period ≤ 1023 * 4096 = mul-le-mul few short in omega (arith, most, early)
