-- Cycles of samples that overlap: what is apart on the circle of a period is apart in the whole run, whatever
-- the samples.
use Rattle.std.proofs.Common.{◌≡◌, ℕ, ◌+◌, ◌-◌, ◌*◌, ◌/◌, ◌%◌, ◌<◌, ◌≤◌, sym, ap, ◌∙◌, arith, ⊎_elim}
use Rattle.std.proofs.lemmas.Bool.{cases_order}
use Rattle.std.proofs.Math.Nat.{add-mul, add-mul-mod_self_right, mod-lt, mod-eq_of_lt, mul-le-mul_right}
use Rattle.plan_core.proofs.StagedRules.{IsGapAround}
use Rattle.plan_soundness.proofs.Samples.{one_more, split}

-- how far it is from cycle t on to cycle u, around the period
ahead : (t u q : ℕ) → 0 < q → t % q ≤ u % q → (u + (q - t % q)) % q ≡ u % q - t % q
ahead t u q some le =
    let rest : t % q < q = mod-lt t some in
    let turns : u + (q - t % q) ≡ u % q - t % q + (u / q + 1) * q =
    omega (arith, split u q, one_more (u / q) q, rest, le) in
    ap (λ n. n % q) turns ∙ add-mul-mod_self_right (u % q - t % q) (u / q + 1) q
    ∙ mod-eq_of_lt (omega (arith, mod-lt u some))

behind : (t u q : ℕ) → 0 < q → u % q < t % q → (u + (q - t % q)) % q ≡ u % q + q - t % q
behind t u q some less =
    let rest : t % q < q = mod-lt t some in
    let turns : u + (q - t % q) ≡ u % q + q - t % q + u / q * q = omega (arith, split u q, rest, less) in
    ap (λ n. n % q) turns ∙ add-mul-mod_self_right (u % q + q - t % q) (u / q) q
    ∙ mod-eq_of_lt (omega (arith, rest, less))

-- from cycle a of the period to cycle b of it, and back around to a, is a gap at least
record IsGapBetween (period gap a b : ℕ) : Type 0 where
  on : a ≤ b → a + gap ≤ b
  back : b < a → a + gap ≤ b + period

gap_between : (q gap t u : ℕ) → 0 < q → IsGapAround q gap t u → IsGapBetween q gap (t % q) (u % q)
gap_between q gap t u some apart = record {
  on = λ le. omega (arith, le, ahead t u q some le, apart.0);
  back = λ less. omega (arith, less, behind t u q some less, apart.0, mod-lt t some);
}

-- cycle a of sample s, by its place in the period
whole : (a s q : ℕ) → a + s * q ≡ a % q + (s + a / q) * q
whole a s q = omega (arith, split a q, add-mul s (a / q) q)

-- two issues that are a gap apart on the circle are so in the run
pub apart_around : (a b s n q gap : ℕ)
    → 0 < q
    → gap ≤ q
    → IsGapAround q gap a b
    → a + s * q ≤ b + n * q
    → b + n * q < a + s * q + gap
    → ⊥
apart_around a b s n q gap some small is le near =
    ⊎_elim
    (λ (same : s + a / q ≡ n + b / q).
    let e : (s + a / q) * q ≡ (n + b / q) * q = ap (λ m. m * q) same in
    let ahead : a % q ≤ b % q = omega (arith, e, le, whole a s q, whole b n q) in
    omega (arith, e, near, whole a s q, whole b n q, apart.on ahead))
    (λ other.
    ⊎_elim
    (λ (less : s + a / q < n + b / q).
    let more : (s + a / q + 1) * q ≤ (n + b / q) * q = mul-le-mul_right q (omega (arith, less)) in
    let before : b % q < a % q =
    omega (arith, more, one_more (s + a / q) q, near, small, whole a s q, whole b n q) in
    omega (arith, more, one_more (s + a / q) q, near, whole a s q, whole b n q, apart.back before))
    (λ (less : n + b / q < s + a / q).
    let more : (n + b / q + 1) * q ≤ (s + a / q) * q = mul-le-mul_right q (omega (arith, less)) in
    omega (arith, more, one_more (n + b / q) q, le, whole a s q, whole b n q, mod-lt b some))
    other)
    (cases_order (s + a / q) (n + b / q))
  where
    apart : IsGapBetween q gap (a % q) (b % q)
    apart = gap_between q gap a b some is

-- the issues of one node are a period apart
pub own_apart : (a s n q gap : ℕ)
    → 0 < q
    → gap ≤ q
    → a + s * q ≤ a + n * q
    → a + n * q < a + s * q + gap
    → s ≡ n
own_apart a s n q gap some small le near =
    ⊎_elim
    (λ same. same)
    (λ other.
    ⊎_elim
    (λ (less : s < n).
    absurd (let more : (s + 1) * q ≤ n * q = mul-le-mul_right q (omega (arith, less)) in
    omega (arith, more, one_more s q, near, small)))
    (λ (less : n < s).
    absurd (let more : (n + 1) * q ≤ s * q = mul-le-mul_right q (omega (arith, less)) in
    omega (arith, more, one_more n q, le, some)))
    other)
    (cases_order s n)

-- what is in one cycle of the run is in one of the period
pub same_around : (a b m n q : ℕ) → a + m * q ≡ b + n * q → a % q ≡ b % q
same_around a b m n q e =
    sym (add-mul-mod_self_right a m q) ∙ ap (λ t. t % q) e ∙ add-mul-mod_self_right b n q
