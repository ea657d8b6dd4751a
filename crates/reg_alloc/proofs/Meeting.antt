-- Copies of lifetimes, and the spans of their words.
use Rattle.std.proofs.Common.{◌≡◌, ℕ, ◌+◌, ◌*◌, ◌%◌, ◌<◌, ◌≤◌, refl, ap, arith, ⊎_elim}
use Rattle.std.proofs.lemmas.Bool.{cases_lt}
use Rattle.std.proofs.Math.Nat.{mul-le-mul_right}
use Rattle.plan_core.specs.Circle.{AreApart}
use Rattle.plan_core.specs.declared.registers.Arc.{Arc}
use Rattle.plan_core.proofs.Samples.{one_more, sample_upto}
use Rattle.reg_alloc.specs.Private.Spans.{span_of}
use Rattle.reg_alloc.proofs.SpanLemmas.{NeverMeet}

-- what is written no later in the sample is so where the sample of the other word has not ended before
pub no_later : (period w v m n : ℕ)
    → v < period
    → w < period
    → w ≤ v
    → m * period ≤ v + n * period
    → w + m * period ≤ v + n * period
no_later period w v m n low w_low first begun =
    let upto : m ≤ n = sample_upto n m v period low begun in
    ⊎_elim
    (λ (less : m < n).
    let le : (m + 1) * period ≤ n * period = mul-le-mul_right period (omega arith) in
    omega (arith, le, one_more m period))
    (λ (ge : n ≤ m). let same : m * period ≡ n * period = ap (λ (x : ℕ). x * period) (omega arith) in omega arith)
    (cases_lt m n)

module _ (period samples : ℕ) where
  -- the span of a word begins on the circle
  pub starts_in : (w n : ℕ) → w < period → n < samples → w + n * period < samples * period
  starts_in w n low there =
      let le : (n + 1) * period ≤ samples * period = mul-le-mul_right period (omega arith) in
      omega (arith, le, one_more n period)

  -- the words of two copies that are apart are never there at once
  pub words_never : (a : Arc) (i : ℕ) (b : Arc) (j m n : ℕ)
      → AreApart period samples a i b j
      → m < samples
      → n < samples
      → m % a.copies ≡ i
      → n % b.copies ≡ j
      → NeverMeet (samples * period) (span_of period a m) (span_of period b n)
  words_never a i b j m n apart m_in n_in m_turn n_turn x y after upto after' upto' same =
      apart.none (x % (samples * period))
      (record {
        sample = m;
        cycle = x;
        sample_in = m_in;
        in_turn = m_turn;
        after = after;
        upto = upto;
        place = refl;
      })
      (record {
        sample = n;
        cycle = y;
        sample_in = n_in;
        in_turn = n_turn;
        after = after';
        upto = upto';
        place = same;
      })
