-- Words by frames, without signs: what is before sample 0 is counted backwards.
use Rattle.std.proofs.Common.{◌≡◌, ℕ, suc, ◌+◌, ◌-◌, ◌*◌, ◌<◌, ◌≤◌, ◌⊎◌, inl, inr, length, refl, sym, ap, ◌∙◌}
use Rattle.std.proofs.Common.{arith}
use Rattle.std.specs.Prelude.{pos, negsuc, neg_ℤ, ◌+ℤ◌, ◌-ℤ◌, ◌*ℤ◌}
use Rattle.std.proofs.lemmas.Int.{ints}
use Rattle.std.proofs.lemmas.Bool.{cases_lt, lt-ltb, le-ltb}
use Rattle.lists.specs.Rows.{Rows}
use Rattle.signal_graph.specs.Rules.{max_delay}
use Rattle.signal_graph.specs.Flat.{Program}
use Rattle.signal_graph.specs.Values.{Words}
use Rattle.rate_unfold.specs.Frames.{Rates}
use Rattle.rate_unfold.specs.Unfolded.{in_phase, IsBefore}
use Rattle.rate_unfold.specs.Solutions.{word_at, AreUnfoldedWords}
use Rattle.rate_unfold.proofs.Samples.{few_frames, rows_together}

pub word_there : (words : Words) (e k : ℕ) → k < max_delay → word_at words e (negsuc k) ≡ words e (negsuc k)
word_there words e k less = rw (lt-ltb k 1023 less) refl

pub no_word : (words : Words) (e k : ℕ) → max_delay ≤ k → word_at words e (negsuc k) ≡ pos 0
no_word words e k far = rw (le-ltb k 1023 far) refl

-- of m phases, sample -(k + 1) is phase j of frame -(i + 1)
abbrev pub before_zero : (m j i : ℕ) → ℕ
before_zero m j i = i * m + (m - 1 - j)

negative : (s j : ℕ) → j < s → neg_ℤ (pos s) +ℤ pos j ≡ negsuc (s - j - 1)
negative s j less = omega (arith, ints)

sample_before : (m j i : ℕ) → j < m → negsuc i *ℤ pos m +ℤ pos j ≡ negsuc (before_zero m j i)
sample_before m j i inside =
    let product : suc i * m ≡ i * m + m = grind arith in
    negative (suc i * m) j (omega arith) ∙ ap negsuc (omega arith)

pub record AreFramed (m elements samples : ℕ) (words others : Words) : Type 0 where
  pub present : (j e n : ℕ)
      → j < m
      → e < elements
      → n < samples
      → others (in_phase elements j e) (pos n) ≡ words e (pos (n * m + j))
  pub past : (j e i : ℕ)
      → j < m
      → e < elements
      → i < max_delay
      → others (in_phase elements j e) (negsuc i) ≡ word_at words e (negsuc (before_zero m j i))

module _ (r : Rates) (p : Program) (frames : Rows) (words others : Words) where
  pub framed : AreUnfoldedWords r p frames words others
      → AreFramed r.phases (length p.elems) (length frames) words others
  framed are = record {
    present = λ j e n inside there less.
        are j e (pos n) inside there (record { first = omega (arith, ints); last = omega (arith, ints) });
    past = λ j e i inside there less.
        are j e (negsuc i) inside there (record { first = omega (arith, ints); last = omega (arith, ints) })
        ∙ ap (word_at words e) (sample_before r.phases j i inside);
  }

  pub unframed : AreFramed r.phases (length p.elems) (length frames) words others
      → AreUnfoldedWords r p frames words others
  unframed are j e (pos n) inside there sample = are.present j e n inside there (omega (arith, ints, sample.last))
  unframed are j e (negsuc i) inside there sample =
      are.past j e i inside there (omega (arith, ints, sample.first))
      ∙ ap (word_at words e) (sym (sample_before r.phases j i inside))

-- what is read in a phase is the word that is read at its sample
module _ (m elements samples : ℕ) (words others : Words) (are : AreFramed m elements samples words others) where
  pub read_same : (j n e k q d : ℕ)
      → j < m
      → n < samples
      → e < elements
      → k ≤ max_delay
      → IsBefore m j k q d
      → others (in_phase elements q e) (pos n -ℤ pos d) ≡ words e (pos (n * m + j) -ℤ pos k)
  read_same j n e k q d inside less there short is = by (cases_lt n d)
    where
      few : d ≤ k
      few = few_frames m j k q d inside is

      by : (n < d) ⊎ (d ≤ n) → others (in_phase elements q e) (pos n -ℤ pos d) ≡ words e (pos (n * m + j) -ℤ pos k)
      by (inr le) =
          let whole : n - d + d ≡ n = omega arith in
          let product : (n - d) * m + d * m ≡ n * m = rows_together (n - d) d m ∙ ap (λ (c : ℕ). c * m) whole in
          let low : pos n -ℤ pos d ≡ pos (n - d) = omega (arith, ints) in
          let samples : n * m + j ≡ (n - d) * m + q + k = omega (arith, product, is.samples) in
          let high : pos (n * m + j) -ℤ pos k ≡ pos ((n - d) * m + q) = omega (arith, ints, samples) in
          ap (others (in_phase elements q e)) low ∙ are.present q e (n - d) is.phase there (omega arith)
          ∙ ap (words e) (sym high)
      by (inl more) =
          let whole : d - n - 1 + (n + 1) ≡ d = omega arith in
          let product : (d - n - 1) * m + (n + 1) * m ≡ d * m =
          rows_together (d - n - 1) (n + 1) m ∙ ap (λ (c : ℕ). c * m) whole in
          let one_more : n * m + 1 * m ≡ (n + 1) * m = rows_together n 1 m in
          let low : pos n -ℤ pos d ≡ negsuc (d - n - 1) = omega (arith, ints) in
          let phase = is.phase in
          let samples : n * m + j + (before_zero m q (d - n - 1) + 1) ≡ k =
          omega (arith, product, one_more, is.samples) in
          let high : pos (n * m + j) -ℤ pos k ≡ negsuc (before_zero m q (d - n - 1)) = omega (arith, ints, samples) in
          ap (others (in_phase elements q e)) low
          ∙ are.past q e (d - n - 1) is.phase there (omega (arith, few))
          ∙ word_there words e (before_zero m q (d - n - 1)) (omega (arith, samples))
          ∙ ap (words e) (sym high)
