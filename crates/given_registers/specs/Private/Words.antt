-- The words of two copies, sample by sample.
use Rattle.std.specs.Prelude.{◌≡◌, ℕ, ◌+◌, ◌*◌, ◌%◌, ◌<◌}
use Rattle.plan_core.specs.declared.registers.Arc.{Arc}
use Rattle.reg_alloc.specs.Private.Spans.{span_of, AreInOrder, AreSpansApart}
use Rattle.given_registers.specs.declared.circle.Span.{Span}

-- it is when a register of the lifetime holds the word of this sample
pub record IsSpanOf (period : ℕ) (arc : Arc) (sample : ℕ) (span : Span) : Type 0 where
  pub after : span.after ≡ arc.w + sample * period
  pub upto : span.upto ≡ arc.r + sample * period

-- the first ends before the second begins, and the second before the first begins again
abbrev pub IsInOrder : (length : ℕ) (first second : Span) → Type 0
IsInOrder length first second =
    AreInOrder length (record { after = first.after; upto = first.upto })
    (record { after = second.after; upto = second.upto })

-- they share no cycle of a circle of this length
abbrev pub IsApart : (length : ℕ) (a b : Span) → Type 0
IsApart length a b =
    AreSpansApart length (record { after = a.after; upto = a.upto }) (record { after = b.after; upto = b.upto })

module _ (period samples : ℕ) (a : Arc) where
  -- the word of sample m of the one is never there with that of sample n of the other, if this is one of copy j
  abbrev pub IsPairApart : (b : Arc) (j m n : ℕ) → Type 0
  IsPairApart b j m n =
      n % b.copies ≡ j → AreSpansApart (samples * period) (span_of period a m) (span_of period b n)

  -- if it is one of copy i, it is never there with one of copy j of the other, in the first samples
  abbrev pub IsWordApart : (i : ℕ) (b : Arc) (j m upto : ℕ) → Type 0
  IsWordApart i b j m upto = m % a.copies ≡ i → (n : ℕ) → n < upto → IsPairApart b j m n
