-- Spans of cycles on the circle.
use Rattle.std.specs.Prelude.{ℕ, ◌+◌, ◌*◌, ◌<◌, ◌≤◌, Option, Some, None}
use Rattle.plan_core.specs.Arcs.{IsCount}
use Rattle.plan_core.specs.declared.registers.Arc.{Arc}
use Rattle.reg_alloc.specs.declared.circle.Span.{Span}

-- a lifetime that begins in the period and has ended when its last copy is written again
pub record IsOnCircle (period : ℕ) (arc : Arc) : Type 0 where
  pub start : arc.w < period
  pub later : arc.w < arc.r
  pub covered : arc.r ≤ arc.w + 4 * period
  pub count : IsCount arc.copies

-- when the word of this sample is in a register of the lifetime
abbrev pub span_of : (period : ℕ) → Arc → (sample : ℕ) → Span
span_of period arc sample = record { after = arc.w + sample * period; upto = arc.r + sample * period }

-- the first span ends before the second begins, and the second before the first begins again
pub record AreInOrder (length : ℕ) (first second : Span) : Type 0 where
  pub ended : first.upto ≤ second.after
  pub round : second.upto ≤ first.after + length

-- the two spans share no cycle of a circle of this length
pub record AreSpansApart (length : ℕ) (a b : Span) : Type 0 where
  pub forward : a.after ≤ b.after → AreInOrder length a b
  pub backward : b.after < a.after → AreInOrder length b a

-- from the start of the first to the end of the second
abbrev pub joined : Option Span → Option Span → Option Span
joined first None = first
joined None (Some second) = Some second
joined (Some first) (Some second) = Some (record { after = first.after; upto = second.upto })
