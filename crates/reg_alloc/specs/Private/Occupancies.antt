-- When registers hold words, by the sample in which they are written.
use Rattle.std.specs.Prelude.{◌≡◌, ℕ, ◌*◌, ◌%◌, ◌<◌, Option, Some, None, slice_index_or}
use Rattle.plan_core.specs.declared.registers.Arc.{Arc}
use Rattle.reg_alloc.specs.declared.circle.Span.{Span}
use Rattle.reg_alloc.specs.declared.circle.Occupancy.{Occupancy}
use Rattle.reg_alloc.specs.Private.Spans.{span_of, joined, AreSpansApart}

-- the span of the words of this sample
abbrev pub span_at : Occupancy → (sample : ℕ) → Option Span
span_at o sample = slice_index_or o.spans sample None

-- the occupancy of a register of this copy alone
pub record IsOfCopy (period samples : ℕ) (arc : Arc) (copy : ℕ) (o : Occupancy) : Type 0 where
  pub own : (n : ℕ) → n < samples → n % arc.copies ≡ copy → span_at o n ≡ Some (span_of period arc n)
  pub none : (n : ℕ) → (n % arc.copies ≡ copy → ⊥) → span_at o n ≡ None

module _ (period samples : ℕ) where
  -- the register holds nothing in the span
  abbrev pub IsClear : Occupancy → Span → Type 0
  IsClear o span =
      (m : ℕ) → m < samples → (taken : Span) → span_at o m ≡ Some taken → AreSpansApart (samples * period) taken span

  -- the register holds nothing when the other one does
  abbrev pub IsFree : Occupancy → Occupancy → Type 0
  IsFree o other =
      (n : ℕ) → n < samples → (span : Span) → span_at other n ≡ Some span → IsClear o span

-- in each sample the words of the other register come after those that are there
abbrev pub IsJoined : (old other new : Occupancy) → Type 0
IsJoined old other new = (n : ℕ) → span_at new n ≡ joined (span_at old n) (span_at other n)
