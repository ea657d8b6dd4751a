use Rattle.std.proofs.Common.{◌≡◌, ℕ, ◌<◌, Some}
use Rattle.reg_alloc.specs.Private.Occupancies.{span_at, IsClear}
use Rattle.reg_alloc.specs.declared.circle.Span.{Span}
use Rattle.reg_alloc.proofs.circle.Occupancy.is_free.Given as goal

abbrev pub invariant-loop-sample : goal.invariant-loop-sample
invariant-loop-sample l =
    (n : ℕ) → n < l.sample → (span : Span) → span_at l.other n ≡ Some span
    → IsClear l.circle.period l.circle.samples l.self span
