use Rattle.std.proofs.Common.{◌≡◌, ℕ, ◌<◌, ◌*◌, Some}
use Rattle.reg_alloc.specs.Private.Spans.{AreSpansApart}
use Rattle.reg_alloc.specs.Private.Occupancies.{span_at}
use Rattle.reg_alloc.specs.declared.circle.Span.{Span}
use Rattle.reg_alloc.proofs.circle.Occupancy.is_clear.Given as goal

abbrev pub invariant-loop-sample : goal.invariant-loop-sample
invariant-loop-sample l =
    (m : ℕ) → m < l.sample → (taken : Span) → span_at l.self m ≡ Some taken
    → AreSpansApart (l.circle.samples * l.circle.period) taken l.span
