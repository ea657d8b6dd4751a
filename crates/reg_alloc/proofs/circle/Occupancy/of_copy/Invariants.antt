use Rattle.std.proofs.Common.{◌≡◌, ℕ, ◌%◌, ◌<◌, length, get_or, Some, None}
use Rattle.reg_alloc.specs.Private.Spans.{span_of}
use Rattle.reg_alloc.proofs.circle.Occupancy.of_copy.Given as goal

abbrev pub invariant-loop-sample : goal.invariant-loop-sample
invariant-loop-sample l = record {
  count : length l.spans ≡ 4;
  own : (n : ℕ) → n < l.sample → n % l.arc.copies ≡ l.copy
      → get_or l.spans n None ≡ Some (span_of l.circle.period l.arc n);
  none : (n : ℕ) → (n % l.arc.copies ≡ l.copy → ⊥) → get_or l.spans n None ≡ None;
}
