use Rattle.std.proofs.Common.{rules, ◌≡◌, ◌∙◌, sym, ap, subst, ℕ, below_more, slice_index_or, None}
use Rattle.std.specs.Prelude.{IsTrue}
use Rattle.reg_alloc.specs.declared.circle.Span.{Span}
use Rattle.reg_alloc.specs.Private.Occupancies.{IsClear}
use Rattle.reg_alloc.proofs.Places.{some_same}
use Rattle.reg_alloc.proofs.circle.Occupancy.is_free.Goals as goal
use Rattle.reg_alloc.proofs.circle.Occupancy.is_free.Goals.{in-Some+else-not-is_clear, in_default}

pub loop-sample-preserved : goal.loop-sample-preserved
loop-sample-preserved c =
    let at = ap (λ (m : ℕ). slice_index_or c.args.other.now.spans m None) c.from.ensures in
    below_more _ _ c.loop-sample.invariant
    (elim c.match-other-from.branch [
      | in-Some+else-not-is_clear w ↦ λ span is.
          let same : w.in-Some.span ≡ span = some_same w.in-Some.span span (sym w.in-Some.is ∙ at ∙ is) in
          let holds : IsTrue w.is_clear.result = search rules in
          subst (λ (x : Span). IsClear c.args.circle.period c.args.circle.samples c.args.self.now x) same
          (w.is_clear.ensures.0 holds)
      | in_default w ↦ λ span is. absurd (w.in_default.not-Some span (at ∙ is))
    ])
