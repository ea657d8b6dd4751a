use Rattle.std.proofs.Common.{rules, ◌≡◌, ◌∙◌, sym, ap, subst, ℕ, ◌*◌, below_more, slice_index_or, None}
use Rattle.std.specs.Prelude.{IsTrue}
use Rattle.reg_alloc.specs.declared.circle.Span.{Span}
use Rattle.reg_alloc.specs.Private.Spans.{AreSpansApart}
use Rattle.reg_alloc.proofs.Places.{some_same}
use Rattle.reg_alloc.proofs.circle.Occupancy.is_clear.Goals as goal
use Rattle.reg_alloc.proofs.circle.Occupancy.is_clear.Goals.{in-Some+else-not-are_apart, in_default}

pub loop-sample-preserved : goal.loop-sample-preserved
loop-sample-preserved c =
    let at = ap (λ (m : ℕ). slice_index_or c.args.self.now.spans m None) c.from.ensures in
    below_more _ _ c.loop-sample.invariant
    (elim c.match-self-from.branch [
      | in-Some+else-not-are_apart w ↦ λ taken is.
          let same : w.in-Some.taken ≡ taken = some_same w.in-Some.taken taken (sym w.in-Some.is ∙ at ∙ is) in
          let holds : IsTrue w.are_apart.result = search rules in
          subst (λ (x : Span). AreSpansApart (c.args.circle.samples * c.args.circle.period) x c.args.span) same
          (w.are_apart.ensures.0 holds)
      | in_default w ↦ λ taken is. absurd (w.in_default.not-Some taken (at ∙ is))
    ])
