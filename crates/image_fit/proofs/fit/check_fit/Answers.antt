use Rattle.std.proofs.Common.{ℕ, ◌≤◌, subst}
use Rattle.std.specs.List.{All}
use Rattle.image_fit.specs.Fits.{StartsWithin, IsWordOn}
use Rattle.image_fit.proofs.fit.check_fit.Goals as goal

pub returns : goal.returns
returns c = record {
  fits = record {
    period = c.in_ok-check_counts.ensures.period;
    buses = c.in_ok-check_counts.ensures.buses;
    inputs = subst (All (λ (width : ℕ). width ≤ c.args.path.now.word)) c.deref.ensures c.in_ok-check_inputs.ensures;
    unit_count = c.in_ok-check_units.ensures.count;
    units = c.in_ok-check_units.ensures.each;
    starts = subst (All (StartsWithin c.args.path.now.word)) c.deref-2.ensures c.in_ok-check_starts.ensures;
    words = subst (All (IsWordOn c.args.path.now)) c.deref-3.ensures c.in_ok-check_words.ensures;
  };
}
