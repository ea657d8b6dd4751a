use Rattle.std.proofs.Common.{◌≡◌, rules, ℕ}
use Rattle.overlap_plan.proofs.staged.Staged.end.Goals as goal

pub returns-then-ne : goal.returns-then-ne
returns-then-ne c =
    λ e. (
      λ upto. ((c.latest-latest.ensures e).0 upto, λ x ago loads. let store = loads.behind.store in search rules),
      λ known. (c.latest-latest.ensures e).1 known.0,
    )

pub returns : goal.returns
returns c =
    λ e. (
      λ upto. let both = (c.before_loads.ensures e).0 upto in ((c.latest-latest.ensures e).0 both.0, both.1),
      λ known. (c.before_loads.ensures e).1 ((c.latest-latest.ensures e).1 known.0, known.1),
    )
