-- With one more mark, one mark less is missing.
use Rattle.std.proofs.Common.{◌≡◌, ◌∙◌, sym, ap, arith, ℕ, ◌+◌, ◌<◌, List, length, Bool, true, false}
use Rattle.std.specs.Prelude.{slice_set}
use Rattle.std.specs.List.{sum_by}
use Rattle.std.proofs.lemmas.List.Sums.{sum_by-set}
use Rattle.signal_graph.specs.Private.Marks.{is_marked, missing}

pub missing_less : (marks : List Bool) (v : ℕ)
    → v < length marks
    → is_marked marks v ≡ false
    → sum_by missing (slice_set marks v true) + 1 ≡ sum_by missing marks
missing_less marks v lt is =
    ap (λ (b : Bool). sum_by missing (slice_set marks v true) + missing b) (sym is)
    ∙ sum_by-set missing marks v true false lt ∙ nothing (sum_by missing marks)
  where
    nothing : (n : ℕ) → n + 0 ≡ n
    nothing n = omega arith
