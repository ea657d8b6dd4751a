use Rattle.std.proofs.Common.{◌-◌, length}
use Rattle.silage_lex.specs.Scan.{IsGap}
use Rattle.silage_lex.proofs.gaps.gap_end.Given as goal

abbrev pub invariant-gap : goal.invariant-gap
invariant-gap l = IsGap l.src l.fn.from l.at

abbrev pub decreases-gap : goal.decreases-gap
decreases-gap l = length l.src - l.at
