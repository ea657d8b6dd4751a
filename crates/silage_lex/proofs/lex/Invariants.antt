use Rattle.std.proofs.Common.{◌≡◌, ◌-◌, ◌≤◌, length}
use Rattle.silage_lex.specs.Tokens.{Spaced, line_at}
use Rattle.silage_lex.specs.Scan.{StartsToken}
use Rattle.silage_lex.proofs.lex.Given as goal

abbrev pub invariant-loop-at : goal.invariant-loop-at
invariant-loop-at l =
    record {
      within : l.at ≤ length l.src;
      line : l.line ≡ line_at l.src l.at;
      read : Spaced l.src 0 l.tokens.items l.at;
      starts : StartsToken l.src l.at;
    }

abbrev pub decreases-loop-at : goal.decreases-loop-at
decreases-loop-at l = length l.src - l.at
