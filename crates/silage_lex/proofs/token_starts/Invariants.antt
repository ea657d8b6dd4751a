use Rattle.std.proofs.Common.{◌≤◌}
use Rattle.silage_lex.proofs.token_starts.Given as goal

abbrev pub invariant-loop-b : goal.invariant-loop-b
invariant-loop-b l = l.count ≤ l.b-index
