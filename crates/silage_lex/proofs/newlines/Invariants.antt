use Rattle.std.proofs.Common.{◌≡◌, take, nat_eq, count_by}
use Rattle.silage_lex.proofs.newlines.Given as goal

abbrev pub invariant-loop-b : goal.invariant-loop-b
invariant-loop-b l = l.count ≡ count_by (λ b. nat_eq b 10) (take l.b-index l.bytes)
