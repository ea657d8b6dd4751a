use Rattle.silage_lex.specs.Tokens.{NoCloseBetween}
use Rattle.silage_lex.proofs.gaps.close_at.Given as goal

abbrev pub invariant-loop-at : goal.invariant-loop-at
invariant-loop-at l = NoCloseBetween l.src l.fn.from l.at
