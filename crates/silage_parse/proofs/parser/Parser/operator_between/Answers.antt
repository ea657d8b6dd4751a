use Rattle.std.proofs.Common.{sym, ap, arith}
use Rattle.silage_parse.specs.Private.Parsed.{next}
use Rattle.silage_parse.specs.Private.Precedence.{rank}
use Rattle.silage_parse.proofs.PrecedenceClimbing.{none_between}
use Rattle.silage_parse.proofs.parser.Parser.operator_between.Goals.{else-rank-via-then-rank+else-rank-2}
use Rattle.silage_parse.proofs.parser.Parser.operator_between.Goals.{else-rank-via-else-rank}
use Rattle.silage_parse.proofs.parser.Parser.operator_between.Goals as goal

pub returns-else-rank-clause-none : goal.returns-else-rank-clause-none
returns-else-rank-clause-none c =
    let same = ap rank c.of.ensures in
    none_between c.args.loosest c.args.tightest (next c.args.self.now) c.in_ok-operator.operator
    (sym c.in_ok-operator.ensures.value)
    (elim c.else-rank.branch [
      | else-rank-via-then-rank+else-rank-2 w ↦ λ low high.
          omega (arith, same, c.rank-rank.ensures, w.rank-then-rank.ensures, w.if-rank-2)
      | else-rank-via-else-rank w ↦ λ low high. omega (arith, same, c.rank-rank.ensures, c.rank.ensures, w.if-rank)
    ])
