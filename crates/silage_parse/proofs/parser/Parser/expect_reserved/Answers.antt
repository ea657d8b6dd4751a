use Rattle.silage_parse.proofs.Steps.{sym, unlike}
use Rattle.silage_parse.proofs.parser.Parser.expect_reserved.Goals as goal

pub returns-then-not-is_reserved : goal.returns-then-not-is_reserved
returns-then-not-is_reserved c = rw c.syntax.ensures (unlike c.args.self.now (sym c.if-not-is_reserved.ensures.value))
