use Rattle.silage_parse.proofs.Steps.{sym, unlike}
use Rattle.silage_parse.proofs.parser.Parser.expect_symbol.Goals as goal

pub returns-then-not-is_symbol : goal.returns-then-not-is_symbol
returns-then-not-is_symbol c = rw c.syntax.ensures (unlike c.args.self.now (sym c.if-not-is_symbol.ensures.value))
