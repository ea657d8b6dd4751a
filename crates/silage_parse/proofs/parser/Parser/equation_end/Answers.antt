use Rattle.silage_parse.specs.Private.Parsed.{equation_end}
use Rattle.silage_parse.proofs.Steps.{[], start, matches, parses, stops_at, fault_is}
use Rattle.silage_parse.proofs.parser.Parser.equation_end.Goals as goal

pub returns-in_err-value : goal.returns-in_err-value
returns-in_err-value c =
    rw (fault_is c.from_residual.result c.from_residual.ensures.1)
    (stops_at _ (start equation_end c.args.self.now []) c.in_err-value.ensures)

pub returns-in_err-expect_symbol : goal.returns-in_err-expect_symbol
returns-in_err-expect_symbol c =
    rw (fault_is c.from_residual-in_err-expect_symbol.result c.from_residual-in_err-expect_symbol.ensures.1)
    (stops_at _ (parses (start equation_end c.args.self.now []) c.in_ok-value.ensures) c.in_err-expect_symbol.ensures)

pub returns : goal.returns
returns c = (
  c.in_ok-expect_symbol.ensures.token,
  matches (parses (start equation_end c.args.self.now []) c.in_ok-value.ensures) c.in_ok-expect_symbol.ensures,
)
