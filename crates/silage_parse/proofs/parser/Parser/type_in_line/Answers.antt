use Rattle.silage_parse.specs.Private.Parsed.{type_in_line}
use Rattle.silage_parse.proofs.Steps.{[], start, matches, parses, stops_at, fault_is}
use Rattle.silage_parse.proofs.parser.Parser.type_in_line.Goals as goal

pub returns-in_err-expect_symbol : goal.returns-in_err-expect_symbol
returns-in_err-expect_symbol c =
    rw (fault_is c.from_residual.result c.from_residual.ensures.1)
    (stops_at _ (start type_in_line c.args.self.now []) c.in_err-expect_symbol.ensures)

pub returns-in_err-ty : goal.returns-in_err-ty
returns-in_err-ty c =
    rw (fault_is c.from_residual-in_err-ty.result c.from_residual-in_err-ty.ensures.1)
    (stops_at _ (matches (start type_in_line c.args.self.now []) c.in_ok-expect_symbol.ensures) c.in_err-ty.ensures)

pub returns-in_err-expect_symbol-2 : goal.returns-in_err-expect_symbol-2
returns-in_err-expect_symbol-2 c =
    rw (fault_is c.from_residual-in_err-expect_symbol-2.result c.from_residual-in_err-expect_symbol-2.ensures.1)
    (stops_at _
    (parses (matches (start type_in_line c.args.self.now []) c.in_ok-expect_symbol.ensures) c.in_ok-ty.ensures)
    c.in_err-expect_symbol-2.ensures)

pub returns : goal.returns
returns c =
    let colon = c.in_ok-expect_symbol.ensures in
    let ended = c.in_ok-expect_symbol-2.ensures in (
      colon.token,
      ended.token,
      matches (parses (matches (start type_in_line c.args.self.now []) colon) c.in_ok-ty.ensures) ended,
    )
