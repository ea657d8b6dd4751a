use Rattle.silage_parse.specs.Private.Parsed.{loop_bounds, upper_bound}
use Rattle.silage_parse.proofs.Steps.{[], start, matches, parses, reads, stops, stops_at, fault_is}
use Rattle.silage_parse.proofs.parser.Parser.loop_bounds.Goals as goal

pub returns-in_err-expect_symbol : goal.returns-in_err-expect_symbol
returns-in_err-expect_symbol c =
    rw (fault_is c.from_residual.result c.from_residual.ensures.1)
    (stops_at _ (start loop_bounds c.args.self.now []) c.in_err-expect_symbol.ensures)

pub returns-in_err-lo : goal.returns-in_err-lo
returns-in_err-lo c =
    rw (fault_is c.from_residual-in_err-lo.result c.from_residual-in_err-lo.ensures.1)
    (stops_at _ (matches (start loop_bounds c.args.self.now []) c.in_ok-expect_symbol.ensures) c.in_err-lo.ensures)

pub returns-in_err-hi : goal.returns-in_err-hi
returns-in_err-hi c =
    rw (fault_is c.from_residual-in_err-hi.result c.from_residual-in_err-hi.ensures.1)
    (stops upper_bound _ [] _ _
    (parses (matches (start loop_bounds c.args.self.now []) c.in_ok-expect_symbol.ensures) c.in_ok-lo.ensures)
    c.in_err-hi.ensures)

pub returns : goal.returns
returns c =
    let colon = c.in_ok-expect_symbol.ensures in
    let upper = c.in_ok-hi.ensures in (
      upper.0,
      upper.1,
      upper.2,
      colon.token,
      reads upper_bound [] _ (parses (matches (start loop_bounds c.args.self.now []) colon) c.in_ok-lo.ensures) upper.3,
    )
