use Rattle.silage_parse.specs.Private.Parsed.{upper_bound}
use Rattle.silage_parse.proofs.Steps.{[], start, matches, parses, stops_at, fault_is}
use Rattle.silage_parse.proofs.parser.Parser.upper_bound.Goals as goal

pub returns-in_err-expect_symbol : goal.returns-in_err-expect_symbol
returns-in_err-expect_symbol c =
    rw (fault_is c.from_residual.result c.from_residual.ensures.1)
    (stops_at _ (start upper_bound c.args.self.now []) c.in_err-expect_symbol.ensures)

pub returns-in_err-hi : goal.returns-in_err-hi
returns-in_err-hi c =
    rw (fault_is c.from_residual-in_err-hi.result c.from_residual-in_err-hi.ensures.1)
    (stops_at _ (matches (start upper_bound c.args.self.now []) c.in_ok-expect_symbol.ensures) c.in_err-hi.ensures)

pub returns-in_err-expect_symbol-2 : goal.returns-in_err-expect_symbol-2
returns-in_err-expect_symbol-2 c =
    rw (fault_is c.from_residual-in_err-expect_symbol-2.result c.from_residual-in_err-expect_symbol-2.ensures.1)
    (stops_at _
    (parses (matches (start upper_bound c.args.self.now []) c.in_ok-expect_symbol.ensures) c.in_ok-hi.ensures)
    c.in_err-expect_symbol-2.ensures)

pub returns-in_err-expect_symbol-3 : goal.returns-in_err-expect_symbol-3
returns-in_err-expect_symbol-3 c =
    rw (fault_is c.from_residual-in_err-expect_symbol-3.result c.from_residual-in_err-expect_symbol-3.ensures.1)
    (stops_at _
    (matches (parses (matches (start upper_bound c.args.self.now []) c.in_ok-expect_symbol.ensures) c.in_ok-hi.ensures)
    c.in_ok-expect_symbol-2.ensures) c.in_err-expect_symbol-3.ensures)

pub returns : goal.returns
returns c =
    let to = c.in_ok-expect_symbol.ensures in
    let closed = c.in_ok-expect_symbol-2.ensures in
    let each = c.in_ok-expect_symbol-3.ensures in (
      each.token,
      closed.token,
      to.token,
      matches (matches (parses (matches (start upper_bound c.args.self.now []) to) c.in_ok-hi.ensures) closed) each,
    )
