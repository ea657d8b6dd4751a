use Rattle.silage_parse.specs.Private.Parsed.{initial_end}
use Rattle.silage_parse.proofs.Steps.{[], start, matches, parses, stops_at, fault_is}
use Rattle.silage_parse.proofs.parser.Parser.initial.Goals as goal

pub returns-in_err-expect_symbol : goal.returns-in_err-expect_symbol
returns-in_err-expect_symbol c =
    rw (fault_is c.from_residual.result c.from_residual.ensures.1)
    (stops_at _ (start initial_end c.args.self.now []) c.in_err-expect_symbol.ensures)

pub returns-in_err-k : goal.returns-in_err-k
returns-in_err-k c =
    rw (fault_is c.from_residual-in_err-k.result c.from_residual-in_err-k.ensures.1)
    (stops_at _ (matches (start initial_end c.args.self.now []) c.in_ok-expect_symbol.ensures) c.in_err-k.ensures)

pub returns-in_err-expect_symbol-2 : goal.returns-in_err-expect_symbol-2
returns-in_err-expect_symbol-2 c =
    rw (fault_is c.from_residual-in_err-expect_symbol-2.result c.from_residual-in_err-expect_symbol-2.ensures.1)
    (stops_at _
    (parses (matches (start initial_end c.args.self.now []) c.in_ok-expect_symbol.ensures) c.in_ok-k.ensures)
    c.in_err-expect_symbol-2.ensures)

pub returns-in_err-value : goal.returns-in_err-value
returns-in_err-value c =
    rw (fault_is c.from_residual-in_err-value.result c.from_residual-in_err-value.ensures.1)
    (stops_at _
    (matches (parses (matches (start initial_end c.args.self.now []) c.in_ok-expect_symbol.ensures) c.in_ok-k.ensures)
    c.in_ok-expect_symbol-2.ensures) c.in_err-value.ensures)

pub returns-in_err-expect_symbol-3 : goal.returns-in_err-expect_symbol-3
returns-in_err-expect_symbol-3 c =
    rw (fault_is c.from_residual-in_err-expect_symbol-3.result c.from_residual-in_err-expect_symbol-3.ensures.1)
    (stops_at _
    (parses (matches
    (parses (matches (start initial_end c.args.self.now []) c.in_ok-expect_symbol.ensures) c.in_ok-k.ensures)
    c.in_ok-expect_symbol-2.ensures)
    c.in_ok-value.ensures) c.in_err-expect_symbol-3.ensures)

pub returns : goal.returns
returns c =
    let marks = c.in_ok-expect_symbol.ensures in
    let equal = c.in_ok-expect_symbol-2.ensures in
    let ended = c.in_ok-expect_symbol-3.ensures in (
      marks.token,
      equal.token,
      ended.token,
      matches (parses (matches (parses (matches (start initial_end c.args.self.now []) marks) c.in_ok-k.ensures) equal)
          c.in_ok-value.ensures)
          ended,
    )
