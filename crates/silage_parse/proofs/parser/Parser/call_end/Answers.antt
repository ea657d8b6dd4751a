use Rattle.silage_parse.specs.Private.Parsed.{call_end}
use Rattle.silage_parse.specs.Private.CommaLists.{list_of, arguments}
use Rattle.silage_parse.proofs.Steps.{refl, [], start, matches, reads, only, stops, stops_at, fault_is}
use Rattle.silage_parse.proofs.parser.Parser.call_end.Goals as goal

pub returns-in_err-expect_symbol : goal.returns-in_err-expect_symbol
returns-in_err-expect_symbol c =
    rw (fault_is c.from_residual.result c.from_residual.ensures.1)
    (stops_at _ (start call_end c.args.self.now []) c.in_err-expect_symbol.ensures)

pub returns-in_err-args : goal.returns-in_err-args
returns-in_err-args c =
    rw (fault_is c.from_residual-in_err-args.result c.from_residual-in_err-args.ensures.1)
    (stops (list_of arguments) _ [] _ _
    (only (matches (start call_end c.args.self.now []) c.in_ok-expect_symbol.ensures) refl) c.in_err-args.ensures)

pub returns-in_err-expect_symbol-2 : goal.returns-in_err-expect_symbol-2
returns-in_err-expect_symbol-2 c =
    rw (fault_is c.from_residual-in_err-expect_symbol-2.result c.from_residual-in_err-expect_symbol-2.ensures.1)
    (stops_at _
    (reads (list_of arguments) [] _
    (only (matches (start call_end c.args.self.now []) c.in_ok-expect_symbol.ensures) refl) c.in_ok-args.ensures)
    c.in_err-expect_symbol-2.ensures)

pub returns-in_err-expect_symbol-3 : goal.returns-in_err-expect_symbol-3
returns-in_err-expect_symbol-3 c =
    rw (fault_is c.from_residual-in_err-expect_symbol-3.result c.from_residual-in_err-expect_symbol-3.ensures.1)
    (stops_at _
    (matches (reads (list_of arguments) [] _
    (only (matches (start call_end c.args.self.now []) c.in_ok-expect_symbol.ensures) refl) c.in_ok-args.ensures)
    c.in_ok-expect_symbol-2.ensures) c.in_err-expect_symbol-3.ensures)

pub returns : goal.returns
returns c =
    let opened = c.in_ok-expect_symbol.ensures in
    let closed = c.in_ok-expect_symbol-2.ensures in
    let ended = c.in_ok-expect_symbol-3.ensures in (
      opened.token,
      closed.token,
      ended.token,
      matches (matches
          (reads (list_of arguments) [] _ (only (matches (start call_end c.args.self.now []) opened) refl)
          c.in_ok-args.ensures) closed)
          ended,
    )
