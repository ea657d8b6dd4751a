use Rattle.silage_parse.specs.Private.CommaLists.{list_of, list_in_parentheses}
use Rattle.silage_parse.proofs.Steps.{[], start, matches, reads, stops, stops_at, fault_is}
use Rattle.silage_parse.proofs.parser.Parser.list_in_parentheses.Goals as goal

pub returns-in_err-expect_symbol : goal.returns-in_err-expect_symbol
returns-in_err-expect_symbol g c =
    rw (fault_is c.from_residual.result c.from_residual.ensures.1)
    (stops_at _ (start (list_in_parentheses g.T.Element.listed) c.args.self.now []) c.in_err-expect_symbol.ensures)

pub returns-in_err-list : goal.returns-in_err-list
returns-in_err-list g c =
    let e = g.T.Element.listed in
    rw (fault_is c.from_residual-in_err-list.result c.from_residual-in_err-list.ensures.1)
    (stops (list_of e) _ [] _ _
    (matches (start (list_in_parentheses e) c.args.self.now []) c.in_ok-expect_symbol.ensures) c.in_err-list.ensures)

pub returns-in_err-expect_symbol-2 : goal.returns-in_err-expect_symbol-2
returns-in_err-expect_symbol-2 g c =
    let e = g.T.Element.listed in
    rw (fault_is c.from_residual-in_err-expect_symbol-2.result c.from_residual-in_err-expect_symbol-2.ensures.1)
    (stops_at _
    (reads (list_of e) [] _ (matches (start (list_in_parentheses e) c.args.self.now []) c.in_ok-expect_symbol.ensures)
    c.in_ok-list.ensures) c.in_err-expect_symbol-2.ensures)

pub returns : goal.returns
returns g c =
    let e = g.T.Element.listed in
    let opened = c.in_ok-expect_symbol.ensures in
    let closed = c.in_ok-expect_symbol-2.ensures in (
      opened.token,
      closed.token,
      matches
          (reads (list_of e) [] _ (matches (start (list_in_parentheses e) c.args.self.now []) opened)
          c.in_ok-list.ensures)
          closed,
    )
