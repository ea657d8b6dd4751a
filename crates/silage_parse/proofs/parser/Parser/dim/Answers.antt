use Rattle.silage_syntax.specs.Grammar.{dim}
use Rattle.silage_parse.specs.Private.Parsed.{dim_in_brackets}
use Rattle.silage_parse.proofs.Steps.{ap, ◌∙◌, sym, [], taken_whole, start, matches, stops_at, fault_is}
use Rattle.silage_parse.proofs.parser.Parser.dim.Goals as goal

pub returns-in_err-expect_symbol : goal.returns-in_err-expect_symbol
returns-in_err-expect_symbol c =
    rw (fault_is c.from_residual.result c.from_residual.ensures.1)
    (stops_at _ (start dim_in_brackets c.args.self.now []) c.in_err-expect_symbol.ensures)

pub returns-in_err-size : goal.returns-in_err-size
returns-in_err-size c =
    rw (fault_is c.from_residual-in_err-size.result c.from_residual-in_err-size.ensures.1)
    (stops_at _ (matches (start dim_in_brackets c.args.self.now []) c.in_ok-expect_symbol.ensures)
    c.in_err-size.ensures)

pub returns-in_err-expect_symbol-2 : goal.returns-in_err-expect_symbol-2
returns-in_err-expect_symbol-2 c =
    rw (fault_is c.from_residual-in_err-expect_symbol-2.result c.from_residual-in_err-expect_symbol-2.ensures.1)
    (stops_at _
    (matches (matches (start dim_in_brackets c.args.self.now []) c.in_ok-expect_symbol.ensures) c.in_ok-size.ensures.0)
    c.in_err-expect_symbol-2.ensures)

pub returns : goal.returns
returns c =
    let opened = c.in_ok-expect_symbol.ensures in
    let size = c.in_ok-size.ensures in
    let closed = c.in_ok-expect_symbol-2.ensures in (
      opened.token,
      size.0.token,
      closed.token,
      ap dim (taken_whole size.0 size.1) ∙ sym c.dim.ensures,
      matches (matches (matches (start dim_in_brackets c.args.self.now []) opened) size.0) closed,
    )
