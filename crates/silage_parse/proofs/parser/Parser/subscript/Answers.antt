use Rattle.silage_parse.specs.Private.Parsed.{effect, in_brackets}
use Rattle.silage_parse.proofs.Steps.{[], start, matches, parses, stops_at, fault_is}
use Rattle.silage_parse.proofs.parser.Parser.subscript.Goals as goal

pub returns-in_err-expect_symbol : goal.returns-in_err-expect_symbol
returns-in_err-expect_symbol c =
    rw (fault_is c.from_residual.result c.from_residual.ensures.1)
    (stops_at _ (start (in_brackets (effect c.args.before) (effect c.args.after)) c.args.self.now [])
    c.in_err-expect_symbol.ensures)

pub returns-in_err-inner : goal.returns-in_err-inner
returns-in_err-inner c =
    rw (fault_is c.from_residual-in_err-inner.result c.from_residual-in_err-inner.ensures.1)
    (stops_at _
    (matches (start (in_brackets (effect c.args.before) (effect c.args.after)) c.args.self.now [])
    c.in_ok-expect_symbol.ensures) c.in_err-inner.ensures)

pub returns-in_err-expect_symbol-2 : goal.returns-in_err-expect_symbol-2
returns-in_err-expect_symbol-2 c =
    rw (fault_is c.from_residual-in_err-expect_symbol-2.result c.from_residual-in_err-expect_symbol-2.ensures.1)
    (stops_at _
    (parses (matches (start (in_brackets (effect c.args.before) (effect c.args.after)) c.args.self.now [])
    c.in_ok-expect_symbol.ensures)
    c.in_ok-inner.ensures) c.in_err-expect_symbol-2.ensures)

pub returns : goal.returns
returns c = (
  c.in_ok-expect_symbol.ensures.token,
  c.in_ok-expect_symbol-2.ensures.token,
  matches (parses
      (matches (start (in_brackets (effect c.args.before) (effect c.args.after)) c.args.self.now [])
      c.in_ok-expect_symbol.ensures) c.in_ok-inner.ensures)
      c.in_ok-expect_symbol-2.ensures,
)
