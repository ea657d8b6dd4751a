use Rattle.silage_parse.specs.Private.Parsed.{start_of, table_content}
use Rattle.silage_parse.specs.Private.ParseTable.{Words, close_words}
use Rattle.silage_parse.specs.Private.CommaLists.{table_words}
use Rattle.silage_parse.proofs.Steps.{[], start, matches, parses, stops_at, fault_is}
use Rattle.silage_parse.proofs.parser.Parser.content.Goals as goal

pub returns-in_err-expect_symbol : goal.returns-in_err-expect_symbol
returns-in_err-expect_symbol c =
    rw (fault_is c.from_residual.result c.from_residual.ensures.1)
    (stops_at _ (start table_content c.args.self.now []) c.in_err-expect_symbol.ensures)

pub returns-in_err-ty : goal.returns-in_err-ty
returns-in_err-ty c =
    rw (fault_is c.from_residual-in_err-ty.result c.from_residual-in_err-ty.ensures.1)
    (stops_at _ (matches (start table_content c.args.self.now []) c.in_ok-expect_symbol.ensures) c.in_err-ty.ensures)

pub returns-in_err-expect_symbol-2 : goal.returns-in_err-expect_symbol-2
returns-in_err-expect_symbol-2 c =
    rw (fault_is c.from_residual-in_err-expect_symbol-2.result c.from_residual-in_err-expect_symbol-2.ensures.1)
    (stops_at _
    (parses (matches (start table_content c.args.self.now []) c.in_ok-expect_symbol.ensures) c.in_ok-ty.ensures)
    c.in_err-expect_symbol-2.ensures)

pub returns-in_err-words : goal.returns-in_err-words
returns-in_err-words c =
    rw (fault_is c.from_residual-in_err-words.result c.from_residual-in_err-words.ensures.1)
    (stops_at _
    (matches
    (parses (matches (start table_content c.args.self.now []) c.in_ok-expect_symbol.ensures) c.in_ok-ty.ensures)
    c.in_ok-expect_symbol-2.ensures) (c.in_err-words.ensures Words close_words table_words))

pub returns-in_err-expect_symbol-3 : goal.returns-in_err-expect_symbol-3
returns-in_err-expect_symbol-3 c =
    rw (fault_is c.from_residual-in_err-expect_symbol-3.result c.from_residual-in_err-expect_symbol-3.ensures.1)
    (stops_at _
    (parses (matches
    (parses (matches (start table_content c.args.self.now []) c.in_ok-expect_symbol.ensures) c.in_ok-ty.ensures)
    c.in_ok-expect_symbol-2.ensures)
    (c.in_ok-words.ensures Words close_words table_words)) c.in_err-expect_symbol-3.ensures)

pub returns : goal.returns
returns c =
    let colon = c.in_ok-expect_symbol.ensures in
    let equal = c.in_ok-expect_symbol-2.ensures in
    let ended = c.in_ok-expect_symbol-3.ensures in (
      colon.token,
      equal.token,
      ended.token,
      start_of c.expect_symbol.new.self,
      matches (parses
          (matches (parses (matches (start table_content c.args.self.now []) colon) c.in_ok-ty.ensures) equal)
          (c.in_ok-words.ensures Words close_words table_words))
          ended,
    )
