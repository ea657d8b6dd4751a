use Rattle.silage_parse.specs.Private.Parsed.{table_content, table_row}
use Rattle.silage_parse.proofs.Steps.{refl, [], ◌∷◌, start, matches, parses, reads, does, stops, stops_at, fault_is}
use Rattle.silage_parse.specs.Private.ParseTable as the
use Rattle.silage_parse.proofs.parser.Parser.table.Goals as goal

pub returns-in_err-expect_reserved-clause-read : goal.returns-in_err-expect_reserved-clause-read
returns-in_err-expect_reserved-clause-read c = λ tops.
    rw (fault_is c.from_residual.result c.from_residual.ensures.1)
    (stops_at _ (start table_row c.args.self.now (the.tops tops ∷ [])) c.in_err-expect_reserved.ensures)

pub returns-in_err-name-clause-read : goal.returns-in_err-name-clause-read
returns-in_err-name-clause-read c = λ tops.
    rw (fault_is c.from_residual-in_err-name.result c.from_residual-in_err-name.ensures.1)
    (stops_at _ (matches (start table_row c.args.self.now (the.tops tops ∷ [])) c.in_ok-expect_reserved.ensures)
    c.in_err-name.ensures)

pub returns-in_err-ty-clause-read : goal.returns-in_err-ty-clause-read
returns-in_err-ty-clause-read c = λ tops.
    rw (fault_is c.from_residual-in_err-ty.result c.from_residual-in_err-ty.ensures.1)
    (stops table_content _ [] _ _
    (parses (matches (start table_row c.args.self.now (the.tops tops ∷ [])) c.in_ok-expect_reserved.ensures)
    c.in_ok-name.ensures) c.in_err-ty.ensures)

pub returns-clause-read : goal.returns-clause-read
returns-clause-read c = λ tops.
    does (reads table_content [] _
    (parses (matches (start table_row c.args.self.now (the.tops tops ∷ [])) c.in_ok-expect_reserved.ensures)
    c.in_ok-name.ensures) c.in_ok-ty.ensures.4)
    (λ under. refl)
