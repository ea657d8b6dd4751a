use Rattle.silage_parse.specs.Private.Parsed.{function_head, function_body, function_row}
use Rattle.silage_parse.proofs.Steps.{refl, [], ◌∷◌, start, matches, reads, does, stops, stops_at, fault_is}
use Rattle.silage_parse.specs.Private.ParseTable as the
use Rattle.silage_parse.proofs.parser.Parser.function.Goals as goal

pub returns-in_err-expect_reserved-clause-read : goal.returns-in_err-expect_reserved-clause-read
returns-in_err-expect_reserved-clause-read c = λ tops.
    rw (fault_is c.from_residual.result c.from_residual.ensures.1)
    (stops_at _ (start function_row c.args.self.now (the.tops tops ∷ [])) c.in_err-expect_reserved.ensures)

pub returns-in_err-name-clause-read : goal.returns-in_err-name-clause-read
returns-in_err-name-clause-read c = λ tops.
    rw (fault_is c.from_residual-in_err-name.result c.from_residual-in_err-name.ensures.1)
    (stops function_head _ [] _ _
    (matches (start function_row c.args.self.now (the.tops tops ∷ [])) c.in_ok-expect_reserved.ensures)
    c.in_err-name.ensures)

pub returns-in_err-locals-clause-read : goal.returns-in_err-locals-clause-read
returns-in_err-locals-clause-read c = λ tops.
    rw (fault_is c.from_residual-in_err-locals.result c.from_residual-in_err-locals.ensures.1)
    (stops function_body _ [] _ _
    (reads function_head [] _
    (matches (start function_row c.args.self.now (the.tops tops ∷ [])) c.in_ok-expect_reserved.ensures)
    c.in_ok-name.ensures.5) c.in_err-locals.ensures)

pub returns-clause-read : goal.returns-clause-read
returns-clause-read c =
    let head = c.in_ok-name.ensures in
    λ tops.
    does (reads function_body [] _
    (reads function_head [] _
    (matches (start function_row c.args.self.now (the.tops tops ∷ [])) c.in_ok-expect_reserved.ensures) head.5)
    c.in_ok-locals.ensures.4)
    (λ under. rw (head.3, head.4) refl)
