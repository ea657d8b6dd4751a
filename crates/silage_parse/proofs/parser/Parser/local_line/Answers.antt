use Rattle.silage_parse.specs.Private.Parsed.{type_in_line, local_line}
use Rattle.silage_parse.specs.Private.CommaLists.{list_of, names}
use Rattle.silage_parse.proofs.Steps.{refl, [], ◌∷◌, start, matches, reads, does, stops, stops_at, fault_is}
use Rattle.silage_parse.specs.Private.ParseTable as the
use Rattle.silage_parse.proofs.parser.Parser.local_line.Goals as goal

pub returns-in_err-expect_reserved-clause-read : goal.returns-in_err-expect_reserved-clause-read
returns-in_err-expect_reserved-clause-read c =
    rw (fault_is c.from_residual.result c.from_residual.ensures.1)
    (stops_at _ (start local_line c.args.self.now (the.decls c.args.list.now ∷ [])) c.in_err-expect_reserved.ensures)

pub returns-in_err-names-clause-read : goal.returns-in_err-names-clause-read
returns-in_err-names-clause-read c =
    rw (fault_is c.from_residual-in_err-names.result c.from_residual-in_err-names.ensures.1)
    (stops (list_of names) _ [] _ _
    (matches (start local_line c.args.self.now (the.decls c.args.list.now ∷ [])) c.in_ok-expect_reserved.ensures)
    c.in_err-names.ensures)

pub returns-in_err-ty-clause-read : goal.returns-in_err-ty-clause-read
returns-in_err-ty-clause-read c =
    rw (fault_is c.from_residual-in_err-ty.result c.from_residual-in_err-ty.ensures.1)
    (stops type_in_line _ [] _ _
    (reads (list_of names) [] _
    (matches (start local_line c.args.self.now (the.decls c.args.list.now ∷ [])) c.in_ok-expect_reserved.ensures)
    c.in_ok-names.ensures) c.in_err-ty.ensures)

pub returns-clause-read : goal.returns-clause-read
returns-clause-read c =
    does (reads type_in_line [] _
    (reads (list_of names) [] _
    (matches (start local_line c.args.self.now (the.decls c.args.list.now ∷ [])) c.in_ok-expect_reserved.ensures)
    c.in_ok-names.ensures) c.in_ok-ty.ensures.2)
    (λ under. rw c.in_ok-add_typed.ensures refl)
