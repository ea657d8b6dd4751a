use Rattle.silage_parse.specs.Private.Parsed.{local_line, local_lines}
use Rattle.silage_parse.proofs.Steps.{refl, sym, [], ◌∷◌, start, reads, does, first, other, stops, fault_is}
use Rattle.silage_parse.specs.Private.ParseTable as the
use Rattle.silage_parse.proofs.parser.Parser.locals.Goals as goal

pub lines-init : goal.lines-init
lines-init c = does (start local_lines c.args.self.now []) (λ under. rw c.new-list.ensures refl)

pub returns-in_err-local_line : goal.returns-in_err-local_line
returns-in_err-local_line c =
    rw (fault_is c.from_residual.result c.from_residual.ensures.1)
    (stops local_line _ (the.decls c.lines.list ∷ []) _ _
    (first c.lines.invariant refl (sym c.lines-test.ensures.value)) c.in_err-local_line.ensures.read)

pub lines-preserved : goal.lines-preserved
lines-preserved c =
    reads local_line (the.decls c.lines.list ∷ []) [] (first c.lines.invariant refl (sym c.lines-test.ensures.value))
    c.in_ok-local_line.ensures.read

pub returns : goal.returns
returns c = other c.lines.invariant refl (sym c.lines-test.ensures.value)
