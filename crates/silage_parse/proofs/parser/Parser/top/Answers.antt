use Rattle.silage_parse.specs.Private.Parsed.{table_row, function_row, source_rest}
use Rattle.silage_parse.proofs.Steps.{refl, sym, [], ◌∷◌, start, reads, first, second, stops, fault_is}
use Rattle.silage_parse.proofs.Sources.{no_top}
use Rattle.silage_parse.specs.Private.ParseTable as the
use Rattle.silage_parse.proofs.parser.Parser.top.Goals as goal

pub returns-in_err-table-clause-read : goal.returns-in_err-table-clause-read
returns-in_err-table-clause-read c = λ tops.
    rw (fault_is c.from_residual.result c.from_residual.ensures.1)
    (stops table_row _ (the.tops tops ∷ []) _ _
    (first (start source_rest c.args.self.now (the.tops tops ∷ [])) refl (sym c.if-is_reserved.ensures.value))
    (c.in_err-table.ensures.read tops))

pub returns-then-is_reserved-clause-read : goal.returns-then-is_reserved-clause-read
returns-then-is_reserved-clause-read c = λ tops.
    reads table_row (the.tops tops ∷ []) _
    (first (start source_rest c.args.self.now (the.tops tops ∷ [])) refl (sym c.if-is_reserved.ensures.value))
    (c.in_ok-table.ensures.read tops)

pub returns-in_err-function-clause-read : goal.returns-in_err-function-clause-read
returns-in_err-function-clause-read c = λ tops.
    rw (fault_is c.from_residual-in_err-function.result c.from_residual-in_err-function.ensures.1)
    (stops function_row _ (the.tops tops ∷ []) _ _
    (second (start source_rest c.args.self.now (the.tops tops ∷ [])) refl (sym c.if-is_reserved.ensures.value)
    (sym c.if-is_reserved-2.ensures.value)) (c.in_err-function.ensures.read tops))

pub returns-then-is_reserved-2-clause-read : goal.returns-then-is_reserved-2-clause-read
returns-then-is_reserved-2-clause-read c = λ tops.
    reads function_row (the.tops tops ∷ []) _
    (second (start source_rest c.args.self.now (the.tops tops ∷ [])) refl (sym c.if-is_reserved.ensures.value)
    (sym c.if-is_reserved-2.ensures.value)) (c.in_ok-function.ensures.read tops)

pub returns-clause-read : goal.returns-clause-read
returns-clause-read c = λ tops.
    rw c.syntax.ensures
    (no_top c.args.self.now tops c.requires (sym c.if-is_reserved.ensures.value) (sym c.if-is_reserved-2.ensures.value))
