use Rattle.silage_syntax.specs.Grammar.{shift_operator}
use Rattle.silage_parse.specs.Private.ParseTable.{shift_operators}
use Rattle.silage_parse.specs.Private.Parsed.{next, expr_value, shifted}
use Rattle.silage_parse.proofs.Steps.{refl, [], ◌∷◌, taken_from, taken_as, start, matches, parses, does, stops_at}
use Rattle.silage_parse.proofs.Steps.{fault_is}
use Rattle.silage_parse.proofs.Tables.{shift_table}
use Rattle.silage_parse.proofs.parser.Parser.shifted.Goals as goal

pub returns-in_err-advance-clause-read : goal.returns-in_err-advance-clause-read
returns-in_err-advance-clause-read c =
    rw (fault_is c.from_residual-in_err-advance.result c.from_residual-in_err-advance.ensures.1)
    (stops_at _ (start shifted c.args.self.now (expr_value c.args.operand ∷ []))
    (c.in_err-advance.ensures _ (shift_table.some (next c.args.self.now) c.requires.next)))

pub returns-in_err-amount-clause-read : goal.returns-in_err-amount-clause-read
returns-in_err-amount-clause-read c =
    let taken =
    c.in_ok-advance.ensures.as_one_of shift_operators (shift_table.some (next c.args.self.now) c.requires.next) in
    rw (fault_is c.from_residual-in_err-amount.result c.from_residual-in_err-amount.ensures.1)
    (stops_at _ (matches (start shifted c.args.self.now (expr_value c.args.operand ∷ [])) taken)
    c.in_err-amount.ensures)

pub returns-clause-read : goal.returns-clause-read
returns-clause-read c =
    let taken =
    c.in_ok-advance.ensures.as_one_of shift_operators (shift_table.some (next c.args.self.now) c.requires.next) in
    does
    (parses (matches (start shifted c.args.self.now (expr_value c.args.operand ∷ [])) taken) c.in_ok-amount.ensures)
    (λ under.
    rw (
      c.in_ok-operand.ensures.ok,
      taken_as shift_operator taken c.requires.next,
      c.start-at.ensures,
      taken_from taken,
    )
    refl)
