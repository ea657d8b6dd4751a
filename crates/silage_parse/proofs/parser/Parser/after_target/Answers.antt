use Rattle.silage_parse.specs.Private.ParseTable.{Expand, RightSide, AfterTarget}
use Rattle.silage_parse.specs.Private.Parsed.{initial_end, place_value, item_value}
use Rattle.silage_parse.proofs.Steps.{refl, sym, [], ◌∷◌, start, matches, reads, does, first, other, stops, stops_at}
use Rattle.silage_parse.proofs.Steps.{whole, fault_is}
use Rattle.silage_parse.specs.Private.ParseTable as the
use Rattle.silage_parse.proofs.parser.Parser.after_target.Goals as goal

pub returns-in_err-k : goal.returns-in_err-k
returns-in_err-k c =
    rw (fault_is c.from_residual.result c.from_residual.ensures.1)
    (stops initial_end _ [] _ _
    (first (start (Expand AfterTarget ∷ []) c.args.self.now (place_value c.args.place ∷ [])) refl
    (sym c.if-is_symbol.ensures.value)) c.in_err-k.ensures)

pub returns-then-is_symbol : goal.returns-then-is_symbol
returns-then-is_symbol c =
    does (reads initial_end [] _
    (first (start (Expand AfterTarget ∷ []) c.args.self.now (place_value c.args.place ∷ [])) refl
    (sym c.if-is_symbol.ensures.value)) c.in_ok-k.ensures.3)
    (λ under. refl)

pub returns-in_err-expect_symbol : goal.returns-in_err-expect_symbol
returns-in_err-expect_symbol c =
    rw (fault_is c.from_residual-in_err-expect_symbol.result c.from_residual-in_err-expect_symbol.ensures.1)
    (stops_at _
    (other (start (Expand AfterTarget ∷ []) c.args.self.now (place_value c.args.place ∷ [])) refl
    (sym c.if-is_symbol.ensures.value)) c.in_err-expect_symbol.ensures)

pub returns : goal.returns
returns c =
    whole (Expand RightSide ∷ []) (the.token c.in_ok-expect_symbol.ensures.token ∷ place_value c.args.place ∷ [])
    (λ x. item_value x ∷ []) _ c.right_side.result
    (matches (other (start (Expand AfterTarget ∷ []) c.args.self.now (place_value c.args.place ∷ [])) refl
    (sym c.if-is_symbol.ensures.value))
    c.in_ok-expect_symbol.ensures) (c.right_side.ensures c.in_ok-expect_symbol.ensures.token)
