use Rattle.silage_parse.specs.Private.ParseTable.{Expand, AfterRound}
use Rattle.silage_parse.specs.Private.Parsed.{effect}
use Rattle.silage_parse.proofs.Steps.{refl, sym, [], ◌∷◌, start, matches, does, first, other, stops_at, fault_is}
use Rattle.silage_parse.specs.Private.ParseTable as the
use Rattle.silage_parse.proofs.parser.Parser.mode_end.Goals as goal

pub returns-then-not-is_symbol : goal.returns-then-not-is_symbol
returns-then-not-is_symbol c = λ word.
    does
    (other (start (Expand (AfterRound (effect c.args.effect)) ∷ []) c.args.self.now (the.token word ∷ [])) refl
    (sym c.if-not-is_symbol.ensures.value))
    (λ under. refl)

pub returns-in_err-advance : goal.returns-in_err-advance
returns-in_err-advance c = λ word.
    rw (fault_is c.from_residual.result c.from_residual.ensures.1)
    (stops_at _
    (first (start (Expand (AfterRound (effect c.args.effect)) ∷ []) c.args.self.now (the.token word ∷ [])) refl
    (sym c.if-not-is_symbol.ensures.value)) (c.in_err-advance.ensures _ (sym c.if-not-is_symbol.ensures.value)))

pub returns-in_err-expect_reserved : goal.returns-in_err-expect_reserved
returns-in_err-expect_reserved c = λ word.
    rw (fault_is c.from_residual-in_err-expect_reserved.result c.from_residual-in_err-expect_reserved.ensures.1)
    (stops_at _
    (matches
    (first (start (Expand (AfterRound (effect c.args.effect)) ∷ []) c.args.self.now (the.token word ∷ [])) refl
    (sym c.if-not-is_symbol.ensures.value))
    (c.in_ok-advance.ensures.as_one_of _ (sym c.if-not-is_symbol.ensures.value))) c.in_err-expect_reserved.ensures)

pub returns : goal.returns
returns c = λ word.
    does (matches
    (matches
    (first (start (Expand (AfterRound (effect c.args.effect)) ∷ []) c.args.self.now (the.token word ∷ [])) refl
    (sym c.if-not-is_symbol.ensures.value))
    (c.in_ok-advance.ensures.as_one_of _ (sym c.if-not-is_symbol.ensures.value))) c.in_ok-expect_reserved.ensures)
    (λ under. refl)
