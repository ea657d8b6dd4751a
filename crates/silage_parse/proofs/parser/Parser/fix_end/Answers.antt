use Rattle.silage_parse.specs.Private.ParseTable.{Expand}
use Rattle.silage_parse.specs.Private.Parsed.{sizes_read, effect}
use Rattle.silage_parse.proofs.Steps.{refl, sym, [], ◌∷◌, start, matches, parses, does, first, other, stops_at}
use Rattle.silage_parse.proofs.Steps.{fault_is}
use Rattle.silage_parse.specs.Private.ParseTable as the
use Rattle.silage_parse.proofs.parser.Parser.fix_end.Goals as goal

pub returns-in_err-expect_symbol : goal.returns-in_err-expect_symbol
returns-in_err-expect_symbol c = λ f co w b x.
    rw (fault_is c.from_residual.result c.from_residual.ensures.1)
    (stops_at _
    (other (start (Expand (the.FixEnd (effect c.args.effect)) ∷ []) c.args.self.now (sizes_read f co w b x)) refl
    (sym c.if-not-is_symbol.ensures.value)) c.in_err-expect_symbol.ensures)

pub returns-then-not-is_symbol : goal.returns-then-not-is_symbol
returns-then-not-is_symbol c = λ f co w b x.
    does (matches
    (other (start (Expand (the.FixEnd (effect c.args.effect)) ∷ []) c.args.self.now (sizes_read f co w b x)) refl
    (sym c.if-not-is_symbol.ensures.value)) c.in_ok-expect_symbol.ensures)
    (λ under. refl)

pub returns-in_err-advance : goal.returns-in_err-advance
returns-in_err-advance c = λ f co w b x.
    rw (fault_is c.from_residual-in_err-advance.result c.from_residual-in_err-advance.ensures.1)
    (stops_at _
    (first (start (Expand (the.FixEnd (effect c.args.effect)) ∷ []) c.args.self.now (sizes_read f co w b x)) refl
    (sym c.if-not-is_symbol.ensures.value)) (c.in_err-advance.ensures _ (sym c.if-not-is_symbol.ensures.value)))

pub returns-in_err-mode : goal.returns-in_err-mode
returns-in_err-mode c = λ f co w b x.
    rw (fault_is c.from_residual-in_err-mode.result c.from_residual-in_err-mode.ensures.1)
    (stops_at _
    (matches (first (start (Expand (the.FixEnd (effect c.args.effect)) ∷ []) c.args.self.now (sizes_read f co w b x))
    refl (sym c.if-not-is_symbol.ensures.value))
    (c.in_ok-advance.ensures.as_one_of _ (sym c.if-not-is_symbol.ensures.value))) c.in_err-mode.ensures)

pub returns-in_err-expect_symbol-2 : goal.returns-in_err-expect_symbol-2
returns-in_err-expect_symbol-2 c = λ f co w b x.
    rw (fault_is c.from_residual-in_err-expect_symbol-2.result c.from_residual-in_err-expect_symbol-2.ensures.1)
    (stops_at _
    (parses (matches
    (first (start (Expand (the.FixEnd (effect c.args.effect)) ∷ []) c.args.self.now (sizes_read f co w b x)) refl
    (sym c.if-not-is_symbol.ensures.value))
    (c.in_ok-advance.ensures.as_one_of _ (sym c.if-not-is_symbol.ensures.value)))
    c.in_ok-mode.ensures) c.in_err-expect_symbol-2.ensures)

pub returns : goal.returns
returns c = λ f co w b x.
    does (matches
    (parses (matches
    (first (start (Expand (the.FixEnd (effect c.args.effect)) ∷ []) c.args.self.now (sizes_read f co w b x)) refl
    (sym c.if-not-is_symbol.ensures.value))
    (c.in_ok-advance.ensures.as_one_of _ (sym c.if-not-is_symbol.ensures.value)))
    c.in_ok-mode.ensures) c.in_ok-expect_symbol-2.ensures)
    (λ under. refl)
