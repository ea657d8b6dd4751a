use Rattle.silage_parse.specs.Private.ParseTable.{Expand, Delay}
use Rattle.silage_parse.proofs.Steps.{refl, sym, [], ◌∷◌, start, matches, parses, does, first, other, stops_at}
use Rattle.silage_parse.proofs.Steps.{fault_is}
use Rattle.silage_parse.proofs.parser.Parser.delay.Goals as goal

pub returns-then-not-is_symbol : goal.returns-then-not-is_symbol
returns-then-not-is_symbol c =
    does (other (start (Expand Delay ∷ []) c.args.self.now []) refl (sym c.if-not-is_symbol.ensures.value))
    (λ under. refl)

pub returns-in_err-advance : goal.returns-in_err-advance
returns-in_err-advance c =
    rw (fault_is c.from_residual.result c.from_residual.ensures.1)
    (stops_at _ (first (start (Expand Delay ∷ []) c.args.self.now []) refl (sym c.if-not-is_symbol.ensures.value))
    (c.in_err-advance.ensures _ (sym c.if-not-is_symbol.ensures.value)))

pub returns-in_err-manifest_primary : goal.returns-in_err-manifest_primary
returns-in_err-manifest_primary c =
    rw (fault_is c.from_residual-in_err-manifest_primary.result c.from_residual-in_err-manifest_primary.ensures.1)
    (stops_at _
    (matches (first (start (Expand Delay ∷ []) c.args.self.now []) refl (sym c.if-not-is_symbol.ensures.value))
    (c.in_ok-advance.ensures.as_one_of _ (sym c.if-not-is_symbol.ensures.value))) c.in_err-manifest_primary.ensures)

pub returns : goal.returns
returns c =
    does (parses
    (matches (first (start (Expand Delay ∷ []) c.args.self.now []) refl (sym c.if-not-is_symbol.ensures.value))
    (c.in_ok-advance.ensures.as_one_of _ (sym c.if-not-is_symbol.ensures.value))) c.in_ok-manifest_primary.ensures)
    (λ under. refl)
