use Rattle.silage_parse.specs.Private.ParseTable.{Expand, Type_}
use Rattle.silage_parse.proofs.Steps.{refl, sym, [], ◌∷◌, start, matches, parses, does, first, other, stops_at}
use Rattle.silage_parse.proofs.Steps.{fault_is}
use Rattle.silage_parse.proofs.parser.Parser.signal_type.Goals as goal

pub returns-in_err-advance : goal.returns-in_err-advance
returns-in_err-advance c =
    rw (fault_is c.from_residual.result c.from_residual.ensures.1)
    (stops_at _ (first (start (Expand Type_ ∷ []) c.args.self.now []) refl (sym c.if-is_reserved.ensures.value))
    (c.in_err-advance.ensures _ (sym c.if-is_reserved.ensures.value)))

pub returns-then-is_reserved : goal.returns-then-is_reserved
returns-then-is_reserved c =
    does (matches (first (start (Expand Type_ ∷ []) c.args.self.now []) refl (sym c.if-is_reserved.ensures.value))
    (c.in_ok-advance.ensures.as_one_of _ (sym c.if-is_reserved.ensures.value)))
    (λ under. refl)

pub returns-in_err-fix_type : goal.returns-in_err-fix_type
returns-in_err-fix_type c =
    rw (fault_is c.from_residual-in_err-fix_type.result c.from_residual-in_err-fix_type.ensures.1)
    (stops_at _ (other (start (Expand Type_ ∷ []) c.args.self.now []) refl (sym c.if-is_reserved.ensures.value))
    c.in_err-fix_type.ensures)

pub returns : goal.returns
returns c =
    does (parses (other (start (Expand Type_ ∷ []) c.args.self.now []) refl (sym c.if-is_reserved.ensures.value))
    c.in_ok-fix_type.ensures)
    (λ under. refl)
