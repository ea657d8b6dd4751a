use Rattle.silage_parse.specs.Private.ParseTable.{Expand, Decl_}
use Rattle.silage_parse.proofs.Steps.{refl, [], ◌∷◌, start, matches, parses, does, only, stops_at, fault_is}
use Rattle.silage_parse.proofs.parser.Parser.decl.Goals as goal

pub returns-in_err-declared : goal.returns-in_err-declared
returns-in_err-declared c =
    rw (fault_is c.from_residual.result c.from_residual.ensures.1)
    (stops_at _ (only (start (Expand Decl_ ∷ []) c.args.self.now []) refl) c.in_err-declared.ensures)

pub returns-in_err-expect_symbol : goal.returns-in_err-expect_symbol
returns-in_err-expect_symbol c =
    rw (fault_is c.from_residual-in_err-expect_symbol.result c.from_residual-in_err-expect_symbol.ensures.1)
    (stops_at _ (parses (only (start (Expand Decl_ ∷ []) c.args.self.now []) refl) c.in_ok-declared.ensures)
    c.in_err-expect_symbol.ensures)

pub returns-in_err-ty : goal.returns-in_err-ty
returns-in_err-ty c =
    rw (fault_is c.from_residual-in_err-ty.result c.from_residual-in_err-ty.ensures.1)
    (stops_at _
    (matches (parses (only (start (Expand Decl_ ∷ []) c.args.self.now []) refl) c.in_ok-declared.ensures)
    c.in_ok-expect_symbol.ensures) c.in_err-ty.ensures)

pub returns : goal.returns
returns c =
    does (parses
    (matches (parses (only (start (Expand Decl_ ∷ []) c.args.self.now []) refl) c.in_ok-declared.ensures)
    c.in_ok-expect_symbol.ensures) c.in_ok-ty.ensures)
    (λ under. rw c.typed.ensures refl)
