use Rattle.silage_parse.specs.Private.ParseTable.{Expand, Name_}
use Rattle.silage_parse.proofs.Steps.{refl, [], ◌∷◌, taken_from, taken_name, start, matches, parses, does, only}
use Rattle.silage_parse.proofs.Steps.{stops_at, fault_is}
use Rattle.silage_parse.proofs.parser.Parser.declared_name.Goals as goal

pub returns-in_err-name : goal.returns-in_err-name
returns-in_err-name c =
    rw (fault_is c.from_residual.result c.from_residual.ensures.1)
    (stops_at _ (only (start (Expand Name_ ∷ []) c.args.self.now []) refl) c.in_err-name.ensures)

pub returns-in_err-dims : goal.returns-in_err-dims
returns-in_err-dims c =
    rw (fault_is c.from_residual-in_err-dims.result c.from_residual-in_err-dims.ensures.1)
    (stops_at _ (matches (only (start (Expand Name_ ∷ []) c.args.self.now []) refl) c.in_ok-name.ensures.0)
    c.in_err-dims.ensures)

pub returns : goal.returns
returns c =
    does (parses (matches (only (start (Expand Name_ ∷ []) c.args.self.now []) refl) c.in_ok-name.ensures.0)
    c.in_ok-dims.ensures) (λ under.
    rw (
      taken_name c.in_ok-name.ensures.0 c.in_ok-name.ensures.1,
      c.start-at.ensures,
      taken_from c.in_ok-name.ensures.0,
    )
    refl)
