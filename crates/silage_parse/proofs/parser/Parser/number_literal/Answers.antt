use Rattle.silage_syntax.specs.Grammar.{number_of}
use Rattle.silage_parse.specs.Private.ParseTable.{Expand, OtherPrimary}
use Rattle.silage_parse.proofs.Steps.{refl, [], ◌∷◌, taken_from, taken_as, start, matches, does, first, stops_at}
use Rattle.silage_parse.proofs.Steps.{computes, fault_is}
use Rattle.silage_parse.proofs.parser.Parser.number_literal.Goals as goal

pub returns-in_err-digits : goal.returns-in_err-digits
returns-in_err-digits c =
    rw (fault_is c.from_residual.result c.from_residual.ensures.1)
    (stops_at _ (first (start (Expand OtherPrimary ∷ []) c.args.self.now []) refl c.requires) c.in_err-digits.ensures)

pub returns : goal.returns
returns c =
    does (computes
    (matches (first (start (Expand OtherPrimary ∷ []) c.args.self.now []) refl c.requires) c.in_ok-digits.ensures.0)
    (λ under. refl)) (λ under.
    rw (
      taken_as number_of c.in_ok-digits.ensures.0 c.in_ok-digits.ensures.1,
      c.start-at.ensures,
      taken_from c.in_ok-digits.ensures.0,
    )
    refl)
