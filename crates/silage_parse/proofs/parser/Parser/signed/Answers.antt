use Rattle.silage_syntax.specs.Grammar.{number_of}
use Rattle.silage_parse.specs.Private.ParseTable.{Expand, Signed, Punctuation}
use Rattle.silage_parse.proofs.Steps.{refl, sym, [], ◌∷◌, taken_from, taken_as, start, matches, does, first, other}
use Rattle.silage_parse.proofs.Steps.{stops_at, fault_is}
use Rattle.silage_lex.specs.declared.punctuation.TheConstants as punctuation
use Rattle.silage_parse.proofs.parser.Parser.signed.Goals as goal

pub returns-in_err-digits : goal.returns-in_err-digits
returns-in_err-digits c =
    rw (fault_is c.from_residual.result c.from_residual.ensures.1)
    (stops_at _ (other (start (Expand Signed ∷ []) c.args.self.now []) refl (sym c.if-not-is_symbol.ensures.value))
    c.in_err-digits.ensures)

pub returns-then-not-is_symbol : goal.returns-then-not-is_symbol
returns-then-not-is_symbol c =
    does (matches (other (start (Expand Signed ∷ []) c.args.self.now []) refl (sym c.if-not-is_symbol.ensures.value))
    c.in_ok-digits.ensures.0) (λ under.
    rw (
      taken_as number_of c.in_ok-digits.ensures.0 c.in_ok-digits.ensures.1,
      c.start-at.ensures,
      taken_from c.in_ok-digits.ensures.0,
    )
    refl)

pub returns-in_err-advance : goal.returns-in_err-advance
returns-in_err-advance c =
    rw (fault_is c.from_residual-in_err-advance.result c.from_residual-in_err-advance.ensures.1)
    (stops_at _ (first (start (Expand Signed ∷ []) c.args.self.now []) refl (sym c.if-not-is_symbol.ensures.value))
    (c.in_err-advance.ensures _ (sym c.if-not-is_symbol.ensures.value)))

pub returns-in_err-digits-2 : goal.returns-in_err-digits-2
returns-in_err-digits-2 c =
    rw (fault_is c.from_residual-in_err-digits-2.result c.from_residual-in_err-digits-2.ensures.1)
    (stops_at _
    (matches (first (start (Expand Signed ∷ []) c.args.self.now []) refl (sym c.if-not-is_symbol.ensures.value))
    (c.in_ok-advance.ensures.as_one_of _ (sym c.if-not-is_symbol.ensures.value))) c.in_err-digits-2.ensures)

pub returns : goal.returns
returns c =
    does (matches
    (matches (first (start (Expand Signed ∷ []) c.args.self.now []) refl (sym c.if-not-is_symbol.ensures.value))
    (c.in_ok-advance.ensures.as_one_of _ (sym c.if-not-is_symbol.ensures.value))) c.in_ok-digits-2.ensures.0)
    (λ under.
    rw (
      taken_as number_of c.in_ok-digits-2.ensures.0 c.in_ok-digits-2.ensures.1,
      c.start-at.ensures,
      taken_from
          (c.in_ok-advance.ensures.as_one_of (Punctuation punctuation.MINUS ∷ [])
          (sym c.if-not-is_symbol.ensures.value)),
    )
    refl)
