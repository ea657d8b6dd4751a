use Rattle.silage_parse.specs.Private.Parsed.{call_end, after_open}
use Rattle.silage_parse.specs.Private.CommaLists.{list_of, places}
use Rattle.silage_parse.proofs.Steps.{refl, [], ◌∷◌, taken_from, taken_name, start, matches, reads, does, stops}
use Rattle.silage_parse.proofs.Steps.{stops_at, fault_is}
use Rattle.silage_parse.proofs.LeftFactored.{calls_begin}
use Rattle.silage_parse.specs.Private.ParseTable as the
use Rattle.silage_parse.proofs.parser.Parser.calls.Goals as goal

pub returns-in_err-places : goal.returns-in_err-places
returns-in_err-places c = λ k.
    rw (fault_is c.from_residual.result c.from_residual.ensures.1)
    (stops (list_of places) _ [] _ _ (calls_begin (start after_open c.args.self.now (the.token k ∷ [])) c.requires)
    c.in_err-places.ensures)

pub returns-in_err-expect_symbol : goal.returns-in_err-expect_symbol
returns-in_err-expect_symbol c = λ k.
    rw (fault_is c.from_residual-in_err-expect_symbol.result c.from_residual-in_err-expect_symbol.ensures.1)
    (stops_at _
    (reads (list_of places) [] _ (calls_begin (start after_open c.args.self.now (the.token k ∷ [])) c.requires)
    c.in_ok-places.ensures) c.in_err-expect_symbol.ensures)

pub returns-in_err-expect_symbol-2 : goal.returns-in_err-expect_symbol-2
returns-in_err-expect_symbol-2 c = λ k.
    rw (fault_is c.from_residual-in_err-expect_symbol-2.result c.from_residual-in_err-expect_symbol-2.ensures.1)
    (stops_at _
    (matches (reads (list_of places) [] _
    (calls_begin (start after_open c.args.self.now (the.token k ∷ [])) c.requires) c.in_ok-places.ensures)
    c.in_ok-expect_symbol.ensures) c.in_err-expect_symbol-2.ensures)

pub returns-in_err-func : goal.returns-in_err-func
returns-in_err-func c = λ k.
    rw (fault_is c.from_residual-in_err-func.result c.from_residual-in_err-func.ensures.1)
    (stops_at _
    (matches (matches
    (reads (list_of places) [] _ (calls_begin (start after_open c.args.self.now (the.token k ∷ [])) c.requires)
    c.in_ok-places.ensures) c.in_ok-expect_symbol.ensures)
    c.in_ok-expect_symbol-2.ensures) c.in_err-func.ensures)

pub returns-in_err-args : goal.returns-in_err-args
returns-in_err-args c = λ k.
    rw (fault_is c.from_residual-in_err-args.result c.from_residual-in_err-args.ensures.1)
    (stops call_end _ [] _ _
    (matches (matches
    (matches (reads (list_of places) [] _
    (calls_begin (start after_open c.args.self.now (the.token k ∷ [])) c.requires) c.in_ok-places.ensures)
    c.in_ok-expect_symbol.ensures) c.in_ok-expect_symbol-2.ensures)
    c.in_ok-func.ensures.0) c.in_err-args.ensures)

pub returns : goal.returns
returns c = λ k.
    does (reads call_end [] _
    (matches (matches
    (matches (reads (list_of places) [] _
    (calls_begin (start after_open c.args.self.now (the.token k ∷ [])) c.requires) c.in_ok-places.ensures)
    c.in_ok-expect_symbol.ensures) c.in_ok-expect_symbol-2.ensures)
    c.in_ok-func.ensures.0) c.in_ok-args.ensures.3) (λ under.
    rw (
      c.into_vec.ensures,
      c.into_vec-2.ensures,
      taken_name c.in_ok-func.ensures.0 c.in_ok-func.ensures.1,
      ← (taken_from c.in_ok-func.ensures.0),
      ← c.start-at.ensures,
    )
    refl)
