use Rattle.silage_parse.specs.Private.ParseTable.{Punctuation, Expand, RightSide}
use Rattle.silage_parse.specs.Private.Parsed.{call_end, equation_end, place_value}
use Rattle.silage_parse.proofs.Steps.{refl, sym, [], ◌∷◌, taken_from, taken_name, then_next, start, matches, reads}
use Rattle.silage_parse.proofs.Steps.{does, first, stops, stops_at, fault_is}
use Rattle.silage_parse.proofs.LeftFactored.{equation_begins, called}
use Rattle.silage_parse.specs.Private.ParseTable as the
use Rattle.silage_lex.specs.declared.punctuation.TheConstants as punctuation
use Rattle.silage_parse.proofs.parser.Parser.right_side.Goals as goal

pub returns-in_err-func : goal.returns-in_err-func
returns-in_err-func c =
    let call = called c.args.self.now (sym c.if-is_call.ensures) in
    λ k.
    rw (fault_is c.from_residual-in_err-func.result c.from_residual-in_err-func.ensures.1)
    (stops_at _
    (first (start (Expand RightSide ∷ []) c.args.self.now (the.token k ∷ place_value c.args.place ∷ [])) refl
    call.0) c.in_err-func.ensures)

pub returns-in_err-args : goal.returns-in_err-args
returns-in_err-args c =
    let call = called c.args.self.now (sym c.if-is_call.ensures) in
    λ k.
    rw (fault_is c.from_residual-in_err-args.result c.from_residual-in_err-args.ensures.1)
    (stops call_end _ [] _ _
    (first (matches
    (first (start (Expand RightSide ∷ []) c.args.self.now (the.token k ∷ place_value c.args.place ∷ [])) refl
    call.0) c.in_ok-func.ensures.0)
    refl (then_next (Punctuation punctuation.LEFT_PAREN ∷ []) c.in_ok-func.ensures.0 call.1))
    c.in_err-args.ensures)

pub returns-then-is_call : goal.returns-then-is_call
returns-then-is_call c =
    let call = called c.args.self.now (sym c.if-is_call.ensures) in
    λ k.
    does (reads call_end [] _
    (first (matches
    (first (start (Expand RightSide ∷ []) c.args.self.now (the.token k ∷ place_value c.args.place ∷ []))
    refl call.0) c.in_ok-func.ensures.0)
    refl (then_next (Punctuation punctuation.LEFT_PAREN ∷ []) c.in_ok-func.ensures.0 call.1))
    c.in_ok-args.ensures.3) (λ under.
    rw (
      c.into_vec.ensures,
      c.in_ok-push.ensures.items,
      c.new-places.ensures.items,
      taken_name c.in_ok-func.ensures.0 c.in_ok-func.ensures.1,
      ← (taken_from c.in_ok-func.ensures.0),
      ← c.start-at.ensures,
    )
    refl)

pub returns-in_err-value : goal.returns-in_err-value
returns-in_err-value c = λ k.
    rw (fault_is c.from_residual-in_err-value.result c.from_residual-in_err-value.ensures.1)
    (stops equation_end _ [] _ _
    (equation_begins (start (Expand RightSide ∷ []) c.args.self.now (the.token k ∷ place_value c.args.place ∷ []))
    (sym c.if-is_call.ensures)) c.in_err-value.ensures)

pub returns : goal.returns
returns c = λ k.
    does (reads equation_end [] _
    (equation_begins (start (Expand RightSide ∷ []) c.args.self.now (the.token k ∷ place_value c.args.place ∷ []))
    (sym c.if-is_call.ensures)) c.in_ok-value.ensures.1)
    (λ under. refl)
