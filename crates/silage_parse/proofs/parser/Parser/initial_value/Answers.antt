use Rattle.silage_syntax.specs.Grammar.{truth_of}
use Rattle.silage_parse.specs.Private.ParseTable.{Expand, Signed, InitialValue, truths}
use Rattle.silage_parse.specs.Private.Parsed.{next}
use Rattle.silage_parse.proofs.Steps.{refl, sym, [], ◌∷◌, taken_from, taken_as, start, matches, does, first, other}
use Rattle.silage_parse.proofs.Steps.{stops_at, whole, fault_is}
use Rattle.silage_parse.proofs.Tables.{truth_table}
use Rattle.silage_parse.specs.Private.ParseTable as the
use Rattle.silage_parse.proofs.parser.Parser.initial_value.Goals as goal

pub returns-in_err-advance : goal.returns-in_err-advance
returns-in_err-advance c =
    rw (fault_is c.from_residual.result c.from_residual.ensures.1)
    (stops_at _
    (first (start (Expand InitialValue ∷ []) c.args.self.now []) refl
    (truth_table.some (next c.args.self.now) (sym c.in-Some.ensures.value)))
    (c.in_err-advance.ensures truths (truth_table.some (next c.args.self.now) (sym c.in-Some.ensures.value))))

pub returns-in-Some : goal.returns-in-Some
returns-in-Some c =
    does (matches
    (first (start (Expand InitialValue ∷ []) c.args.self.now []) refl
    (truth_table.some (next c.args.self.now) (sym c.in-Some.ensures.value)))
    (c.in_ok-advance.ensures.as_one_of truths
    (truth_table.some (next c.args.self.now) (sym c.in-Some.ensures.value)))) (λ under.
    rw (
      taken_as truth_of
          (c.in_ok-advance.ensures.as_one_of truths
          (truth_table.some (next c.args.self.now) (sym c.in-Some.ensures.value)))
          (sym c.in-Some.ensures.value),
      ←
          (taken_from
          (c.in_ok-advance.ensures.as_one_of truths
          (truth_table.some (next c.args.self.now) (sym c.in-Some.ensures.value)))),
      ← c.start-at.ensures,
    )
    refl)

pub returns : goal.returns
returns c =
    whole (Expand Signed ∷ []) [] (λ l. the.lit l ∷ []) _ c.signed.result
    (other (start (Expand InitialValue ∷ []) c.args.self.now []) refl
    (truth_table.none (next c.args.self.now) (sym c.in_default.ensures.value))) c.signed.ensures
