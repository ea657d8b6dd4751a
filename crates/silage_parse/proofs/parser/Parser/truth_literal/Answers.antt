use Rattle.silage_syntax.specs.Grammar.{truth_of}
use Rattle.silage_parse.specs.Private.ParseTable.{Expand, OtherPrimary, truths}
use Rattle.silage_parse.specs.Private.Parsed.{next}
use Rattle.silage_parse.proofs.Steps.{refl, [], ◌∷◌, taken_from, taken_as, start, matches, does, second, stops_at}
use Rattle.silage_parse.proofs.Steps.{computes, fault_is}
use Rattle.silage_parse.proofs.Tables.{truth_table}
use Rattle.silage_parse.proofs.Primaries.{truth_no_number}
use Rattle.silage_parse.proofs.parser.Parser.truth_literal.Goals as goal

pub returns-in_err-advance : goal.returns-in_err-advance
returns-in_err-advance c =
    rw (fault_is c.from_residual.result c.from_residual.ensures.1)
    (stops_at _
    (second (start (Expand OtherPrimary ∷ []) c.args.self.now []) refl
    (truth_no_number (next c.args.self.now) c.requires.truth)
    (truth_table.some (next c.args.self.now) c.requires.truth))
    (c.in_err-advance.ensures truths (truth_table.some (next c.args.self.now) c.requires.truth)))

pub returns : goal.returns
returns c =
    does (computes
    (matches (second (start (Expand OtherPrimary ∷ []) c.args.self.now []) refl
    (truth_no_number (next c.args.self.now) c.requires.truth)
    (truth_table.some (next c.args.self.now) c.requires.truth))
    (c.in_ok-advance.ensures.as_one_of truths (truth_table.some (next c.args.self.now) c.requires.truth)))
    (λ under. refl)) (λ under.
    rw (
      taken_as truth_of
          (c.in_ok-advance.ensures.as_one_of truths (truth_table.some (next c.args.self.now) c.requires.truth))
          c.requires.truth,
      c.start-at.ensures,
      taken_from
          (c.in_ok-advance.ensures.as_one_of truths (truth_table.some (next c.args.self.now) c.requires.truth)),
    )
    refl)
