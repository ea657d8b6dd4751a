use Rattle.silage_parse.specs.Private.Parsed.{expr_value, branches_value, choice_end}
use Rattle.silage_parse.proofs.Steps.{refl, [], ◌∷◌, start, matches, does, stops_at, fault_is}
use Rattle.silage_parse.specs.Private.ParseTable as the
use Rattle.silage_parse.proofs.parser.Parser.choice_end.Goals as goal

pub returns-in_err-expect_reserved : goal.returns-in_err-expect_reserved
returns-in_err-expect_reserved c = λ bar at bs.
    rw (fault_is c.from_residual.result c.from_residual.ensures.1)
    (stops_at _ (start choice_end c.args.self.now (expr_value c.args.last ∷ the.token bar ∷ branches_value at bs ∷ []))
    c.in_err-expect_reserved.ensures)

pub returns : goal.returns
returns c = λ bar at bs.
    does (matches
    (start choice_end c.args.self.now (expr_value c.args.last ∷ the.token bar ∷ branches_value at bs ∷ []))
    c.in_ok-expect_reserved.ensures)
    (λ under. rw c.in_ok-new.ensures.ok refl)
