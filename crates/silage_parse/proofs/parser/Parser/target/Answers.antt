use Rattle.silage_parse.specs.Private.ParseTable.{TargetSubs, SecondTargetSub, Expand, Target}
use Rattle.silage_parse.proofs.Steps.{refl, [], ◌∷◌, arith, taken_from, taken_name, start, matches, parses, does, only}
use Rattle.silage_parse.proofs.Steps.{stops_at, fault_is}
use Rattle.silage_parse.proofs.parser.Parser.target.Goals as goal

pub returns-in_err-name-clause-read : goal.returns-in_err-name-clause-read
returns-in_err-name-clause-read c =
    rw (fault_is c.from_residual.result c.from_residual.ensures.1)
    (stops_at _ (only (start (Expand Target ∷ []) c.args.self.now []) refl) c.in_err-name.ensures)

pub returns-in_err-subs-clause-read : goal.returns-in_err-subs-clause-read
returns-in_err-subs-clause-read c =
    rw (fault_is c.from_residual-in_err-subs.result c.from_residual-in_err-subs.ensures.1)
    (stops_at _ (matches (only (start (Expand Target ∷ []) c.args.self.now []) refl) c.in_ok-name.ensures.0)
    (c.in_err-subs.ensures TargetSubs SecondTargetSub (record { none = refl; one = refl })))

pub returns-clause-advances : goal.returns-clause-advances
returns-clause-advances c =
    let subs = c.in_ok-subs.ensures TargetSubs SecondTargetSub (record { none = refl; one = refl }) in
    omega (arith, subs.order, c.in_ok-name.ensures.0.one)

pub returns-clause-read : goal.returns-clause-read
returns-clause-read c =
    does (parses (matches (only (start (Expand Target ∷ []) c.args.self.now []) refl) c.in_ok-name.ensures.0)
    (c.in_ok-subs.ensures TargetSubs SecondTargetSub (record { none = refl; one = refl }))) (λ under.
    rw (
      taken_name c.in_ok-name.ensures.0 c.in_ok-name.ensures.1,
      ← (taken_from c.in_ok-name.ensures.0),
      ← c.start-at.ensures,
    )
    refl)
