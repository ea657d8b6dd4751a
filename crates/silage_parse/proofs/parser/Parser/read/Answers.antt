use Rattle.silage_parse.specs.Private.ParseTable.{Subs, SecondSub, Expand, Primary}
use Rattle.silage_parse.proofs.Steps.{refl, [], ◌∷◌, taken_from, taken_name, start, matches, parses, does, first}
use Rattle.silage_parse.proofs.Steps.{stops_at, computes, fault_is}
use Rattle.silage_parse.proofs.parser.Parser.read.Goals as goal

pub returns-in_err-name : goal.returns-in_err-name
returns-in_err-name c =
    rw (fault_is c.from_residual.result c.from_residual.ensures.1)
    (stops_at _ (first (start (Expand Primary ∷ []) c.args.self.now []) refl c.requires) c.in_err-name.ensures)

pub returns-in_err-subs : goal.returns-in_err-subs
returns-in_err-subs c =
    rw (fault_is c.from_residual-in_err-subs.result c.from_residual-in_err-subs.ensures.1)
    (stops_at _
    (matches (first (start (Expand Primary ∷ []) c.args.self.now []) refl c.requires) c.in_ok-name.ensures.0)
    (c.in_err-subs.ensures Subs SecondSub (record { none = refl; one = refl })))

pub returns-in_err-delay : goal.returns-in_err-delay
returns-in_err-delay c =
    rw (fault_is c.from_residual-in_err-delay.result c.from_residual-in_err-delay.ensures.1)
    (stops_at _
    (computes
    (parses (matches (first (start (Expand Primary ∷ []) c.args.self.now []) refl c.requires) c.in_ok-name.ensures.0)
    (c.in_ok-subs.ensures Subs SecondSub (record { none = refl; one = refl }))) (λ under. refl))
    c.in_err-delay.ensures)

pub returns : goal.returns
returns c =
    does (parses
    (computes
    (parses
    (matches (first (start (Expand Primary ∷ []) c.args.self.now []) refl c.requires) c.in_ok-name.ensures.0)
    (c.in_ok-subs.ensures Subs SecondSub (record { none = refl; one = refl }))) (λ under. refl))
    c.in_ok-delay.ensures) (λ under.
    rw (
      taken_name c.in_ok-name.ensures.0 c.in_ok-name.ensures.1,
      c.start-at.ensures,
      taken_from c.in_ok-name.ensures.0,
    )
    refl)
