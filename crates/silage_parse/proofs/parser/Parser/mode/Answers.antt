use Rattle.silage_parse.specs.Private.ParseTable.{Expand, Mode_, AfterRound}
use Rattle.silage_parse.specs.Private.Parsed.{effect}
use Rattle.silage_parse.proofs.Steps.{refl, sym, [], ◌∷◌, start, matches, does, first, second, other_of_two}
use Rattle.silage_parse.proofs.Steps.{stops_at, whole, fault_is}
use Rattle.silage_parse.specs.Private.ParseTable as the
use Rattle.silage_parse.proofs.parser.Parser.mode.Goals as goal

pub returns-in_err-advance : goal.returns-in_err-advance
returns-in_err-advance c =
    rw (fault_is c.from_residual.result c.from_residual.ensures.1)
    (stops_at _
    (first (start (Expand (Mode_ (effect c.args.effect)) ∷ []) c.args.self.now []) refl
    (sym c.if-is_reserved.ensures.value)) (c.in_err-advance.ensures _ (sym c.if-is_reserved.ensures.value)))

pub returns-then-is_reserved : goal.returns-then-is_reserved
returns-then-is_reserved c =
    does (matches
    (first (start (Expand (Mode_ (effect c.args.effect)) ∷ []) c.args.self.now []) refl
    (sym c.if-is_reserved.ensures.value))
    (c.in_ok-advance.ensures.as_one_of _ (sym c.if-is_reserved.ensures.value)))
    (λ under. refl)

pub returns-in_err-advance-2 : goal.returns-in_err-advance-2
returns-in_err-advance-2 c =
    rw (fault_is c.from_residual-in_err-advance-2.result c.from_residual-in_err-advance-2.ensures.1)
    (stops_at _
    (second (start (Expand (Mode_ (effect c.args.effect)) ∷ []) c.args.self.now []) refl
    (sym c.if-is_reserved.ensures.value) (sym c.if-is_reserved-2.ensures.value))
    (c.in_err-advance-2.ensures _ (sym c.if-is_reserved-2.ensures.value)))

pub returns-then-is_reserved-2 : goal.returns-then-is_reserved-2
returns-then-is_reserved-2 c =
    does (matches
    (second (start (Expand (Mode_ (effect c.args.effect)) ∷ []) c.args.self.now []) refl
    (sym c.if-is_reserved.ensures.value) (sym c.if-is_reserved-2.ensures.value))
    (c.in_ok-advance-2.ensures.as_one_of _ (sym c.if-is_reserved-2.ensures.value)))
    (λ under. refl)

pub returns-in_err-expect_reserved : goal.returns-in_err-expect_reserved
returns-in_err-expect_reserved c =
    rw (fault_is c.from_residual-in_err-expect_reserved.result c.from_residual-in_err-expect_reserved.ensures.1)
    (stops_at _
    (other_of_two (start (Expand (Mode_ (effect c.args.effect)) ∷ []) c.args.self.now []) refl
    (sym c.if-is_reserved.ensures.value) (sym c.if-is_reserved-2.ensures.value))
    c.in_err-expect_reserved.ensures)

pub returns : goal.returns
returns c =
    let round = c.in_ok-expect_reserved.ensures in
    whole (Expand (AfterRound (effect c.args.effect)) ∷ []) (the.token round.token ∷ []) (λ m. the.mode m ∷ []) _
    c.mode_end.result
    (matches
    (other_of_two (start (Expand (Mode_ (effect c.args.effect)) ∷ []) c.args.self.now []) refl
    (sym c.if-is_reserved.ensures.value) (sym c.if-is_reserved-2.ensures.value)) round)
    (c.mode_end.ensures round.token)
