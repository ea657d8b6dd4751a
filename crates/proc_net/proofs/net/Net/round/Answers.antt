use Rattle.std.proofs.Common.{◌≡◌, ℕ, length, ap, sym, ◌∙◌, subst, arith}
use Rattle.std.proofs.lemmas.Bool.{false≢true}
use Rattle.net_turns.specs.Turns.{lacks}
use Rattle.net_solution.specs.Solutions.{shape_of}
use Rattle.proc_net.specs.Nets.{NetState, parts_of, points_of}
use Rattle.proc_net.specs.Private.Views.{net_of}
use Rattle.proc_net.specs.Private.States.{IsState}
use Rattle.proc_net.proofs.Rounding.{IsSoFar, none_so_far, one_turn_more, ran_more, lacked_more, ran_says, round_points}
use Rattle.proc_net.proofs.Rounding.{round_runs, round_moves, round_rises, round_bound, round_enough}
use Rattle.proc_net.proofs.net.Net.round.Goals as goal
use Rattle.proc_net.proofs.net.Net.round.Goals.{then-has_run, else-has_run}

pub loop-number-init : goal.loop-number-init
loop-number-init c =
    subst (λ (net : NetState). IsSoFar net net 0 _) c.self.view_is (none_so_far (net_of c.self.inside) c.self.invariant)

pub loop-number-preserved : goal.loop-number-preserved
loop-number-preserved c =
    elim c.if-has_run.branch [
      | then-has_run w ↦
          let none =
          ran_says c.turn.result (lacks (shape_of (parts_of c.loop-number.self)) (points_of c.loop-number.self)
          c.loop-number.number) (c.has_run.ensures.ran w.if-has_run.true) c.turn.ensures.ran in
          one_turn_more c.args.self.now c.loop-number.self c.turn.new.self c.loop-number.number c.loop-number.moved
          c.if-has_run.moved c.loop-number.invariant c.turn.ensures.parts c.turn.ensures.points
          (w.moved-is ∙ ran_more c.loop-number.moved _ none)
          (λ still. absurd (false≢true (sym still ∙ w.moved-is))) c.turn.ensures.at
      | else-has_run w ↦
          let lacking = c.has_run.ensures.lacks w.if-has_run.false in
          one_turn_more c.args.self.now c.loop-number.self c.turn.new.self c.loop-number.number c.loop-number.moved
          c.if-has_run.moved c.loop-number.invariant c.turn.ensures.parts c.turn.ensures.points
          (w.moved-is ∙ lacked_more c.loop-number.moved _ (c.turn.ensures.ran.0 lacking))
          (λ still. c.turn.ensures.unchanged lacking) c.turn.ensures.at
    ]

state : (c : goal.After-loop-number) → IsState c.args.self.now
state c = subst IsState c.self.view_is c.self.invariant

-- after the turns of all
whole : (c : goal.After-loop-number)
    → IsSoFar c.args.self.now c.loop-number.self (length c.args.self.now.processors) c.loop-number.moved
whole c =
    let count : c.loop-number.number ≡ length c.args.self.now.processors =
    omega (
      arith,
      c.loop-number-test.false,
      c.loop-number.auto.number-end,
      c.len-number-end.ensures,
      ap (λ (net : NetState). length net.processors) c.self.view_is,
    ) in
    subst (λ (n : ℕ). IsSoFar c.args.self.now c.loop-number.self n c.loop-number.moved) count c.loop-number.invariant

pub returns-clause-parts : goal.returns-clause-parts
returns-clause-parts c = c.loop-number.invariant.parts

pub returns-clause-points : goal.returns-clause-points
returns-clause-points c =
    round_points c.args.self.now c.loop-number.self c.loop-number.moved (state c) (whole c)

pub returns-clause-ran : goal.returns-clause-ran
returns-clause-ran c = round_runs c.args.self.now c.loop-number.self c.loop-number.moved (state c) (whole c)

pub returns-clause-unchanged : goal.returns-clause-unchanged
returns-clause-unchanged c = c.loop-number.invariant.stays

pub returns-clause-moves : goal.returns-clause-moves
returns-clause-moves c =
    round_moves c.args.self.now c.loop-number.self c.loop-number.moved (state c) (whole c)

pub returns-clause-rises : goal.returns-clause-rises
returns-clause-rises c =
    round_rises c.args.self.now c.loop-number.self c.loop-number.moved (state c) (whole c)

pub returns-clause-bound : goal.returns-clause-bound
returns-clause-bound c =
    round_bound c.args.self.now c.loop-number.self c.loop-number.moved (state c) (whole c)

pub returns-clause-enough : goal.returns-clause-enough
returns-clause-enough c =
    round_enough c.args.self.now c.loop-number.self c.loop-number.moved (state c) (whole c)

pub returns-clause-at : goal.returns-clause-at
returns-clause-at c = c.loop-number.invariant.at
