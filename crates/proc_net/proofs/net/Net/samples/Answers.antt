use Rattle.std.proofs.Common.{◌≡◌, ℕ, ◌||◌, length, ap, sym, ◌∙◌, subst, arith}
use Rattle.proc_net.specs.Nets.{NetState}
use Rattle.proc_net.specs.Private.Views.{net_of}
use Rattle.proc_net.specs.Private.States.{IsState}
use Rattle.proc_net.proofs.Samples.{IsSoFar, none_so_far, one_sample_more, after_one, after_none, samples_points}
use Rattle.proc_net.proofs.Samples.{samples_run, samples_rise, samples_bound}
use Rattle.proc_net.proofs.net.Net.samples.Goals as goal
use Rattle.proc_net.proofs.net.Net.samples.Goals.{then-sample, else-sample}

pub loop-p-init : goal.loop-p-init
loop-p-init c =
    subst (λ (net : NetState). IsSoFar net net 0 _) c.self.view_is (none_so_far (net_of c.self.inside) c.self.invariant)

pub loop-p-preserved : goal.loop-p-preserved
loop-p-preserved c =
    elim c.if-sample.branch [
      | then-sample w ↦
          one_sample_more c.args.self.now c.loop-p.self c.sample.new.self c.loop-p.p c.loop-p.moved
          c.sample.result c.if-sample.moved c.loop-p.invariant c.sample.ensures.turns c.sample.ensures.unchanged
          c.sample.ensures.at
          (w.moved-is ∙ after_one c.loop-p.moved ∙ ap (λ b. c.loop-p.moved || b) (sym w.if-sample.true))
      | else-sample w ↦
          one_sample_more c.args.self.now c.loop-p.self c.sample.new.self c.loop-p.p c.loop-p.moved
          c.sample.result c.if-sample.moved c.loop-p.invariant c.sample.ensures.turns c.sample.ensures.unchanged
          c.sample.ensures.at
          (w.moved-is ∙ after_none c.loop-p.moved ∙ ap (λ b. c.loop-p.moved || b) (sym w.if-sample.false))
    ]

state : (c : goal.After-loop-p) → IsState c.args.self.now
state c = subst IsState c.self.view_is c.self.invariant

-- after the samples of all
whole : (c : goal.After-loop-p)
    → IsSoFar c.args.self.now c.loop-p.self (length c.args.self.now.processors) c.loop-p.moved
whole c =
    let count : c.loop-p.p ≡ length c.args.self.now.processors =
    omega (
      arith,
      c.loop-p-test.false,
      c.loop-p.auto.p-end,
      c.len-p-end.ensures,
      ap (λ (net : NetState). length net.processors) c.self.view_is,
    ) in
    subst (λ (n : ℕ). IsSoFar c.args.self.now c.loop-p.self n c.loop-p.moved) count c.loop-p.invariant

pub returns-clause-parts : goal.returns-clause-parts
returns-clause-parts c = c.loop-p.invariant.took.parts

pub returns-clause-points : goal.returns-clause-points
returns-clause-points c = samples_points c.args.self.now c.loop-p.self c.loop-p.moved (state c) (whole c)

pub returns-clause-ran : goal.returns-clause-ran
returns-clause-ran c = samples_run c.args.self.now c.loop-p.self c.loop-p.moved (state c) (whole c)

pub returns-clause-unchanged : goal.returns-clause-unchanged
returns-clause-unchanged c = c.loop-p.invariant.stays

pub returns-clause-rises : goal.returns-clause-rises
returns-clause-rises c = samples_rise c.args.self.now c.loop-p.self c.loop-p.moved (state c) (whole c)

pub returns-clause-bound : goal.returns-clause-bound
returns-clause-bound c = samples_bound c.args.self.now c.loop-p.self c.loop-p.moved (state c) (whole c)

pub returns-clause-at : goal.returns-clause-at
returns-clause-at c = c.loop-p.invariant.at
