use Rattle.microcode_asm.proofs.ImageSteps.{if_ok}
use Rattle.placed_plan.specs.Places.{IsGiven, IsNarrow}
use Rattle.plan_soundness.specs.Units.{IsRouted}
use Rattle.overlap_plan.specs.IsStagePlan.{plan_of}
use Rattle.overlap_plan.specs.declared.plan.StagePlan.{StagePlan}
use Rattle.overlap_sim.specs.Guardable.{IsFeasibleStagePlan}
use Rattle.placed_stages.specs.StagePlaces.{IsStagePlanAt}
use Rattle.placed_stages.proofs.PlansAt.{at_feasible, at_routed, at_narrow, at_given, rules_at}
use Rattle.placed_stages.proofs.passes.stage_plan_at.Goals as goal

pub returns-clause-feasible : goal.returns-clause-feasible
returns-clause-feasible c =
    if_ok (IsStagePlanAt c.args.places.now c.args.graph.now c.args.datapath.now c.args.stages)
    (IsFeasibleStagePlan c.args.graph.now c.args.datapath.now) c.planned_at.result c.planned_at.ensures.plan
    (at_feasible c.args.graph.now c.args.datapath.now c.args.stages c.args.places.now c.requires.datapath
    c.requires.sound c.requires.stages.0)

pub returns-clause-routed : goal.returns-clause-routed
returns-clause-routed c =
    if_ok (IsStagePlanAt c.args.places.now c.args.graph.now c.args.datapath.now c.args.stages)
    (λ (plan : StagePlan). IsRouted c.args.datapath.now (plan_of plan)) c.planned_at.result c.planned_at.ensures.plan
    (at_routed c.args.graph.now c.args.datapath.now c.args.stages c.args.places.now c.requires.datapath
    c.requires.sound c.requires.stages.0)

pub returns-clause-narrow : goal.returns-clause-narrow
returns-clause-narrow c =
    if_ok (IsStagePlanAt c.args.places.now c.args.graph.now c.args.datapath.now c.args.stages)
    (λ (plan : StagePlan). IsNarrow c.args.datapath.now (plan_of plan)) c.planned_at.result c.planned_at.ensures.plan
    (at_narrow c.args.graph.now c.args.datapath.now c.args.stages c.args.places.now c.requires.datapath
    c.requires.sound c.requires.stages.0)

pub returns-clause-given : goal.returns-clause-given
returns-clause-given c =
    if_ok (IsStagePlanAt c.args.places.now c.args.graph.now c.args.datapath.now c.args.stages)
    (λ (plan : StagePlan). IsGiven c.args.places.now (plan_of plan)) c.planned_at.result c.planned_at.ensures.plan
    (at_given c.args.graph.now c.args.datapath.now c.args.stages c.args.places.now c.requires.datapath
    c.requires.sound c.requires.stages.0)

pub returns-clause-ordinary : goal.returns-clause-ordinary
returns-clause-ordinary c =
    λ p is given.
    c.planned_at.ensures.found p
    (rules_at c.args.graph.now c.args.datapath.now c.args.stages c.args.places.now c.requires.datapath c.requires.sound
    c.requires.stages.0 p is given)
