use Rattle.std.proofs.Common.{◌-◌}
use Rattle.micro_image.specs.Valid.{IsValid}
use Rattle.plan_soundness.specs.Run.{RunsSolutionLate}
use Rattle.microcode_asm.proofs.ImageSteps.{if_ok}
use Rattle.overlap_plan.specs.IsStagePlan.{plan_of}
use Rattle.overlap_sim.specs.declared.guarded.Guarded.{Guarded}
use Rattle.overlap_sim.specs.Guarded.{of_guarded, unguarded}
use Rattle.overlap_sim.specs.GuardedOf.{IsGuardedOf}
use Rattle.overlap_sim.proofs.GuardSteps.{planned_guardable, stage_ready, guardable_valid, planned_runs}
use Rattle.overlap_sim.proofs.guarding.guard.Goals as goal

pub guarded_of-requires : goal.guarded_of-requires
guarded_of-requires c =
    stage_ready c.args.datapath.now c.args.plan.now c.requires.datapath
    (planned_guardable c.args.datapath.now c.args.plan.now c.requires.datapath c.requires.plan)

pub returns-clause-valid : goal.returns-clause-valid
returns-clause-valid c =
    if_ok (IsGuardedOf c.args.plan.now.stages c.args.datapath.now (plan_of c.args.plan.now))
    (λ (guarded : Guarded). IsValid (unguarded guarded)) c.guarded_of.result c.guarded_of.ensures
    (λ guarded of.
    guardable_valid c.args.datapath.now c.args.plan.now guarded c.requires.datapath
    (planned_guardable c.args.datapath.now c.args.plan.now c.requires.datapath c.requires.plan) of)

pub returns-clause-runs : goal.returns-clause-runs
returns-clause-runs c g sound plan =
    if_ok (IsGuardedOf c.args.plan.now.stages c.args.datapath.now (plan_of c.args.plan.now))
    (λ (guarded : Guarded). RunsSolutionLate (c.args.plan.now.stages - 1) g (of_guarded guarded)) c.guarded_of.result
    c.guarded_of.ensures
    (λ guarded of.
    planned_runs g c.args.datapath.now c.args.plan.now guarded c.requires.datapath c.requires.plan.some sound plan of)
