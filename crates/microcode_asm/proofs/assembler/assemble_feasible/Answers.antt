use Rattle.micro_image.specs.Size.{IsShort}
use Rattle.micro_image.specs.Valid.{IsValid}
use Rattle.plan_soundness.specs.ImageOf.{IsImageOf}
use Rattle.plan_soundness.specs.Run.{RunsSolution}
use Rattle.plan_soundness.proofs.RunsSolution.{feasible_runs}
use Rattle.microcode_asm.proofs.ImageSteps.{if_ok}
use Rattle.microcode_asm.proofs.ReadyPlans.{assemblable_ready, assemblable_valid, assemblable_short}
use Rattle.microcode_asm.proofs.assembler.assemble_feasible.Goals as goal

pub image_of-requires : goal.image_of-requires
image_of-requires c =
    assemblable_ready c.args.datapath.now c.args.plan.now c.requires.datapath c.requires.plan

pub returns-clause-valid : goal.returns-clause-valid
returns-clause-valid c =
    if_ok (IsImageOf c.args.datapath.now c.args.plan.now) IsValid c.image_of.result c.image_of.ensures
    (λ image of. assemblable_valid c.args.datapath.now c.args.plan.now image c.requires.datapath c.requires.plan of)

pub returns-clause-short : goal.returns-clause-short
returns-clause-short c =
    if_ok (IsImageOf c.args.datapath.now c.args.plan.now) IsShort c.image_of.result c.image_of.ensures
    (λ image of. assemblable_short c.args.datapath.now c.args.plan.now image c.requires.datapath c.requires.plan of)

pub returns-clause-runs : goal.returns-clause-runs
returns-clause-runs c g sound plan =
    if_ok (IsImageOf c.args.datapath.now c.args.plan.now) (RunsSolution g) c.image_of.result c.image_of.ensures
    (λ image of. feasible_runs g c.args.datapath.now c.args.plan.now sound plan image of)
