use Rattle.std.proofs.Common.{arith, ap}
use Rattle.plan_core.specs.declared.schedule.Slot.{Slot}
use Rattle.microcode_asm.proofs.SampleSteps.{slot_is}
use Rattle.overlap_plan.specs.IsStagePlan.{plan_of}
use Rattle.overlap_sim.proofs.cycles.cycle_of.Goals as goal

pub index-requires : goal.index-requires
index-requires c = omega (arith, c.requires.node, c.requires.ready.ready.slot_count)

pub returns : goal.returns
returns c =
    ap (λ (slot : Slot). slot.cycle)
    (slot_is c.args.datapath.now (plan_of c.args.plan.now) c.requires.ready.ready c.args.v c.index.result.now
    c.requires.node c.index.ensures)
