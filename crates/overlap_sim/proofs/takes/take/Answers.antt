use Rattle.std.proofs.Common.{arith}
use Rattle.microcode_asm.proofs.SampleSteps.{bus_there, copies_some, copy_room, take_for}
use Rattle.overlap_plan.specs.IsStagePlan.{plan_of}
use Rattle.overlap_sim.proofs.StagedSteps.{staged_take_for}
use Rattle.overlap_sim.proofs.takes.take.Goals as goal

pub bus_to-requires : goal.bus_to-requires
bus_to-requires c =
    bus_there c.args.datapath.now (plan_of c.args.plan.now) c.requires.ready.ready c.args.k c.index-arc.result.now
    c.index-slot.result.now c.as_slice.result.now c.requires.there c.index-arc.ensures c.index-slot.ensures
    c.as_slice.ensures

pub copy_in-requires : goal.copy_in-requires
copy_in-requires c =
    copies_some c.args.datapath.now (plan_of c.args.plan.now) c.requires.ready.ready c.args.k
    c.index-arc.result.now c.requires.there c.index-arc.ensures

pub index-requires-2 : goal.index-requires-2
index-requires-2 c = (
  omega arith,
  copy_room c.args.datapath.now (plan_of c.args.plan.now) c.requires.ready.ready c.args.k c.args.m c.copy_in.result
      c.index-arc.result.now c.index.result.now c.requires.there c.index-arc.ensures c.copy_in.ensures c.index.ensures,
)

pub returns : goal.returns
returns c =
    staged_take_for c.args.datapath.now c.args.plan.now c.requires.ready c.args.k c.args.m c.shift_of-stage.result _
    c.shift_of-stage.ensures
    (take_for c.args.datapath.now (plan_of c.args.plan.now) c.requires.ready.ready c.args.k c.args.m
    c.bus_to.result c.index-2.result.now c.copy_in.result c.index-arc.result.now c.index-slot.result.now
    c.as_slice.result.now c.index.result.now c.requires.there c.index-arc.ensures c.index-slot.ensures
    c.as_slice.ensures c.bus_to.ensures c.copy_in.ensures c.index.ensures c.index-2.ensures)
