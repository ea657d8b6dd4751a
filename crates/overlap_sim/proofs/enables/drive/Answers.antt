use Rattle.microcode_asm.proofs.BusSteps.{no_drive, one_drive, all_drives}
use Rattle.overlap_sim.specs.Private.Staged.{drive_in}
use Rattle.overlap_sim.proofs.enables.drive.Goals as goal

pub loop-bus-init : goal.loop-bus-init
loop-bus-init c =
    no_drive (drive_in c.args.unit c.args.stage) c.args.transfers.now c.buses_of-left.result.bits c.args.enables.now
    c.buses_of-left.ensures

pub loop-bus-preserved : goal.loop-bus-preserved
loop-bus-preserved c =
    one_drive (drive_in c.args.unit c.args.stage) c.args.transfers.now c.loop-bus.left.bits
    c.pop_first.new.self.bits c.in-Some.bus c.args.enables.now c.loop-bus.enables c.push.new.self
    c.in_ok-push.ensures.ok c.in-Some.ensures.first c.loop-bus.invariant

pub returns : goal.returns
returns c =
    all_drives (drive_in c.args.unit c.args.stage) c.args.transfers.now c.loop-bus.left.bits c.args.enables.now
    c.loop-bus.enables c.in_default.ensures.first c.loop-bus.invariant
