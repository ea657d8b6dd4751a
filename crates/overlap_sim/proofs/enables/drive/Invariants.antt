use Rattle.microcode_asm.proofs.BusSteps.{DrivesSoFar}
use Rattle.overlap_sim.specs.Private.Staged.{drive_in}
use Rattle.overlap_sim.proofs.enables.drive.Given as goal

abbrev pub invariant-loop-bus : goal.invariant-loop-bus
invariant-loop-bus l = DrivesSoFar (drive_in l.unit l.stage) l.transfers l.left.bits l.fn.enables l.enables

abbrev pub decreases-loop-bus : goal.decreases-loop-bus
decreases-loop-bus l = l.left.bits
