use Rattle.std.proofs.Common.{length}
use Rattle.micro_image.specs.declared.image.Image.{Image}
use Rattle.plan_soundness.specs.ImageOf.{IsImageOf}
use Rattle.microcode_asm.specs.Private.Starts.{AreStarted, AreUnitsOf}
use Rattle.microcode_asm.proofs.starts.start_all.Given as goal

abbrev pub invariant-loop-k : goal.invariant-loop-k
invariant-loop-k l = record {
  units : AreUnitsOf l.datapath l.units;
  started : (image : Image) → IsImageOf l.datapath l.plan image
      → AreStarted l.datapath l.plan image 0 0 l.fn.units
      → AreStarted l.datapath l.plan image l.k 0 l.units;
}

abbrev pub invariant-loop-l : goal.invariant-loop-l
invariant-loop-l l = record {
  units : AreUnitsOf l.datapath l.units;
  started : (image : Image) → IsImageOf l.datapath l.plan image
      → AreStarted l.datapath l.plan image 0 0 l.fn.units
      → AreStarted l.datapath l.plan image (length l.plan.arcs) l.l l.units;
}
