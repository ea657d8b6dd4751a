use Rattle.micro_image.specs.declared.image.Image.{Image}
use Rattle.plan_soundness.specs.ImageOf.{IsImageOf}
use Rattle.microcode_asm.specs.Private.Starts.{AreStarted, AreUnitsOf, ArePreloaded}
use Rattle.microcode_asm.proofs.starts.start_registers.Given as goal

abbrev pub invariant-loop-ago : goal.invariant-loop-ago
invariant-loop-ago l = record {
  units : AreUnitsOf l.datapath l.units;
  started : (image : Image) → IsImageOf l.datapath l.plan image
      → AreStarted l.datapath l.plan image l.k 0 l.fn.units
      → ArePreloaded l.datapath l.plan image l.k l.ago l.units;
}
