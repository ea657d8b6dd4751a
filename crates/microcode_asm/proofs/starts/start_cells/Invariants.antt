use Rattle.std.proofs.Common.{length}
use Rattle.micro_image.specs.declared.image.Image.{Image}
use Rattle.plan_soundness.specs.ImageOf.{IsImageOf}
use Rattle.microcode_asm.specs.Private.Starts.{AreStarted, AreUnitsOf, AreCellsPut}
use Rattle.microcode_asm.proofs.starts.start_cells.Given as goal

abbrev pub invariant-loop-ago : goal.invariant-loop-ago
invariant-loop-ago l = record {
  units : AreUnitsOf l.datapath l.units;
  started : (image : Image) → IsImageOf l.datapath l.plan image
      → AreStarted l.datapath l.plan image (length l.plan.arcs) l.l l.fn.units
      → AreCellsPut l.datapath l.plan image l.l l.ago-index l.units;
}
