use Rattle.std.proofs.Common.{◌≡◌, ℕ, ◌<◌, length}
use Rattle.micro_image.specs.Fields.{nth}
use Rattle.micro_image.specs.Log.{modulus_of}
use Rattle.cycle_sim.specs.Private.Rings.{IsRing, no_ring}
use Rattle.cycle_sim.specs.Microcode.{micro_of}
use Rattle.cycle_sim.proofs.rings.initial_rings.Given as goal

abbrev pub invariant-loop-unit : goal.invariant-loop-unit
invariant-loop-unit l = record {
  count : length l.rings ≡ l.unit;
  each : (u : ℕ) → u < l.unit → IsRing (modulus_of (micro_of l.code) u) 0 (nth l.rings u no_ring);
}
