use Rattle.std.proofs.Common.{◌≡◌, ◌*◌, ◌≤◌, length}
use Rattle.equation_eval.specs.Private.Rings.{AreRings}
use Rattle.equation_eval.proofs.layout.rings_of.Given as goal

abbrev pub invariant-loop-delay : goal.invariant-loop-delay
invariant-loop-delay l = record {
  count : length l.rings ≡ l.delay-index;
  most : l.base ≤ 1024 * l.delay-index;
  are_rings : AreRings l.longest l.rings l.base;
}
