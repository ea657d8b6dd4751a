use Rattle.std.proofs.Common.{◌≡◌, length}
use Rattle.given_registers.specs.Around.{CanBeHad}
use Rattle.given_registers.specs.Private.Allotting.{AreOfGiven}
use Rattle.given_registers.proofs.check.allotted_of.Given as goal

abbrev pub invariant-loop-n : goal.invariant-loop-n
invariant-loop-n l = record {
  count : length l.allotted.items ≡ l.n;
  allotted : AreOfGiven l.given l.arcs l.allotted.items;
  can : CanBeHad l.datapath l.circle.samples l.given l.arcs l.n;
}
