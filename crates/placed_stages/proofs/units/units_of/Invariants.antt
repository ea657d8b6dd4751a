use Rattle.std.proofs.Common.{◌≡◌, length}
use Rattle.placed_plan.specs.Private.Units.{AreFirstUnits}
use Rattle.placed_stages.proofs.units.units_of.Given as goal

abbrev pub invariant-loop-v : goal.invariant-loop-v
invariant-loop-v l = (length l.units ≡ l.v) × AreFirstUnits l.places l.datapath l.lowered l.units
