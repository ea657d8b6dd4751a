use Rattle.std.proofs.Common.{◌≡◌, take, map}
use Rattle.microcode_asm.specs.Units.{blank_unit}
use Rattle.microcode_asm.proofs.units.blank_units.Given as goal

abbrev pub invariant-loop-unit : goal.invariant-loop-unit
invariant-loop-unit l = l.units ≡ map blank_unit (take l.unit-index l.datapath.units)
