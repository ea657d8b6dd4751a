use Rattle.std.proofs.Math.Facts.{to_z-of_z}
use Rattle.microcode_asm.proofs.HeldSteps.{wrote_register}
use Rattle.microcode_asm.proofs.units.write_register.Goals as goal

pub returns : goal.returns
returns c =
    wrote_register c.args.units.now c.args.port.unit c.args.port.port c.args.reg c.from.result c.from-2.result
    c.from-3.result c.args.word _ c.index_mut-unit.result.now c.index_mut.result.now c.requires.unit
    c.requires.port c.requires.register c.from.ensures c.from-2.ensures c.from-3.ensures
    (to_z-of_z c.ranges.word) c.index_mut-unit.ensures.value c.index_mut.ensures.value
