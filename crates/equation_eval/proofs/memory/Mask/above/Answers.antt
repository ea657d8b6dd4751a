use Rattle.std.proofs.Common.{◌<◌, arith}
use Rattle.equation_eval.proofs.Layouts.{grown}
use Rattle.equation_eval.proofs.memory.Mask.above.Goals as goal

pub loop-bits-preserved : goal.loop-bits-preserved
loop-bits-preserved c =
    let less : c.loop-bits.bits < c.args.delay = omega arith in
    grown c.loop-bits.bits c.args.delay c.loop-bits.invariant less c.requires
