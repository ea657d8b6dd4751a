use Rattle.given_registers.specs.Private.Allotting.{AreAllottedUpTo}
use Rattle.given_registers.proofs.around.registers_of.Given as goal

abbrev pub invariant-loop-k : goal.invariant-loop-k
invariant-loop-k l =
    AreAllottedUpTo l.datapath l.circle.samples l.given l.arcs l.k l.allotted.items l.regs
