use Rattle.std.proofs.Common.{◌-◌, length}
use Rattle.microcode_asm.specs.Private.Lifetimes.{IsOnWay}
use Rattle.microcode_asm.proofs.lifetimes.lifetime_at.Given as goal

abbrev pub invariant-loop-port : goal.invariant-loop-port
invariant-loop-port l = IsOnWay l.arcs l.node l.port l.k

abbrev pub decreases-loop-port : goal.decreases-loop-port
decreases-loop-port l = length l.arcs - l.k
