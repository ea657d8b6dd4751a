use Rattle.std.proofs.Common.{◌≡◌, length}
use Rattle.microcode_asm.specs.Private.Words.{ArePortRegisters}
use Rattle.microcode_asm.proofs.issues.Issuer.registers.Given as goal

abbrev pub invariant-loop-port : goal.invariant-loop-port
invariant-loop-port l = record {
  count : length l.regs ≡ l.port;
  each : ArePortRegisters l.self.datapath.now l.self.plan.now l.v l.n l.regs;
}
