use Rattle.std.proofs.Common.{◌≡◌, length}
use Rattle.overlap_plan.specs.IsStagePlan.{plan_of}
use Rattle.overlap_sim.specs.Private.Staged.{ArePortRegisters}
use Rattle.overlap_sim.proofs.issues.Issuer.registers.Given as goal

abbrev pub invariant-loop-port : goal.invariant-loop-port
invariant-loop-port l = record {
  count : length l.regs ≡ l.port;
  each : ArePortRegisters l.self.datapath.now (plan_of l.self.plan.now) l.bound.node l.m l.regs;
}
