use Rattle.std.proofs.Common.{◌+◌, ◌∙◌, ap, sym, subst, length, [], ◌∷◌}
use Rattle.std.proofs.lemmas.List.{length-append}
use Rattle.overlap_plan.specs.IsStagePlan.{plan_of}
use Rattle.overlap_sim.specs.Private.Staged.{ArePortRegisters}
use Rattle.overlap_sim.proofs.StagedSteps.{one_more_register}
use Rattle.overlap_sim.proofs.issues.Issuer.registers.Goals as goal

pub loop-port-preserved : goal.loop-port-preserved
loop-port-preserved c = record {
  count = ap length c.in_ok-push.ensures.ok ∙ length-append c.loop-port.regs (c.register.result ∷ [])
      ∙ ap (λ n. n + 1) c.loop-port.invariant.count;
  each = subst
      (ArePortRegisters c.args.self.now.datapath.now (plan_of c.args.self.now.plan.now) c.args.bound.node c.args.m)
      (sym c.in_ok-push.ensures.ok)
      (one_more_register c.args.self.now.datapath.now c.args.self.now.plan.now c.requires.issuer.ready
      c.args.bound.node c.args.m c.loop-port.port c.register.result c.loop-port.regs c.loop-port.invariant.count
      c.loop-port.invariant.each c.register.ensures);
}
