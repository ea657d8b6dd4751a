use Rattle.std.proofs.Common.{ℕ, below_more}
use Rattle.given_registers.specs.Private.Allotting.{IsClear}
use Rattle.given_registers.proofs.around.first_clear.Goals as goal

pub loop-register-preserved : goal.loop-register-preserved
loop-register-preserved c =
    let met = c.is_clear.ensures.met c.if-is_clear.false in
    below_more
    (λ (q : ℕ).
    IsClear c.args.circle.period c.args.circle.samples c.args.arcs.now c.args.allotted.now c.args.k c.args.copy q → ⊥)
    c.loop-register.register c.loop-register.invariant (λ clear. met.meet (clear met.t met.there))
