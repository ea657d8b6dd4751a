use Rattle.std.proofs.Common.{◌∙◌, ap, ◌%◌, ◌+◌, ℕ}
use Rattle.equation_eval.proofs.Arithmetic.{masked}
use Rattle.equation_eval.proofs.memory.Mask.wrap.Goals as goal

pub returns-clause-value : goal.returns-clause-value
returns-clause-value c = masked c.args.time c.self.inside.bits c.self.invariant
    ∙ ap (λ (mask : ℕ). c.args.time % (mask + 1)) c.self.view_is
