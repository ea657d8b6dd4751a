use Rattle.std.proofs.Common.{rules, ℕ, below_more, IsTrue}
use Rattle.given_registers.specs.Private.Allotting.{allotted_at, Leaves}
use Rattle.given_registers.proofs.check.is_clear.Goals as goal

pub loop-t-preserved : goal.loop-t-preserved
loop-t-preserved c =
    let holds : IsTrue c.leaves.result = search rules in
    below_more
    (λ (s : ℕ).
    Leaves c.args.circle.period c.args.circle.samples c.args.arcs.now (allotted_at c.args.allotted.now s) c.args.k
    c.args.copy c.args.register)
    c.loop-t.t c.loop-t.invariant (c.leaves.ensures.0 holds)
