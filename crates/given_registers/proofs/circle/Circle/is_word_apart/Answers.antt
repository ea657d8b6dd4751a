use Rattle.std.proofs.Common.{rules, ℕ, below_more, IsTrue}
use Rattle.given_registers.specs.Private.Words.{IsPairApart}
use Rattle.given_registers.proofs.circle.Circle.is_word_apart.Goals as goal

pub loop-n-preserved : goal.loop-n-preserved
loop-n-preserved c =
    let holds : IsTrue c.is_pair_apart.result = search rules in
    below_more
    (λ (n : ℕ). IsPairApart c.args.self.period c.args.self.samples c.args.a c.args.b c.args.j c.args.m n)
    c.loop-n.n c.loop-n.invariant (c.is_pair_apart.ensures.0 holds)
