use Rattle.std.proofs.Common.{rules, arith, refl, ℕ, below_more, IsTrue}
use Rattle.given_registers.specs.Private.Words.{IsWordApart}
use Rattle.given_registers.proofs.Apart.{apart_of, words_of}
use Rattle.given_registers.proofs.circle.Circle.are_apart.Goals as goal

pub returns-then-not-is_word_apart : goal.returns-then-not-is_word_apart
returns-then-not-is_word_apart c = (
  λ is. absurd (cc is),
  λ apart.
      let holds : IsTrue c.is_word_apart.result =
      c.is_word_apart.ensures.1
      (words_of c.args.self.period c.args.self.samples c.args.a c.args.i c.args.b c.args.j c.requires.first
      c.requires.second apart c.loop-m.m (omega (arith, c.loop-m-test.true))) in
      absurd (grind (arith, holds, c.if-not-is_word_apart.true)),
)

pub loop-m-preserved : goal.loop-m-preserved
loop-m-preserved c =
    let holds : IsTrue c.is_word_apart.result = search rules in
    below_more
    (λ (m : ℕ). IsWordApart c.args.self.period c.args.self.samples c.args.a c.args.i c.args.b c.args.j m
    c.args.self.samples)
    c.loop-m.m c.loop-m.invariant (c.is_word_apart.ensures.0 holds)

pub returns : goal.returns
returns c = (
  λ is.
      apart_of c.args.self.period c.args.self.samples c.args.a c.args.i c.args.b c.args.j
      (λ m less. c.loop-m.invariant m (omega (arith, less, c.loop-m-test.false))),
  λ apart. refl,
)
