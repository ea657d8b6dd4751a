use Rattle.std.proofs.Common.{◌≡◌, ℕ, ◌<◌}
use Rattle.given_registers.specs.Private.Words.{IsPairApart}
use Rattle.given_registers.proofs.circle.Circle.is_word_apart.Given as goal

abbrev pub invariant-loop-n : goal.invariant-loop-n
invariant-loop-n l = (n : ℕ) → n < l.n → IsPairApart l.self.period l.self.samples l.a l.b l.j l.m n
