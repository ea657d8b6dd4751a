use Rattle.given_registers.proofs.Apart.{AreWordsApart}
use Rattle.given_registers.proofs.circle.Circle.are_apart.Given as goal

abbrev pub invariant-loop-m : goal.invariant-loop-m
invariant-loop-m l = AreWordsApart l.self.period l.self.samples l.a l.i l.b l.j l.m
