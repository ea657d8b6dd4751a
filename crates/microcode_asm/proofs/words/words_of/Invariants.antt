use Rattle.microcode_asm.specs.Private.Words.{AreWords}
use Rattle.microcode_asm.proofs.words.words_of.Given as goal

abbrev pub invariant-loop-n : goal.invariant-loop-n
invariant-loop-n l = AreWords l.issuer.datapath.now l.issuer.plan.now l.n l.words
