use Rattle.microcode_asm.specs.Private.Words.{AreBehind}
use Rattle.microcode_asm.proofs.words.put_words.Given as goal

abbrev pub invariant-loop-c : goal.invariant-loop-c
invariant-loop-c l = AreBehind l.issuer.datapath.now l.issuer.plan.now l.n l.c l.fn.words l.words
