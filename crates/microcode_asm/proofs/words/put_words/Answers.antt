use Rattle.microcode_asm.proofs.WordSteps.{word_behind}
use Rattle.microcode_asm.proofs.words.put_words.Goals as goal

pub loop-c-preserved : goal.loop-c-preserved
loop-c-preserved c =
    word_behind c.args.issuer.now.datapath.now c.args.issuer.now.plan.now c.args.n c.loop-c.c c.in_ok-word.field-0
    c.args.words.now c.loop-c.words c.push.new.self c.in_ok-push.ensures.ok c.in_ok-word.ensures c.loop-c.invariant
