use Rattle.std.proofs.Common.{arith}
use Rattle.overlap_sim.proofs.Stages.{words_up_to_more, all_words_up_to}
use Rattle.overlap_sim.proofs.prologue.last_stage.Goals as goal

pub loop-word-preserved : goal.loop-word-preserved
loop-word-preserved c =
    words_up_to_more c.deref-word-items.result.now c.loop-word.word-index c.loop-word.last c.last_in-last.result
    c.word-item.result (omega arith) c.word-item.is c.loop-word.invariant c.last_in-last.ensures.least
    c.last_in-last.ensures.up_to

pub returns : goal.returns
returns c =
    all_words_up_to c.args.words.now c.deref-word-items.result.now c.loop-word.word-index c.loop-word.last
    c.deref-word-items.ensures (omega arith) c.loop-word.invariant
