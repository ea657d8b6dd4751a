use Rattle.std.proofs.Common.{◌≡◌, map, take}
use Rattle.overlap_sim.specs.Guarded.{unguarded_word}
use Rattle.overlap_sim.proofs.prologue.whole_words.Given as goal

abbrev pub invariant-loop-word : goal.invariant-loop-word
invariant-loop-word l = l.whole ≡ map unguarded_word (take l.word-index l.word-items)
