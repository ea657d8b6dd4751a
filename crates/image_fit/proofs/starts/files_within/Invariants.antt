use Rattle.std.proofs.Common.{take}
use Rattle.std.specs.List.{All}
use Rattle.fix_word.specs.Words.{IsWord}
use Rattle.image_fit.proofs.starts.files_within.Given as goal

abbrev pub invariant-loop-file : goal.invariant-loop-file
invariant-loop-file l = All (All (IsWord l.bits)) (take l.file-index l.file-items)
