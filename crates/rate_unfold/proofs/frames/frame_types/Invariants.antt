use Rattle.std.proofs.Common.{◌≡◌}
use Rattle.std.specs.Prelude.{slice_index_or}
use Rattle.fix_word.specs.declared.types.SigType.TheVariants as sig
use Rattle.rate_unfold.specs.Frames.{frame}
use Rattle.rate_unfold.proofs.frames.frame_types.Given as goal

abbrev pub invariant-loop-word : goal.invariant-loop-word
invariant-loop-word l = l.row ≡ frame l.phases l.slow l.word (λ i j. slice_index_or l.types i sig.Bool)
