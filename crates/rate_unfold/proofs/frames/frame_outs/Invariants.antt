use Rattle.std.proofs.Common.{◌≡◌}
use Rattle.std.specs.Prelude.{slice_index_or}
use Rattle.rate_unfold.specs.Frames.{frame}
use Rattle.rate_unfold.specs.Unfolded.{in_phase}
use Rattle.rate_unfold.proofs.frames.frame_outs.Given as goal

abbrev pub invariant-loop-word : goal.invariant-loop-word
invariant-loop-word l = l.row ≡ frame l.phases l.slow l.word (λ i j. in_phase l.elements j (slice_index_or l.outs i 0))
