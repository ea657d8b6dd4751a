use Rattle.std.proofs.Common.{◌∙◌, sym, ap, ap₂, ◌++◌, ℕ, List, map}
use Rattle.std.specs.Prelude.{slice_index_or}
use Rattle.std.specs.List.{range_with_len}
use Rattle.rate_unfold.specs.Unfolded.{in_phase}
use Rattle.rate_unfold.proofs.FrameRows.{frame_more}
use Rattle.rate_unfold.proofs.frames.frame_outs.Goals as goal

pub loop-word-preserved : goal.loop-word-preserved
loop-word-preserved c =
    let at = λ (i j : ℕ). in_phase c.args.elements j (slice_index_or c.args.outs.now i 0) in
    let put = c.in_ok-put_outs.ensures in
    let own = ap (λ (n : ℕ). map (at c.loop-word.word) (range_with_len 0 n)) c.places_of-places.ensures in
    put ∙ ap₂ (λ (xs ys : List ℕ). xs ++ ys) c.loop-word.invariant own
    ∙ sym (frame_more c.args.phases c.args.slow.now at c.loop-word.word)
