use Rattle.std.proofs.Common.{◌∙◌, sym, ap₂, ◌++◌, ℕ, List, map}
use Rattle.std.specs.Prelude.{slice_index_or}
use Rattle.std.specs.List.{range_with_len}
use Rattle.fix_word.specs.declared.types.SigType.{SigType}
use Rattle.fix_word.specs.declared.types.SigType.TheVariants as sig
use Rattle.rate_unfold.proofs.FrameRows.{frame_more}
use Rattle.rate_unfold.proofs.frames.frame_types.Goals as goal

pub loop-word-preserved : goal.loop-word-preserved
loop-word-preserved c =
    let at = λ (i j : ℕ). slice_index_or c.args.types.now i sig.Bool in
    let put = c.in_ok-put_types.ensures in
    let own = ap₂ (λ (n : ℕ) (ty : SigType). map (λ (j : ℕ). ty) (range_with_len 0 n)) c.places_of-places.ensures
    c.type_at.ensures in
    put ∙ ap₂ (λ (xs ys : List SigType). xs ++ ys) c.loop-word.invariant own
    ∙ sym (frame_more c.args.phases c.args.slow.now at c.loop-word.word)
