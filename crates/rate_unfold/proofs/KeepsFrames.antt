-- Unfolding keeps solutions, frame by frame.
use Rattle.std.proofs.Common.{◌≤◌, length}
use Rattle.signal_graph.specs.Flat.{Program}
use Rattle.signal_graph.specs.FlatRules.{IsFlat}
use Rattle.rate_unfold.specs.Frames.{Rates}
use Rattle.rate_unfold.specs.Solutions.{KeepsFrames}
use Rattle.rate_unfold.specs.Private.Unfolding.{unfolded}
use Rattle.rate_unfold.proofs.FrameOuts.{out_rows}
use Rattle.rate_unfold.proofs.FrameStream.{fast_stream}
use Rattle.rate_unfold.proofs.FrameWords.{framed}
use Rattle.rate_unfold.proofs.UnfoldedKeeps.{unfolded_solves, unfolded_keeps}

pub keeps_frames : (r : Rates) (p : Program) → IsFlat p → 1 ≤ r.phases → KeepsFrames r p (unfolded r p)
keeps_frames r p sound some = record {
  solves = λ frames words others are. unfolded_solves r p sound some frames words others are;
  keeps = unfolded_keeps r p sound some;
  stream = fast_stream r p some;
  rows = λ frames words others count are within.
      out_rows r p sound some (length frames) words others (framed r p frames words others are) count within;
}
