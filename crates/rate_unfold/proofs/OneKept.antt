-- Where the unfolded program has no delay-free loop, its one solution is that of the program.
use Rattle.lists.specs.Rows.{Rows}
use Rattle.recurrences.specs.Kept.{KeepsSolutions}
use Rattle.recurrences.proofs.Kept.{keeps_the_one}
use Rattle.signal_graph.specs.Flat.{Program}
use Rattle.signal_graph.specs.FlatRules.{IsFlat}
use Rattle.signal_graph.specs.FlatSolves.{IsFlatLoopless, flat_system}
use Rattle.signal_graph.proofs.OneSolution.{flat_solution}
use Rattle.rate_unfold.specs.Frames.{Rates}
use Rattle.rate_unfold.specs.Solutions.{AreUnfoldedWords, fast_of, KeepsFrames}

pub keeps_one : (r : Rates) (p unfolded : Program) (frames : Rows)
    → IsFlat unfolded
    → IsFlatLoopless unfolded
    → KeepsFrames r p unfolded
    → KeepsSolutions (flat_system p (fast_of r p frames)) (flat_system unfolded frames) (AreUnfoldedWords r p frames)
keeps_one r p unfolded frames sound loopless keeps =
    let (one, only) = flat_solution unfolded sound frames loopless in
    keeps_the_one (flat_system p (fast_of r p frames)) (flat_system unfolded frames) (AreUnfoldedWords r p frames)
    (keeps.keeps frames) one only
