use Rattle.std.proofs.Common.{◌≡◌, ◌++◌, map}
use Rattle.std.specs.List.{range_with_len}
use Rattle.rate_unfold.specs.Unfolded.{in_phase}
use Rattle.rate_unfold.proofs.frames.put_outs.Given as goal

abbrev pub invariant-loop-phase : goal.invariant-loop-phase
invariant-loop-phase l = l.row ≡ l.fn.row ++ map (λ j. in_phase l.elements j l.out) (range_with_len 0 l.phase)
