-- What the loop over the piece has taken so far.
use Rattle.std.proofs.Common.{take}
use Rattle.sample_io.specs.Private.Filling.{TakesSoFar}
use Rattle.sample_io.proofs.pieces.Rows.feed.Given as goal

abbrev pub invariant-loop-i : goal.invariant-loop-i
invariant-loop-i l = TakesSoFar l.fn.self (take l.i l.piece) l.self
