-- What is written so far.
use Rattle.std.proofs.Common.{◌-◌, length}
use Rattle.sample_loops.specs.Private.Buffers.{IsAppendedSoFar}
use Rattle.sample_loops.proofs.writing.write_all.Given as goal

abbrev pub invariant-loop-done : goal.invariant-loop-done
invariant-loop-done g l = IsAppendedSoFar l.bytes l.done (g.D.Desk.view l.fn.desk) (g.D.Desk.view l.desk)

abbrev pub decreases-loop-done : goal.decreases-loop-done
decreases-loop-done g l = length l.bytes - l.done
