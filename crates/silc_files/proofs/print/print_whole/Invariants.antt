use Rattle.std.proofs.Common.{◌-◌, length}
use Rattle.silc_files.specs.Private.Printing.{IsPrintedSoFar}
use Rattle.silc_files.proofs.print.print_whole.Given as goal

abbrev pub invariant-loop-done : goal.invariant-loop-done
invariant-loop-done g l = IsPrintedSoFar l.bytes l.done (g.D.Desk.view l.fn.desk) (g.D.Desk.view l.desk)

abbrev pub decreases-loop-done : goal.decreases-loop-done
decreases-loop-done g l = length l.bytes - l.done
