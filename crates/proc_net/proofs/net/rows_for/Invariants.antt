use Rattle.std.proofs.Common.{take}
use Rattle.proc_net.specs.Private.States.{AreRowsFor}
use Rattle.proc_net.proofs.net.rows_for.Given as goal

abbrev pub invariant-loop-processor : goal.invariant-loop-processor
invariant-loop-processor l = AreRowsFor (take l.processor-index l.processors) l.rows
