-- The samples so far.
use Rattle.proc_net.proofs.Samples.{IsSoFar}
use Rattle.proc_net.proofs.net.Net.samples.Given as goal

abbrev pub invariant-loop-p : goal.invariant-loop-p
invariant-loop-p l = IsSoFar l.fn.self l.self l.p l.moved
