use Rattle.std.proofs.Common.{◌≡◌, replicate, pos}
use Rattle.proc_net.proofs.processor.zeros.Given as goal

abbrev pub invariant-loop : goal.invariant-loop
invariant-loop l = l.list ≡ replicate l.counter (pos 0)
