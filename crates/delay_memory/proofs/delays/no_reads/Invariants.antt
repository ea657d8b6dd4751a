use Rattle.std.proofs.Common.{◌≡◌, replicate, []}
use Rattle.delay_memory.proofs.delays.no_reads.Given as goal

abbrev pub invariant-loop : goal.invariant-loop
invariant-loop l = l.reads ≡ replicate l.counter []
