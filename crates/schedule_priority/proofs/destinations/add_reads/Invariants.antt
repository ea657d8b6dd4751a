use Rattle.schedule_priority.specs.Private.Destinations.{AddsReads}
use Rattle.schedule_priority.proofs.destinations.add_reads.Given as goal

abbrev pub invariant-loop-port : goal.invariant-loop-port
invariant-loop-port l = AddsReads l.problem.assigned.now l.c l.port l.fn.readers l.readers
