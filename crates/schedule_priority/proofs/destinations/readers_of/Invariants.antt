use Rattle.schedule_priority.specs.Private.Destinations.{AreReaders}
use Rattle.schedule_priority.proofs.destinations.readers_of.Given as goal

abbrev pub invariant-loop-c : goal.invariant-loop-c
invariant-loop-c l = AreReaders l.problem.assigned.now l.c l.readers
