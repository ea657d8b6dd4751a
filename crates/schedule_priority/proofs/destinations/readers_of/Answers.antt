use Rattle.std.proofs.Common.{refl}
use Rattle.schedule_priority.proofs.Readers.{readers_more}
use Rattle.schedule_priority.proofs.destinations.readers_of.Goals as goal

pub loop-c-preserved : goal.loop-c-preserved
loop-c-preserved c =
    readers_more c.args.problem.now.assigned.now c.loop-c.c _ c.loop-c.readers c.add_reads.new.readers refl
    c.loop-c.invariant c.add_reads.ensures
