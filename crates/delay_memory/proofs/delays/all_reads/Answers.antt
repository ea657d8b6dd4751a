use Rattle.delay_memory.proofs.ReadSteps.{reads_next}
use Rattle.delay_memory.proofs.delays.all_reads.Goals as goal

pub loop-c-preserved : goal.loop-c-preserved
loop-c-preserved c =
    reads_next c.args.graph.now c.args.hold c.loop-c.c c.add_reads.new.reads c.in_ok-add_reads.ensures
