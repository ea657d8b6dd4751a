use Rattle.delay_memory.proofs.NodeSteps.{found_not}
use Rattle.delay_memory.proofs.nodes.index_of.Goals as goal

pub unreachable-requires : goal.unreachable-requires
unreachable-requires c =
    found_not c.args.delays.now c.args.delay c.binary_search.result c.in-Err.field-0 c.in-Err.is
    c.binary_search.ensures.position c.requires.rise c.requires.there
