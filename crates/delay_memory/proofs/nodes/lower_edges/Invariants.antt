use Rattle.delay_memory.proofs.NodeSteps.{AreLoweredBefore}
use Rattle.delay_memory.proofs.nodes.lower_edges.Given as goal

abbrev pub invariant-loop-port : goal.invariant-loop-port
invariant-loop-port l =
    AreLoweredBefore l.layout.target.now.hold l.layout.delays.now l.port l.fn.edges l.edges
