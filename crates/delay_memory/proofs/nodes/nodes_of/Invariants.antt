use Rattle.std.proofs.Common.{◌≡◌}
use Rattle.delay_memory.specs.Private.Lines.{lines_before}
use Rattle.delay_memory.specs.Private.Nodes.{AreMadeBefore}
use Rattle.delay_memory.proofs.CopySteps.{AreLeft}
use Rattle.delay_memory.proofs.nodes.nodes_of.Given as goal

abbrev pub invariant-loop-v : goal.invariant-loop-v
invariant-loop-v l = record {
  next : l.next ≡ lines_before l.layout.delays.now l.v;
  nodes : AreMadeBefore l.layout.target.now.hold l.fn.graph l.layout.target.now.datapath.now l.layout.delays.now
      l.layout.lines.now l.v l.nodes;
  left : AreLeft l.fn.graph l.v l.left;
}
