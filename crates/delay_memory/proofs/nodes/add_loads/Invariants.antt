use Rattle.std.proofs.Common.{◌≡◌, ◌+◌, ◌*◌, ◌++◌, take}
use Rattle.delay_memory.specs.Private.Nodes.{load_nodes}
use Rattle.delay_memory.proofs.nodes.add_loads.Given as goal

abbrev pub invariant-loop-delay : goal.invariant-loop-delay
invariant-loop-delay l = record {
  nodes : l.nodes ≡ l.fn.nodes ++ load_nodes l.line l.width (l.line.node + 3) (take l.delay-index l.delay-items);
  at : l.at ≡ l.line.node + 3 + 2 * l.delay-index;
}
