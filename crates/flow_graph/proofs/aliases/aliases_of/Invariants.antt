use Rattle.std.proofs.Common.{◌≡◌, ◌<◌, ℕ, length}
use Rattle.std.specs.Prelude.{slice_index_or}
use Rattle.signal_graph.specs.Flat.{view}
use Rattle.signal_graph.specs.FlatSolves.{element_of}
use Rattle.signal_graph.specs.GraphOf.{is_delayed}
use Rattle.flow_graph.specs.Private.Aliases.{alias}
use Rattle.flow_graph.proofs.aliases.aliases_of.Given as goal

abbrev pub invariant-loop-elem : goal.invariant-loop-elem
invariant-loop-elem l = record {
  size : length l.aliases.items ≡ l.elem;
  at : (e : ℕ)
      → e < l.elem
      → slice_index_or l.aliases.items e 0 ≡ alias (is_delayed (view l.flat) e) e (element_of (view l.flat) e).body;
}
