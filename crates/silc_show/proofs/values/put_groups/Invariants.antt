use Rattle.std.proofs.Common.{◌≡◌}
use Rattle.signal_graph.specs.Flat.{view}
use Rattle.signal_graph.specs.FlatRules.{IsFlat}
use Rattle.signal_graph.specs.Keeps.{IsStreamOf}
use Rattle.silc_show.proofs.values.put_groups.Given as goal

abbrev pub invariant-loop-first : goal.invariant-loop-first
invariant-loop-first l = record {
  flat : IsFlat (view l.of.flat);
  elements : l.of.flat.elems ≡ l.fn.of.flat.elems;
  rows : IsStreamOf l.of.flat.inputs l.rows;
}
