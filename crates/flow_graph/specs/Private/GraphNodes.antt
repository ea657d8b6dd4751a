-- All nodes of the graph of a flat program.
use Rattle.std.specs.Prelude.{List, length}
use Rattle.signal_graph.specs.Flat.{Program}
use Rattle.signal_graph.specs.GraphOf.{IsGraphOf}
use Rattle.signal_graph.specs.declared.graph.Node.{Node}

abbrev pub AreGraphNodes : Program → List Node → Type 0
AreGraphNodes p nodes = IsGraphOf p (record { nodes = nodes; inputs = p.inputs; outs = length p.outs })
