-- The nodes of output words behind those of places.
use Rattle.std.specs.Prelude.{◌≡◌, ℕ, ◌+◌, ◌<◌, List, [], ◌∷◌, length, slice_get, slice_index_or, Some, pos}
use Rattle.fix_word.specs.declared.operation.Op.TheVariants as op
use Rattle.signal_graph.specs.Rules.{plain}
use Rattle.signal_graph.specs.GraphSolves.{no_node}
use Rattle.signal_graph.specs.declared.graph.Node.{Node}

-- the node of output word j, which reads node v
abbrev pub output_node : (j v width : ℕ) → Node
output_node j v width = record {
  op = op.Output;
  fmt = plain 0;
  arg = pos j;
  edges = record { node = v; delay = 0 } ∷ [];
  inits = [];
  width = width;
  ram = 0;
}

-- behind the old nodes are those of the first output words, where the elements have these numbers
pub record AddsOutputs (old : List Node) (elements outs : List ℕ) (count : ℕ) (new : List Node) : Type 0 where
  pub size : length new ≡ length old + count
  pub before : (v : ℕ) → v < length old → slice_index_or new v no_node ≡ slice_index_or old v no_node
  pub outputs : (j e : ℕ)
      → j < count
      → slice_get outs j ≡ Some e
      → (let v = slice_index_or elements e 0 in
      slice_index_or new (length old + j) no_node ≡ output_node j v (slice_index_or old v no_node).width)
