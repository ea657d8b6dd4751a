-- A sound graph, one fact for each rule.
use Rattle.std.specs.Prelude.{◌≡◌, ◌≢◌, ℕ, ◌+◌, ◌-◌, ◌^◌, ◌<◌, ◌≤◌, length, take, slice_get, All, IsSomeAnd, ℤ, pos}
use Rattle.fix_word.specs.Words.{IsWord, IsWidth, IsMachineWord}
use Rattle.fix_word.specs.declared.types.Format.{Format}
use Rattle.fix_word.specs.declared.operation.Op.TheVariants as op
use Rattle.operations.specs.Operations.{is_quantised, IsFormatWhere}
use Rattle.signal_graph.specs.Operations.{Class, input, output, constant, operands, class_of, IsOfGraphs}
use Rattle.signal_graph.specs.Rules.{max_delay, IsWithin, IsBelow, IsType, AreInits}
use Rattle.signal_graph.specs.declared.graph.Edge.{Edge}
use Rattle.signal_graph.specs.declared.graph.Node.{Node}
use Rattle.signal_graph.specs.declared.graph.Graph.{Graph}

-- the format of a node
abbrev pub IsNodeFormat : Class → Format → Type 0
IsNodeFormat class = IsFormatWhere (is_quantised class)

-- the argument of a node
abbrev pub IsArgument : Graph → Class → ℤ → Type 0
IsArgument g input arg = IsBelow (length g.inputs) arg
IsArgument g output arg = IsBelow g.outs arg
IsArgument g constant arg = IsMachineWord arg
IsArgument g _ arg = arg ≡ pos 0

-- the node that is read is there, and is no output
pub record IsEdge (g : Graph) (edge : Edge) : Type 0 where
  pub node : IsSomeAnd (slice_get g.nodes edge.node) (λ (node : Node). node.op ≢ op.Output)
  pub delay : edge.delay ≤ max_delay

pub record IsNode (g : Graph) (node : Node) : Type 0 where
  pub operation : IsOfGraphs (class_of node.op)
  pub fmt : IsNodeFormat (class_of node.op) node.fmt
  pub arg : IsArgument g (class_of node.op) node.arg
  pub edge_count : length node.edges ≡ operands node.op
  pub edges : All (IsEdge g) node.edges
  pub inits : AreInits (IsWord node.width) node.inits
  pub width : IsWidth node.width

-- the number of the first output node
abbrev pub first_output : Graph → ℕ
first_output g = length g.nodes - g.outs

-- the node of output word j
pub record IsOutput (j : ℕ) (node : Node) : Type 0 where
  pub op : node.op ≡ op.Output
  pub arg : node.arg ≡ pos j

-- the graph is sound
pub record IsGraph (g : Graph) : Type 0 where
  pub input_count : IsWithin 1 16 (length g.inputs)
  pub inputs : All IsType g.inputs
  pub out_count : IsWithin 1 16 g.outs
  pub node_count : length g.nodes < 2 ^ 20
  pub nodes : All (IsNode g) g.nodes
  -- the last nodes are the outputs, in order, and no others are
  pub outputs : (j : ℕ) → j < g.outs → IsSomeAnd (slice_get g.nodes (first_output g + j)) (IsOutput j)
  pub others : All (λ (node : Node). node.op ≢ op.Output) (take (first_output g) g.nodes)
