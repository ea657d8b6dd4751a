-- What it is to solve the equations of a graph over a stream of input rows.
use Rattle.std.specs.Prelude.{ℕ, ◌+◌, ◌<◌, [], map, length, slice_index_or, List, ℤ, pos}
use Rattle.std.specs.List.{range_with_len}
use Rattle.lists.specs.Rows.{Rows}
use Rattle.fix_word.specs.declared.operation.Op.TheVariants as op
use Rattle.recurrences.specs.Systems.{System, Solves, IsOneSolution, HasNoDelaylessLoop}
use Rattle.signal_graph.specs.Rules.{plain}
use Rattle.signal_graph.specs.GraphRules.{first_output}
use Rattle.signal_graph.specs.Values.{Words, node_value, EdgesRead}
use Rattle.signal_graph.specs.Numbered.{numbered}
use Rattle.signal_graph.specs.declared.graph.Node.{Node}
use Rattle.signal_graph.specs.declared.graph.Graph.{Graph}

-- what stands in the place of a node that is not there
abbrev pub no_node : Node
no_node = record { op = op.Const; fmt = plain 0; arg = pos 0; edges = []; inits = []; width = 1; ram = 0 }

-- node v
abbrev pub node_of : Graph → ℕ → Node
node_of g v = slice_index_or g.nodes v no_node

abbrev pub IsNodeNumber : Graph → ℕ → Type 0
IsNodeNumber g v = v < length g.nodes

-- node v has an edge to node u with this delay
abbrev pub HasEdge : Graph → (v u ago : ℕ) → Type 0
HasEdge g v u ago = EdgesRead (node_of g v).edges u ago

-- no node of the graph depends on itself without a delay
abbrev pub IsGraphLoopless : Graph → Type 0
IsGraphLoopless g = HasNoDelaylessLoop (HasEdge g) (IsNodeNumber g)

-- the equations: a node gives what its operation does
abbrev pub graph_system : Graph → Rows → System ℕ ℤ
graph_system g stream =
    numbered (length g.nodes) (length stream) (λ v. (node_of g v).inits)
    (λ v n words. node_value stream words n (node_of g v)) (HasEdge g)

abbrev pub GraphSolves : Graph → Rows → Words → Type 0
GraphSolves g stream words = Solves (graph_system g stream) words

abbrev pub IsOneGraphSolution : Graph → Rows → Words → Type 0
IsOneGraphSolution g stream words = IsOneSolution (graph_system g stream) words

-- the output row of sample n
abbrev pub out_row : Graph → Words → (n : ℕ) → List ℤ
out_row g words n = map (λ j. words (first_output g + j) (pos n)) (range_with_len 0 g.outs)

-- the output rows of the samples 0 to count - 1
abbrev pub graph_out : Graph → Words → (count : ℕ) → Rows
graph_out g words count = map (out_row g words) (range_with_len 0 count)
