-- The search for the nodes that are used, and the nodes with their new numbers.
use Rattle.std.specs.Prelude.{◌≡◌, ℕ, ◌+◌, ◌<◌, ◌≤◌, ◌↔◌, if◌then◌else◌, List, [], ◌∷◌, ◌++◌, map, length}
use Rattle.std.specs.Prelude.{slice_index_or, slice_set, Bool, true, Contains}
use Rattle.std.specs.List.{sum_by}
use Rattle.fix_word.specs.declared.operation.Op.TheVariants as op
pub use Rattle.signal_graph.specs.Private.Marks.{is_marked, missing}
use Rattle.signal_graph.specs.declared.graph.Edge.{Edge}
use Rattle.signal_graph.specs.declared.graph.Node.{Node}
use Rattle.signal_graph.specs.declared.graph.Graph.{Graph}
use Rattle.signal_graph.specs.GraphSolves.{IsNodeNumber, node_of, HasEdge}
use Rattle.signal_graph.specs.Pruned.{IsUsed}
use Rattle.flow_graph.specs.declared.pruning.Search.{Search}

-- the search with node v
abbrev pub reached : Search → ℕ → Search
reached s v =
    if is_marked s.marks v then s else record { marks = slice_set s.marks v true; found = s.found ++ v ∷ [] }

-- the search with all nodes to which the edges lead
abbrev pub all_reached : Search → List Edge → Search
all_reached s [] = s
all_reached s (edge ∷ rest) = all_reached (reached s edge.node) rest

-- a node of the graph that is used
pub record IsUsedNode (g : Graph) (v : ℕ) : Type 0 where
  pub there : IsNodeNumber g v
  pub used : IsUsed g v

-- The nodes that are marked are those that were found. All are used, and what the first ones read is marked.
pub record IsSearch (g : Graph) (followed : ℕ) (s : Search) : Type 0 where
  pub count : length s.marks ≡ length g.nodes
  pub room : length s.found + sum_by missing s.marks ≡ length g.nodes
  pub found : (v : ℕ) → is_marked s.marks v ≡ true → Contains s.found v
  pub used : (i : ℕ) → i < length s.found → IsUsedNode g (slice_index_or s.found i 0)
  pub within : followed ≤ length s.found
  pub reads : (i u ago : ℕ) → i < followed → HasEdge g (slice_index_or s.found i 0) u ago
      → is_marked s.marks u ≡ true

-- the outputs are marked
abbrev pub HasOutputs : Graph → Search → Type 0
HasOutputs g s = (v : ℕ) → IsNodeNumber g v → (node_of g v).op ≡ op.Output → is_marked s.marks v ≡ true

-- the nodes that are used are marked, and no others
pub record AreUsedMarks (g : Graph) (marks : List Bool) : Type 0 where
  pub count : length marks ≡ length g.nodes
  pub used : (v : ℕ) → is_marked marks v ≡ true ↔ IsUsed g v

abbrev pub AreAllMarked : List Bool → Type 0
AreAllMarked marks = (v : ℕ) → v < length marks → is_marked marks v ≡ true

-- for each mark how many come before it, and n more
abbrev pub numbers_from : ℕ → List Bool → List ℕ
numbers_from n [] = []
numbers_from n (mark ∷ rest) = n ∷ numbers_from (if mark then n + 1 else n) rest

-- the places of the marks, where the first place is k
abbrev pub kept_from : ℕ → List Bool → List ℕ
kept_from k [] = []
kept_from k (mark ∷ rest) = if mark then k ∷ kept_from (k + 1) rest else kept_from (k + 1) rest

abbrev pub renumbered_edge : List ℕ → Edge → Edge
renumbered_edge numbers edge = record { node = slice_index_or numbers edge.node 0; delay = edge.delay }

abbrev pub renumbered : List ℕ → Node → Node
renumbered numbers node = record node { edges = map (renumbered_edge numbers) node.edges }

-- the nodes that are kept, renumbered, in their order
abbrev pub kept_nodes : Graph → (numbers : List ℕ) → (marks : List Bool) → List Node
kept_nodes g numbers marks = map (renumbered numbers) (map (node_of g) (kept_from 0 marks))
