-- The search for an order.
use Rattle.std.specs.Prelude.{◌≡◌, ℕ, ◌+◌, ◌<◌, ◌⊎◌, List, [], ◌∷◌, ◌++◌, length, slice_set, slice_index_or}
use Rattle.std.specs.List.{sum_by}
use Rattle.signal_graph.specs.declared.graph.Edge.{Edge}
use Rattle.signal_graph.specs.declared.graph.Node.{Node}
use Rattle.node_order.specs.Topological.{nth, IsAt, HasOperand, IsOrdered}
use Rattle.node_order.specs.declared.search.Mark.{Mark}
use Rattle.node_order.specs.declared.search.Mark.TheVariants as mark
use Rattle.node_order.specs.declared.search.Search.{Search}

abbrev pub mark_at : List Mark → ℕ → Mark
mark_at marks v = slice_index_or marks v mark.New

abbrev pub mark_of : Search → ℕ → Mark
mark_of s v = mark_at s.marks v

-- what stands in the place of an edge that is not there
abbrev pub no_edge : Edge
no_edge = record { node = 0; delay = 0 }

abbrev pub edge_at : List Edge → ℕ → Edge
edge_at edges q = slice_index_or edges q no_edge

-- u is an operand of the node, without a delay, that is new
pub record IsNewOperand (node : Node) (marks : List Mark) (u : ℕ) : Type 0 where
  pub q : ℕ
  pub port : q < length node.edges
  pub operand : (edge_at node.edges q).node ≡ u
  pub now : (edge_at node.edges q).delay ≡ 0
  pub fresh : mark_at marks u ≡ mark.New

-- a node without a place counts
abbrev pub lacks_place : Mark → ℕ
lacks_place mark.New = 1
lacks_place mark.Open = 1
lacks_place mark.Placed = 0

-- The placed nodes are in the order. The open ones are on the stack, each below one that it reads without a delay.
pub record IsSearch (nodes : List Node) (stack : List ℕ) (s : Search) : Type 0 where
  pub count : length s.marks ≡ length nodes
  pub ordered : IsOrdered nodes s.order
  pub placed : (u : ℕ) → mark_of s u ≡ mark.Placed → IsAt s.order u
  pub places : length s.order + sum_by lacks_place s.marks ≡ length nodes
  pub there : (i : ℕ) → i < length stack → nth stack i < length nodes
  pub open_nodes : (i : ℕ) → i < length stack → mark_of s (nth stack i) ≡ mark.Open
  pub on_stack : (u : ℕ) → mark_of s u ≡ mark.Open → IsAt stack u
  pub chain : (i j : ℕ) → j ≡ i + 1 → j < length stack → HasOperand nodes (nth stack i) (nth stack j)

-- a new operand of v goes onto the stack, above v
pub record Opens (nodes : List Node) (v : ℕ) (stack : List ℕ) (old : Search) (new_stack : List ℕ)
    (new : Search) : Type 0 where
  pub operand : ℕ
  pub read : HasOperand nodes v operand
  pub fresh : mark_of old operand ≡ mark.New
  pub pushed : new_stack ≡ (stack ++ v ∷ []) ++ operand ∷ []
  pub search : new ≡ record { order = old.order; marks = slice_set old.marks operand mark.Open }

-- v gets its place
pub record Settles (nodes : List Node) (v : ℕ) (stack : List ℕ) (old : Search) (new_stack : List ℕ)
    (new : Search) : Type 0 where
  pub none : (u : ℕ) → HasOperand nodes v u → mark_of old u ≡ mark.New → ⊥
  pub same : new_stack ≡ stack
  pub search : new ≡ record { order = old.order ++ v ∷ []; marks = slice_set old.marks v mark.Placed }

-- the search looks at v, which it took from the stack
abbrev pub Visits : List Node → ℕ → List ℕ → Search → List ℕ → Search → Type 0
Visits nodes v stack old new_stack new = Opens nodes v stack old new_stack new ⊎ Settles nodes v stack old new_stack new

-- what had a place has one
abbrev pub Keeps : Search → Search → Type 0
Keeps old new = (v : ℕ) → mark_of old v ≡ mark.Placed → mark_of new v ≡ mark.Placed
