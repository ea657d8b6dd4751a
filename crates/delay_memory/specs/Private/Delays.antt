-- The long delays of the nodes, as they are found.
use Rattle.std.specs.Prelude.{◌≡◌, ℕ, ◌^◌, ◌<◌, ◌≤◌, ◌⊎◌, List, [], ◌∷◌, ◌++◌, length, slice_index_or, slice_set}
use Rattle.std.specs.Prelude.{Contains}
use Rattle.signal_graph.specs.declared.graph.Edge.{Edge}
use Rattle.signal_graph.specs.declared.graph.Graph.{Graph}
use Rattle.plan_core.specs.Operands.{delay_at, Reads}
use Rattle.plan_core.specs.Lowered.{AreLongDelays}

abbrev pub delays_at : List (List ℕ) → ℕ → List ℕ
delays_at delays v = slice_index_or delays v []

-- node v is read so many samples ago, more than the hold, by a node before node c or at a port of c before port q
pub record IsLongRead (g : Graph) (hold c q v ago : ℕ) : Type 0 where
  pub consumer : ℕ
  pub port : ℕ
  pub before : (consumer < c) ⊎ ((consumer ≡ c) × (port < q))
  pub reads : Reads g.nodes consumer port v
  pub delay : delay_at g.nodes consumer port ≡ ago
  pub long : hold < ago

-- for each node the delays of such reads
pub record AreReadsBefore (g : Graph) (hold c q : ℕ) (reads : List (List ℕ)) : Type 0 where
  pub count : length reads ≡ length g.nodes
  pub from : (v ago : ℕ) → Contains (delays_at reads v) ago → IsLongRead g hold c q v ago
  pub to : (v ago : ℕ) → IsLongRead g hold c q v ago → Contains (delays_at reads v) ago

-- the delay of the edge is added to those of its operand, if it is long
pub record AddsRead (hold : ℕ) (edge : Edge) (old new : List (List ℕ)) : Type 0 where
  pub long : hold < edge.delay → new ≡ slice_set old edge.node (delays_at old edge.node ++ edge.delay ∷ [])
  pub short : edge.delay ≤ hold → new ≡ old

-- for each node its long delays
pub record AreDelays (g : Graph) (hold : ℕ) (delays : List (List ℕ)) : Type 0 where
  pub count : length delays ≡ length g.nodes
  pub long : (v : ℕ) → v < length g.nodes → AreLongDelays g hold v (delays_at delays v)

-- so few that all nodes can be numbered
pub record AreFew (delays : List (List ℕ)) : Type 0 where
  pub count : length delays < 2 ^ 20
  pub each : (v : ℕ) → length (delays_at delays v) ≤ 1024

-- the delays of the nodes before node v are in order
pub record AreRisenBefore (g : Graph) (hold v : ℕ) (reads delays : List (List ℕ)) : Type 0 where
  pub count : length reads ≡ length g.nodes
  pub risen : length delays ≡ v
  pub from : (w ago : ℕ) → v ≤ w → Contains (delays_at reads w) ago → IsLongRead g hold (length g.nodes) 0 w ago
  pub to : (w ago : ℕ) → v ≤ w → IsLongRead g hold (length g.nodes) 0 w ago → Contains (delays_at reads w) ago
  pub long : (w : ℕ) → w < v → AreLongDelays g hold w (delays_at delays w)
