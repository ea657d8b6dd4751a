-- Orders in which each node comes behind those that it reads without a delay.
use Rattle.std.specs.Prelude.{ℕ, ◌<◌, List, [], ◌∷◌, ◌++◌}
use Rattle.std.specs.List.{Contains}
use Rattle.signal_graph.specs.GraphRules.{first_output}
use Rattle.signal_graph.specs.GraphSolves.{HasEdge}
use Rattle.signal_graph.specs.declared.graph.Graph.{Graph}

-- each node is no output, and what it reads without a delay is given or comes before it
abbrev pub IsOrdered : Graph → (given order : List ℕ) → Type 0
IsOrdered g given [] = Unit {0}
IsOrdered g given (v ∷ rest) =
    (v < first_output g) × ((u : ℕ) → HasEdge g v u 0 → Contains given u) × IsOrdered g (given ++ v ∷ []) rest

-- an order of all nodes but the outputs
pub record IsOrder (g : Graph) (order : List ℕ) : Type 0 where
  pub ordered : IsOrdered g [] order
  pub all : (v : ℕ) → v < first_output g → Contains order v
