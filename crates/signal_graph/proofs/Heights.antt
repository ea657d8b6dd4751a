-- A number for each node of a graph without a delay-free loop, which is less for what it reads without a delay: how
-- many nodes it depends on without a delay.
use Rattle.std.proofs.Common.{◌≡◌, ℕ, ◌<◌, ◌≤◌, Bool, true, [], length}
use Rattle.recurrences.proofs.Heights.{counted, counted_most, falls}
use Rattle.recurrences.proofs.Reach.{reach}
use Rattle.signal_graph.specs.declared.graph.Graph.{Graph}
use Rattle.signal_graph.specs.GraphRules.{IsGraph}
use Rattle.signal_graph.specs.GraphSolves.{node_of, HasEdge, graph_system, IsGraphLoopless}
use Rattle.signal_graph.proofs.Tests.{edges_test, edges_yes, edges_no}
use Rattle.signal_graph.proofs.OneSolution.{graph_determined}

abbrev reads_now : Graph → ℕ → ℕ → Bool
reads_now g v u = edges_test (node_of g v).edges u

tests : (g : Graph) (v u : ℕ) → (reads_now g v u ≡ true → HasEdge g v u 0) × (HasEdge g v u 0 → reads_now g v u ≡ true)
tests g v u = (edges_yes (node_of g v).edges u, edges_no (node_of g v).edges u)

pub height : Graph → ℕ → ℕ
height g v = counted (length g.nodes) (reach (λ (a b : ℕ). HasEdge g a b 0) (reads_now g) (tests g) (length g.nodes) v)

pub height_most : (g : Graph) (v : ℕ) → height g v ≤ length g.nodes
unfolding height
height_most g v = counted_most (length g.nodes) _

pub height_falls : (g : Graph)
    → IsGraph g
    → IsGraphLoopless g
    → (v u : ℕ)
    → v < length g.nodes
    → HasEdge g v u 0
    → height g u < height g v
unfolding height
height_falls g sound loopless v u el r =
    falls (graph_system g []) (graph_determined g sound []) (length g.nodes) (λ v el. el) (reads_now g)
    (tests g) loopless v u el r
