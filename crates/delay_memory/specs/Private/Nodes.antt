-- The nodes of the lowered list, as they are made.
use Rattle.std.specs.Prelude.{◌≡◌, ℕ, ◌+◌, ◌<◌, List, [], ◌∷◌, length, take, flat_map, Contains}
use Rattle.std.specs.List.{enumerate_from, AllZip}
use Rattle.std.specs.List.Sorted.{IsStrictlyIncreasing}
use Rattle.datapath.specs.declared.types.Datapath.{Datapath}
use Rattle.signal_graph.specs.declared.graph.Edge.{Edge}
use Rattle.signal_graph.specs.declared.graph.Node.{Node}
use Rattle.signal_graph.specs.declared.graph.Graph.{Graph}
use Rattle.plan_core.specs.Lowered.{Origin, origins_of, stored, AreLines, IsLoweredEdge, IsMadeOver, address_node}
use Rattle.plan_core.specs.Lowered.{store_node, load_node}
use Rattle.plan_core.specs.declared.delay_lines.Line.{Line}
use Rattle.plan_core.specs.declared.delay_lines.Lowered.{Lowered}
use Rattle.delay_memory.specs.Private.Delays.{delays_at, AreDelays, AreFew}
use Rattle.delay_memory.specs.Private.Numbers.{AreNumbers}

-- for each delay the address of its cell and the load from it, where the first of these addresses has this number
abbrev pub load_nodes : Line → (width at : ℕ) → List ℕ → List Node
load_nodes line width at [] = []
load_nodes line width at (k ∷ ks) =
    address_node line.ram (line.offset + k) ∷ load_node line.ram at width ∷ load_nodes line width (at + 2) ks

-- the nodes of a delay line
abbrev pub line_nodes : Line → (width : ℕ) → List ℕ → List Node
line_nodes line width ks =
    address_node line.ram line.offset ∷ store_node line.ram (line.node + 1) line.node
    ∷ load_nodes line width (line.node + 3) ks

-- the edge leads to a node whose long delays it is among, if it is long
pub record IsLaid (hold : ℕ) (delays : List (List ℕ)) (edge : Edge) : Type 0 where
  pub node : edge.node < length delays
  pub long : hold < edge.delay → Contains (delays_at delays edge.node) edge.delay

-- the node with the edges of the lowered list
pub record IsCopy (hold : ℕ) (delays : List (List ℕ)) (old new : Node) : Type 0 where
  pub edges : AllZip (IsLoweredEdge hold delays) new.edges old.edges
  pub rest : new ≡ record old { edges = new.edges }

-- long delays that rise, and the numbers of nodes
pub record IsLayout (delays : List (List ℕ)) (numbers : List ℕ) : Type 0 where
  pub rise : (v : ℕ) → IsStrictlyIncreasing (delays_at delays v)
  pub few : AreFew delays
  pub numbered : AreNumbers delays (length delays) numbers

-- the delays of a graph, the numbers of its nodes, and its lines
pub record AreLaidOut (hold spare : ℕ) (g : Graph) (d : Datapath) (delays : List (List ℕ))
    (numbers : List ℕ) (lines : List Line) : Type 0 where
  pub long : AreDelays g hold delays
  pub layout : IsLayout delays numbers
  pub line_count : length lines ≡ length (stored delays)
  pub placed : AreLines spare d delays lines

-- the origins of the nodes for those before node v
abbrev pub origins_before : List (List ℕ) → (v : ℕ) → List Origin
origins_before delays v = flat_map (λ (x : ℕ × List ℕ). origins_of x.0 x.1) (take v (enumerate_from 0 delays))

-- the nodes for those before node v
abbrev pub AreMadeBefore : (hold : ℕ) → Graph → Datapath → List (List ℕ) → List Line → (v : ℕ) → List Node → Type 0
AreMadeBefore hold g d delays lines v nodes =
    (l : Lowered) → l.lines ≡ lines → AllZip (IsMadeOver g d l delays hold) (origins_before delays v) nodes
