-- Delays above the hold become delay lines in memory.
--
-- A node that is read with such delays gets a line of cells in a ram, and is followed by new nodes: the address of the
-- word of this sample and its store, and for each of these delays, rising, an address and a load. The nodes have new
-- numbers, by this order.
--
-- How long a delay may be that stays on its edge is the hold. How many cells a line has beyond its longest delay is the
-- spare: as many as there are samples in flight at once.
use Rattle.std.specs.Prelude.{◌≡◌, ℕ, ◌+◌, ◌<◌, ◌≤◌, ◌==◌, nat_lt, cond, List, [], ◌∷◌, length, take, slice_get}
use Rattle.std.specs.Prelude.{slice_index_or, filter, flat_map, sum_by, All, Contains, Some, pos}
use Rattle.std.specs.List.{enumerate_from, AllZip}
use Rattle.std.specs.List.Sorted.{IsStrictlyIncreasing}
use Rattle.fix_word.specs.declared.operation.Op.TheVariants as op
use Rattle.datapath.specs.declared.types.Datapath.{Datapath}
use Rattle.operations.specs.declared.units.Kind.TheVariants as kind
use Rattle.signal_graph.specs.Rules.{plain}
use Rattle.signal_graph.specs.declared.graph.Edge.{Edge}
use Rattle.signal_graph.specs.declared.graph.Node.{Node}
use Rattle.signal_graph.specs.declared.graph.Graph.{Graph}
use Rattle.plan_core.specs.Hardware.{IsOfKind, IsAcuOf, cells_on}
use Rattle.plan_core.specs.Operands.{node_of, delay_at, Reads}
use Rattle.plan_core.specs.declared.delay_lines.Line.{Line}
use Rattle.plan_core.specs.declared.delay_lines.Lowered.{Lowered}

-- some node reads node v this many samples ago
pub record IsReadAgo (g : Graph) (v ago : ℕ) : Type 0 where
  pub consumer : ℕ
  pub port : ℕ
  pub reads : Reads g.nodes consumer port v
  pub delay : delay_at g.nodes consumer port ≡ ago

-- the delays above the hold at which node v is read, rising
pub record AreLongDelays (g : Graph) (hold v : ℕ) (delays : List ℕ) : Type 0 where
  pub rise : IsStrictlyIncreasing delays
  pub long : All (λ (k : ℕ). hold < k) delays
  pub read : All (λ (k : ℕ). IsReadAgo g v k) delays
  pub every : (c q : ℕ) → Reads g.nodes c q v → hold < delay_at g.nodes c q → Contains delays (delay_at g.nodes c q)

-- what a node of the lowered list is
pub data Origin : Type 0 where
  -- node v of the graph
  own : (v : ℕ) → Origin
  -- the address of the cell with the word of node v this many samples ago; the store has that of 0 samples ago
  address : (v ago : ℕ) → Origin
  -- the store of the word of node v
  store : (v : ℕ) → Origin
  -- the load of the word of node v this many samples ago
  load : (v ago : ℕ) → Origin

-- node v with the nodes that follow it, where these are its long delays
abbrev pub origins_of : ℕ → (delays : List ℕ) → List Origin
origins_of v [] = own v ∷ []
origins_of v (k ∷ ks) =
    own v ∷ address v 0 ∷ store v ∷ flat_map (λ (ago : ℕ). address v ago ∷ load v ago ∷ []) (k ∷ ks)

-- the nodes of the lowered list, where these are the long delays of the nodes of the graph
abbrev pub origins : List (List ℕ) → List Origin
origins delays = flat_map (λ (x : ℕ × List ℕ). origins_of x.0 x.1) (enumerate_from 0 delays)

-- the node has this number in the lowered list
abbrev pub IsNumber : List (List ℕ) → Origin → ℕ → Type 0
IsNumber delays o i = slice_get (origins delays) i ≡ Some o

-- the nodes that have a delay line, in order, each with its long delays
abbrev pub stored : List (List ℕ) → List (ℕ × List ℕ)
stored delays = filter (λ (x : ℕ × List ℕ). nat_lt 0 (length x.1)) (enumerate_from 0 delays)

-- what stands in the place of a line that is not there
abbrev pub no_line : Line
no_line = record { node = 0; ram = 0; offset = 0; depth = 0 }

-- line i
abbrev pub line_of : List Line → ℕ → Line
line_of lines i = slice_index_or lines i no_line

-- how many cells the lines take in a ram
abbrev pub used : (spare : ℕ) → List Line → (ram : ℕ) → ℕ
used spare lines ram = sum_by (λ (line : Line). cond (line.ram == ram) (line.depth + spare) 0) lines

module _ (spare : ℕ) (d : Datapath) where
  -- there is a ram, and after these lines it has so many cells left
  pub record HasRoom (lines : List Line) (cells ram : ℕ) : Type 0 where
    pub is_ram : IsOfKind d kind.Ram ram
    pub room : used spare lines ram + cells ≤ cells_on d ram

  -- the line is the next one after these, for node v with these long delays: in the first ram with room, at its next
  -- free offset
  pub record IsNextLine (delays : List (List ℕ)) (lines : List Line) (v : ℕ) (long : List ℕ)
      (line : Line) : Type 0 where
    pub node : IsNumber delays (own v) line.node
    pub depth : Contains long line.depth
    pub longest : All (λ (k : ℕ). k ≤ line.depth) long
    pub room : HasRoom lines (line.depth + spare) line.ram
    pub first : (ram : ℕ) → ram < line.ram → HasRoom lines (line.depth + spare) ram → ⊥
    pub offset : line.offset ≡ used spare lines line.ram
    pub acu : (u : ℕ) × IsAcuOf d line.ram u

  -- the lines are those of the first nodes that have one
  abbrev pub AreLines : List (List ℕ) → List Line → Type 0
  AreLines delays lines =
      (i v : ℕ) (long : List ℕ) → i < length lines → slice_get (stored delays) i ≡ Some (v, long)
      → IsNextLine delays (take i lines) v long (line_of lines i)

-- the edge of the lowered list for one of the graph: a long delay is read from its load
pub record IsLoweredEdge (hold : ℕ) (delays : List (List ℕ)) (edge old : Edge) : Type 0 where
  pub held : old.delay ≤ hold → IsNumber delays (own old.node) edge.node × (edge.delay ≡ old.delay)
  pub loaded : hold < old.delay → IsNumber delays (load old.node old.delay) edge.node × (edge.delay ≡ 0)

abbrev pub edge_now : ℕ → Edge
edge_now node = record { node = node; delay = 0 }

-- the nodes that are new
abbrev pub address_node : (ram offset : ℕ) → Node
address_node ram offset = record {
  op = op.Addr;
  fmt = plain 0;
  arg = pos offset;
  edges = [];
  inits = [];
  width = 1;
  ram = ram;
}

abbrev pub store_node : (ram at value : ℕ) → Node
store_node ram at value = record {
  op = op.Store;
  fmt = plain 0;
  arg = pos 0;
  edges = edge_now at ∷ edge_now value ∷ [];
  inits = [];
  width = 1;
  ram = ram;
}

abbrev pub load_node : (ram at width : ℕ) → Node
load_node ram at width = record {
  op = op.Load;
  fmt = plain 0;
  arg = pos 0;
  edges = edge_now at ∷ [];
  inits = [];
  width = width;
  ram = ram;
}

module _ (g : Graph) (d : Datapath) (l : Lowered) (delays : List (List ℕ)) where
  -- the delay line of node v of the graph
  pub record IsLineOf (v : ℕ) (line : Line) : Type 0 where
    pub there : Contains l.lines line
    pub node : IsNumber delays (own v) line.node

  -- node v of the graph, with the edges of the lowered list
  pub record IsOwnOver (hold v : ℕ) (node : Node) : Type 0 where
    pub edges : AllZip (IsLoweredEdge hold delays) node.edges (node_of g.nodes v).edges
    pub rest : node ≡ record (node_of g.nodes v) { edges = node.edges }

  -- the address of the cell that has the word of node v this many samples ago
  pub record IsAddress (v ago : ℕ) (node : Node) : Type 0 where
    pub line : Line
    pub its_line : IsLineOf v line
    pub is : node ≡ address_node line.ram (line.offset + ago)

  -- the store of the word of node v
  pub record IsStore (v : ℕ) (node : Node) : Type 0 where
    pub line : Line
    pub its_line : IsLineOf v line
    pub at : ℕ
    pub its_address : IsNumber delays (address v 0) at
    pub is : node ≡ store_node line.ram at line.node

  -- the load of the word of node v this many samples ago
  pub record IsLoad (v ago : ℕ) (node : Node) : Type 0 where
    pub line : Line
    pub its_line : IsLineOf v line
    pub at : ℕ
    pub its_address : IsNumber delays (address v ago) at
    pub is : node ≡ load_node line.ram at (node_of g.nodes v).width

  abbrev pub IsMadeOver : (hold : ℕ) → Origin → Node → Type 0
  IsMadeOver hold (own v) node = IsOwnOver hold v node
  IsMadeOver hold (address v ago) node = IsAddress v ago node
  IsMadeOver hold (store v) node = IsStore v node
  IsMadeOver hold (load v ago) node = IsLoad v ago node

  -- the same, where the hold is that of the datapath
  abbrev pub IsOwn : (v : ℕ) → Node → Type 0
  IsOwn v node = IsOwnOver d.hold v node

  abbrev pub IsMade : Origin → Node → Type 0
  IsMade origin node = IsMadeOver d.hold origin node

-- the lowered list of the graph: each node whose delays are above the hold has its line, and all nodes are made
pub record IsLoweredOver (hold spare : ℕ) (g : Graph) (d : Datapath) (l : Lowered) : Type 0 where
  pub delays : List (List ℕ)
  pub delay_count : length delays ≡ length g.nodes
  pub long : (v : ℕ) → v < length g.nodes → AreLongDelays g hold v (slice_index_or delays v [])
  pub line_count : length l.lines ≡ length (stored delays)
  pub lines : AreLines spare d delays l.lines
  pub nodes : AllZip (IsMadeOver g d l delays hold) (origins delays) l.nodes

-- the same where one sample is in flight at a time: the hold is that of the datapath, and the one spare cell of a line
-- is for the word of this sample
abbrev pub IsLowered : Graph → Datapath → Lowered → Type 0
IsLowered g d l = IsLoweredOver d.hold 1 g d l
