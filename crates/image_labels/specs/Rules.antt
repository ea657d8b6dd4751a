-- What may stand for a word of a graph: the rules of labels, by the graph alone.
use Rattle.std.specs.Prelude.{◌≡◌, ℕ, ◌+◌, ◌<◌, ◌≤◌, ◌⊎◌, List, length, slice_index_or, ℤ, pos, ◌+ℤ◌, ◌-ℤ◌, ◌<ℤ◌, ◌≤ℤ◌}
use Rattle.lists.specs.Rows.{Rows}
use Rattle.fix_word.specs.Words.{IsWord}
use Rattle.fix_word.specs.declared.types.Format.{Format}
use Rattle.fix_word.specs.declared.types.Mode.{Mode}
use Rattle.fix_word.specs.declared.types.Mode.TheVariants.{Trunc, Round, Sat}
use Rattle.fix_word.specs.declared.operation.Op.{Op}
use Rattle.fix_word.specs.declared.operation.Op.TheVariants as op
use Rattle.operations.specs.Operations.{Class, quantised, truth, constant, class_of, operands}
use Rattle.signal_graph.specs.GraphSolves.{node_of, GraphSolves}
use Rattle.signal_graph.specs.Values.{Words}
use Rattle.signal_graph.specs.declared.graph.Edge.{Edge}
use Rattle.signal_graph.specs.declared.graph.Graph.{Graph}
use Rattle.signal_graph.specs.declared.graph.Node.{Node}
use Rattle.plan_core.specs.Operands.{edge_of}
use Rattle.plan_soundness.specs.Samples.{past}
use Rattle.image_labels.specs.declared.label.Label.{Label}
use Rattle.image_labels.specs.declared.label.Label.TheVariants.{Signal, Constant}

-- an operation that gives the same where its two operands are exchanged
abbrev pub IsCommutative : Op → Type 0
IsCommutative op.Add = Unit {0}
IsCommutative op.Mul = Unit {0}
IsCommutative op.Eq = Unit {0}
IsCommutative op.Ne = Unit {0}
IsCommutative op.And = Unit {0}
IsCommutative op.Or = Unit {0}
IsCommutative _ = ⊥

-- node v is a constant of this word
pub record IsConstant (g : Graph) (v : ℕ) (word : ℤ) : Type 0 where
  pub there : v < length g.nodes
  pub op : (node_of g v).op ≡ op.Const
  pub arg : (node_of g v).arg ≡ word

-- what a node gives in a run has at most w bits
abbrev pub GivesBits : Class → Node → (w : ℕ) → Type 0
GivesBits quantised node w = node.fmt.width ≤ w
GivesBits truth node w = 2 ≤ w
GivesBits constant node w = IsWord w node.arg
GivesBits _ node w = ⊥

-- the words of node v have at most w bits, before a run and in it
pub record HasBits (g : Graph) (v w : ℕ) : Type 0 where
  pub there : v < length g.nodes
  pub before : (node_of g v).width ≤ w
  pub gives : GivesBits (class_of (node_of g v).op) (node_of g v) w

-- the node that stands for node v, by a list of them; it stands for itself where none is given
abbrev pub representative : List ℕ → (v : ℕ) → ℕ
representative nodes v = slice_index_or nodes v v

-- One node stands for those of two operands of nodes v and u. Where they are read in the same sample, they are below
-- their readers.
pub record HaveOneRepresentative (nodes : List ℕ) (v u : ℕ) (a b : Edge) : Type 0 where
  pub node : representative nodes a.node ≡ representative nodes b.node
  pub lower : a.delay ≡ 0 → (a.node < v) × (b.node < u)

-- two operands of nodes v and u are one node's, or one node stands for theirs, and are read as many samples ago
pub record AreSameOperands (nodes : List ℕ) (v u : ℕ) (a b : Edge) : Type 0 where
  pub delay : a.delay ≡ b.delay
  pub node : (a.node ≡ b.node) ⊎ HaveOneRepresentative nodes v u a b

-- node v is a copy of a node below it: it does the same, on the same operands, from the same words on
pub record IsCopy (g : Graph) (nodes : List ℕ) (v u : ℕ) : Type 0 where
  pub below : u < v
  pub op : (node_of g v).op ≡ (node_of g u).op
  pub fmt : (node_of g v).fmt ≡ (node_of g u).fmt
  pub arg : (node_of g v).arg ≡ (node_of g u).arg
  pub inits : (node_of g v).inits ≡ (node_of g u).inits
  pub edges : (q : ℕ)
      → q < operands (node_of g v).op
      → AreSameOperands nodes v u (edge_of (node_of g v) q) (edge_of (node_of g u) q)

-- the first nodes stand for themselves, or are copies of those that stand for them
abbrev pub AreCopies : Graph → (nodes : List ℕ) → (count : ℕ) → Type 0
AreCopies g nodes count =
    (v : ℕ) → v < count → (representative nodes v ≡ v) ⊎ IsCopy g nodes v (representative nodes v)

-- in each solution of the graph the nodes have one word in each sample of a run, and in those before it that are read
abbrev pub HaveSameWord : Graph → (v u : ℕ) → Type 0
HaveSameWord g v u =
    (stream : Rows) (words : Words)
    → GraphSolves g stream words
    → (s : ℕ)
    → 0 < s
    → s < past + length stream
    → words v (pos s -ℤ pos past) ≡ words u (pos s -ℤ pos past)

-- A label tells the word of node v in a sample, where these nodes stand for others. A constant has its word from sample
-- 0 on.
abbrev pub Tells : Graph → (nodes : List ℕ) → Label → (v sample : ℕ) → Type 0
Tells g nodes (Signal w s) v sample =
    (w < length g.nodes) × (representative nodes w ≡ representative nodes v) × (s ≡ sample)
Tells g nodes (Constant word) v sample = IsConstant g v word × (past ≤ sample)
Tells g nodes _ v sample = ⊥

-- what a label says, up to the sample now, has at most w bits
abbrev pub IsNarrow : Graph → (now w : ℕ) → Label → Type 0
IsNarrow g now w (Signal v sample) = HasBits g v w × (0 < sample) × (sample ≤ now)
IsNarrow g now w (Constant word) = IsWord w word
IsNarrow g now w _ = ⊥

-- a mode that wraps what is out of the range
abbrev pub IsWrapping : Mode → Type 0
IsWrapping Trunc = Unit {0}
IsWrapping Round = Unit {0}
IsWrapping _ = ⊥

-- a mode that takes the floor
abbrev pub IsFlooring : Mode → Type 0
IsFlooring Trunc = Unit {0}
IsFlooring Sat = Unit {0}
IsFlooring _ = ⊥

-- the first format takes a floor, and the second shifts on to the right
pub record FloorsFirst (f g : Format) : Type 0 where
  pub first : pos 0 ≤ℤ f.shift
  pub later : pos 0 <ℤ g.shift
  pub mode : IsFlooring f.mode

-- of two formats one after the other one alone rounds, as one of the sum of their shifts does in the mode of the second
abbrev pub RoundsOnce : (f g : Format) → Type 0
RoundsOnce f g = (f.shift ≡ pos 0) ⊎ (((g.shift ≡ pos 0) × (f.mode ≡ g.mode)) ⊎ FloorsFirst f g)

-- Format h gives at once, of each exact number, what f and then g give of it: rounded once, and with all bits that g
-- keeps among those that f keeps.
pub record IsJoined (f g h : Format) : Type 0 where
  pub shift : h.shift ≡ f.shift +ℤ g.shift
  pub mode : h.mode ≡ g.mode
  pub width : h.width ≡ g.width
  pub rounds : RoundsOnce f g
  pub first_wraps : IsWrapping f.mode
  pub wraps : IsWrapping g.mode
  pub keeps : (pos g.width +ℤ g.shift) ≤ℤ pos f.width

-- the node whose word node v reads first
abbrev pub passed : Graph → (v : ℕ) → ℕ
passed g v = (edge_of (node_of g v) 0).node

-- Node v is a pass of the word that a product gives in the same sample, and a product of the same operands in this
-- format gives its word at once.
pub record IsFold (g : Graph) (v : ℕ) (fmt : Format) : Type 0 where
  pub there : v < length g.nodes
  pub from : passed g v < length g.nodes
  pub pass : (node_of g v).op ≡ op.Pass
  pub delay : (edge_of (node_of g v) 0).delay ≡ 0
  pub product : (node_of g (passed g v)).op ≡ op.Mul
  pub joined : IsJoined (node_of g (passed g v)).fmt (node_of g v).fmt fmt
