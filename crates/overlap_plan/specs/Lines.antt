-- The loads of a delay line, as they stand behind its store.
use Rattle.std.specs.Prelude.{◌≡◌, ℕ, ℤ, ◌+◌, ◌<◌, ◌≤◌, ◌⊎◌, List, length, pos}
use Rattle.fix_word.specs.declared.operation.Op.{Op}
use Rattle.fix_word.specs.declared.operation.Op.TheVariants as op
use Rattle.signal_graph.specs.declared.graph.Node.{Node}
use Rattle.plan_core.specs.Operands.{node_of, edge_of}

abbrev pub op_at : List Node → ℕ → Op
op_at nodes v = (node_of nodes v).op

-- what stands behind the store of a line, up to the next node of the graph
abbrev pub IsOfLine : Op → Type 0
IsOfLine o = (o ≡ op.Addr) ⊎ (o ≡ op.Load)

-- node x is a load that stands behind the store v, with nothing between but addresses and loads
pub record IsBehind (nodes : List Node) (v x : ℕ) : Type 0 where
  pub store : op_at nodes v ≡ op.Store
  pub load : op_at nodes x ≡ op.Load
  pub there : x < length nodes
  pub behind : v < x
  pub between : (n : ℕ) → v < n → n < x → IsOfLine (op_at nodes n)

-- the address of a store or a load is its first operand
abbrev pub address_of : List Node → ℕ → ℤ
address_of nodes v = (node_of nodes (edge_of (node_of nodes v) 0).node).arg

-- the cells that a store and a load behind it name
pub record AreCells (nodes : List Node) (v x ago : ℕ) : Type 0 where
  pub offset : ℕ
  pub newest : address_of nodes v ≡ pos offset
  pub older : address_of nodes x ≡ pos (offset + ago)
  pub some : 0 < ago
  pub most : ago ≤ 1023
  pub cell : offset ≤ 65536

-- node x loads the word that the store v wrote so many samples before
pub record LoadsBehind (nodes : List Node) (v x ago : ℕ) : Type 0 where
  pub behind : IsBehind nodes v x
  pub cells : AreCells nodes v x ago
