-- The solution of a lowered list, over numbers of samples.
use Rattle.std.specs.Prelude.{◌≡◌, ℕ, ◌+◌, ◌-◌, ◌<◌, length, ℤ, pos, ◌-ℤ◌}
use Rattle.std.specs.Int.{int_rem_euclid}
use Rattle.lists.specs.Rows.{Rows}
use Rattle.fix_word.specs.Values.{apply_of}
use Rattle.fix_word.specs.declared.operation.Op.{Op}
use Rattle.fix_word.specs.declared.operation.Op.TheVariants as op
use Rattle.operations.specs.Ranges.{to_nat}
use Rattle.datapath.specs.declared.types.Datapath.{Datapath}
use Rattle.signal_graph.specs.Rules.{word_before}
use Rattle.signal_graph.specs.Values.{input_word}
use Rattle.signal_graph.specs.declared.graph.Node.{Node}
use Rattle.plan_core.specs.Hardware.{cells_on, tie_of}
use Rattle.plan_core.specs.Operands.{edge_of}
use Rattle.plan_core.specs.declared.plan.Plan.{Plan}
use Rattle.plan_soundness.specs.Parts.{nodes_of, node_at, unit_at, line_at}
use Rattle.plan_soundness.specs.Samples.{past}
use Rattle.plan_soundness.specs.Memory.{LoadsFrom}

-- what an operation gives in sample n, by its operands
abbrev pub meaning_by : Op → Node → Rows → (n : ℕ) → (operand : ℕ → ℤ) → ℤ
meaning_by op.Input node stream n operand = input_word stream n (to_nat node.arg)
meaning_by op.Const node stream n operand = node.arg
meaning_by op.Output node stream n operand = operand 0
meaning_by o node stream n operand = apply_of o node.fmt (operand 0) (operand 1) (operand 2)

abbrev pub meaning : Node → Rows → (n : ℕ) → (operand : ℕ → ℤ) → ℤ
meaning node stream n operand = meaning_by node.op node stream n operand

-- the word of each node at each number of a sample
abbrev pub Counted : Type 0
Counted = ℕ → ℕ → ℤ

-- what port q of the node reads in sample n
abbrev pub operand_in : Counted → Node → (n q : ℕ) → ℤ
operand_in words node n q = words (edge_of node q).node (past + n - (edge_of node q).delay)

-- the operation is one of a graph, from Input to Sel
abbrev pub IsOfGraph : Op → Type 0
IsOfGraph op.Load = ⊥
IsOfGraph op.Store = ⊥
IsOfGraph op.Addr = ⊥
IsOfGraph _ = Unit {0}

-- The words solve the lowered list: a load gives what its line's node gave so many samples ago, and an address
-- its cell.
pub record LoweredSolves (d : Datapath) (p : Plan) (stream : Rows) (words : Counted) : Type 0 where
  pub before : (v s : ℕ)
      → v < length (nodes_of p) → s < past
      → words v s ≡ word_before (node_at p v).inits (past - s)
  pub now : (v n : ℕ)
      → v < length (nodes_of p)
      → n < length stream
      → IsOfGraph (node_at p v).op
      → words v (past + n) ≡ meaning (node_at p v) stream n (operand_in words (node_at p v) n)
  pub load : (v n : ℕ)
      → v < length (nodes_of p)
      → n < length stream
      → (node_at p v).op ≡ op.Load
      → (l : ℕ) × (ago : ℕ) × LoadsFrom d p v l ago × (words v (past + n) ≡ words (line_at p l).node (past + n - ago))
  pub address : (v n : ℕ)
      → v < length (nodes_of p)
      → n < length stream
      → (node_at p v).op ≡ op.Addr
      → words v (past + n) ≡ int_rem_euclid ((node_at p v).arg -ℤ pos n) (pos (cells_on d (tie_of d (unit_at p v))))
