-- The nodes that write and read delay lines.
use Rattle.std.specs.Prelude.{◌≡◌, ℕ, ◌+◌, ◌<◌, ◌≤◌, length, pos}
use Rattle.fix_word.specs.declared.operation.Op.TheVariants as op
use Rattle.datapath.specs.declared.types.Datapath.{Datapath}
use Rattle.plan_core.specs.Hardware.{tie_of}
use Rattle.plan_core.specs.declared.delay_lines.Line.{Line}
use Rattle.plan_core.specs.declared.plan.Plan.{Plan}
use Rattle.plan_soundness.specs.Parts.{lines_of, node_at, edge_at, unit_at, line_at}

-- the number of the node that writes the line: behind the node whose words it keeps are an address and the store
abbrev pub store_of : Line → ℕ
store_of line = line.node + 2

-- node v has the address of this offset for its first operand
pub record HasAddress (d : Datapath) (p : Plan) (v ram offset : ℕ) : Type 0 where
  pub is_address : (node_at p (edge_at p v 0).node).op ≡ op.Addr
  pub argument : (node_at p (edge_at p v 0).node).arg ≡ pos offset
  pub tied : tie_of d (unit_at p (edge_at p v 0).node) ≡ ram
  pub now : (edge_at p v 0).delay ≡ 0

-- node v loads what line l keeps of so many samples ago
pub record LoadsFrom (d : Datapath) (p : Plan) (v l ago : ℕ) : Type 0 where
  pub there : l < length (lines_of p)
  pub before : 0 < ago
  pub depth : ago ≤ (line_at p l).depth
  pub unit : unit_at p v ≡ (line_at p l).ram
  pub address : HasAddress d p v (line_at p l).ram ((line_at p l).offset + ago)

-- node v stores into line l
pub record StoresTo (d : Datapath) (p : Plan) (v l : ℕ) : Type 0 where
  pub there : l < length (lines_of p)
  pub its_number : store_of (line_at p l) ≡ v
  pub is_store : (node_at p v).op ≡ op.Store
  pub unit : unit_at p v ≡ (line_at p l).ram
  pub address : HasAddress d p v (line_at p l).ram (line_at p l).offset
  pub value : (edge_at p v 1).node ≡ (line_at p l).node
  pub now : (edge_at p v 1).delay ≡ 0
