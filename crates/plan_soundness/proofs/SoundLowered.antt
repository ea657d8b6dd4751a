-- What holds of the lowered list of a graph.
use Rattle.std.specs.Prelude.{◌≡◌, ℕ, ◌<◌, true, length}
use Rattle.fix_word.specs.declared.operation.Op.TheVariants as op
use Rattle.operations.specs.Operations.{operands}
use Rattle.operations.specs.Ranges.{to_nat}
use Rattle.datapath.specs.declared.types.Datapath.{Datapath}
use Rattle.plan_core.specs.Operands.{Reads}
use Rattle.plan_core.specs.declared.plan.Plan.{Plan}
use Rattle.micro_image.specs.Operations.{gives}
use Rattle.plan_soundness.specs.Parts.{nodes_of, node_at, edge_at}
use Rattle.plan_soundness.specs.Samples.{past}
pub use Rattle.plan_soundness.specs.Feasible.{AreSoundLines}

pub record IsSoundLowered (d : Datapath) (p : Plan) : Type 0 where
  pub operand_count : (v : ℕ) → v < length (nodes_of p) → length (node_at p v).edges ≡ operands (node_at p v).op
  pub edges : (v q : ℕ)
      → v < length (nodes_of p)
      → q < length (node_at p v).edges
      → ((edge_at p v q).node < length (nodes_of p)) × ((edge_at p v q).delay < past)
  pub outputs : (u v : ℕ)
      → u < length (nodes_of p)
      → v < length (nodes_of p)
      → (node_at p u).op ≡ op.Output
      → (node_at p v).op ≡ op.Output
      → to_nat (node_at p u).arg ≡ to_nat (node_at p v).arg
      → u ≡ v
  -- what is read has a result
  pub result : (c q v : ℕ)
      → c < length (nodes_of p)
      → Reads (nodes_of p) c q v
      → gives (node_at p v).op ≡ true
