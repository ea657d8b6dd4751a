-- What the assembler knows of a plan.
use Rattle.std.specs.Prelude.{◌≡◌, ℕ, ◌<◌, List, [], length, slice_index_or, map, ℤ}
use Rattle.std.specs.List.{AllPairs}
use Rattle.std.specs.List.Sorted.{IsStrictlyIncreasing}
use Rattle.datapath.specs.declared.types.Datapath.{Datapath}
use Rattle.signal_graph.specs.declared.graph.Graph.{Graph}
use Rattle.plan_core.specs.Arcs.{IsArcBefore}
use Rattle.plan_core.specs.declared.plan.Plan.{Plan}
use Rattle.plan_soundness.specs.Machine.{IsMachine}
use Rattle.plan_soundness.specs.Parts.{nodes_of, node_at, arc_at}
use Rattle.plan_soundness.specs.Overlap.{Overlap, one_by_one}
use Rattle.plan_soundness.specs.Feasible.{IsFeasiblePlanOver}

-- the numbers of the samples before sample 0 that have an initial value
abbrev pub samples_of : List (ℕ × ℤ) → List ℕ
samples_of inits = map (λ (i : ℕ × ℤ). i.0) inits

-- a plan whose samples overlap so, with so long a hold and so many spare cells in a line
pub record IsReadyOver (o : Overlap) (hold spare : ℕ) (d : Datapath) (p : Plan) : Type 0 where
  pub graph : Graph
  pub machine : IsMachine d
  pub plan : IsFeasiblePlanOver o hold spare graph d p
  pub arcs : AllPairs IsArcBefore p.arcs
  pub slot_count : length p.schedule.slots ≡ length (nodes_of p)
  pub register_count : length p.registers.regs ≡ length p.arcs
  pub copies : (k : ℕ)
      → k < length p.arcs
      → length (slice_index_or p.registers.regs k []) ≡ (arc_at p k).copies
  pub inits : (v : ℕ) → v < length (nodes_of p) → IsStrictlyIncreasing (samples_of (node_at p v).inits)

-- and one whose samples do not overlap
abbrev pub IsReady : Datapath → Plan → Type 0
IsReady d p = IsReadyOver one_by_one d.hold 1 d p
