-- The lifetimes of each node.
use Rattle.std.specs.Prelude.{ℕ, ◌<◌, List, length, All}
use Rattle.operations.specs.declared.units.PortRef.{PortRef}
use Rattle.plan_core.specs.Arcs.{arc_of, IsArcFor}
use Rattle.plan_core.specs.declared.registers.Arc.{Arc}
use Rattle.bucket_sort.specs.Linked.{AreBuckets}
use Rattle.bucket_sort.specs.declared.Buckets.{Buckets}

-- they are of so many nodes, and each is written in a cycle of the period
abbrev pub AreLifetimes : (nodes period : ℕ) → List Arc → Type 0
AreLifetimes nodes period arcs = All (λ (arc : Arc). (arc.node < nodes) × (arc.w < period)) arcs

-- the lifetimes by the node whose words they keep
abbrev pub AreKept : (nodes : ℕ) → List Arc → Buckets → Type 0
AreKept nodes arcs by = AreBuckets (λ (k : ℕ). (arc_of arcs k).node) nodes (length arcs) by

-- the lifetimes by the cycle of their write
abbrev pub AreWritten : (period : ℕ) → List Arc → Buckets → Type 0
AreWritten period arcs by = AreBuckets (λ (k : ℕ). (arc_of arcs k).w) period (length arcs) by

-- lifetime k is for the words of node v at the port
pub record IsFoundArc (arcs : List Arc) (v : ℕ) (port : PortRef) (k : ℕ) : Type 0 where
  pub there : k < length arcs
  pub for : IsArcFor v port (arc_of arcs k)
