-- The height of a node: the length in cycles of the longest path of operations from its issue on, over edges without
-- delay (the critical-path height, which is its priority in list scheduling).
use Rattle.std.specs.Prelude.{◌≡◌, ℕ, ◌+◌, ◌<◌, ◌≤◌, ◌⊎◌, List, length}
use Rattle.datapath.specs.declared.types.Datapath.{Datapath}
use Rattle.signal_graph.specs.declared.graph.Node.{Node}
use Rattle.plan_core.specs.Hardware.{latency_on}
use Rattle.plan_core.specs.Operands.{delay_at, Reads}
use Rattle.plan_core.specs.Assigned.{unit_in}
use Rattle.plan_core.specs.declared.schedule.Assigned.{Assigned}

-- node c reads node v of the same sample
pub record ReadsNow (nodes : List Node) (c q v : ℕ) : Type 0 where
  pub reads : Reads nodes c q v
  pub now : delay_at nodes c q ≡ 0

-- cycles from the issue of node v to its result
abbrev pub latency_of : Datapath → Assigned → ℕ → ℕ
latency_of d a v = latency_on d (unit_in a.units v)

-- The height is the node's latency and the greatest height of its consumers of the same sample, or the latency alone
-- where it has none.
pub record IsHeight (d : Datapath) (a : Assigned) (height : ℕ → ℕ) (v : ℕ) : Type 0 where
  pub alone : latency_of d a v ≤ height v
  pub above : (c q : ℕ) → ReadsNow a.lowered.nodes c q v → latency_of d a v + height c ≤ height v
  pub reached : (height v ≡ latency_of d a v)
      ⊎ ((c : ℕ) × (q : ℕ) × ReadsNow a.lowered.nodes c q v × (height v ≡ latency_of d a v + height c))

abbrev pub AreHeights : Datapath → Assigned → (ℕ → ℕ) → Type 0
AreHeights d a height = (v : ℕ) → v < length a.lowered.nodes → IsHeight d a height v

-- node u is placed before node v: by falling height, then by number
abbrev pub IsPlacedBefore : (ℕ → ℕ) → ℕ → ℕ → Type 0
IsPlacedBefore height u v = (height v < height u) ⊎ ((height u ≡ height v) × (u < v))
