-- Heights in a list, and how they are raised.
use Rattle.std.specs.Prelude.{◌≡◌, ◌≢◌, ℕ, ◌+◌, ◌*◌, ◌<◌, ◌≤◌, ◌⊎◌, List, length, max, slice_index_or}
use Rattle.datapath.specs.declared.types.Datapath.{Datapath}
use Rattle.plan_core.specs.Heights.{ReadsNow, latency_of, AreHeights}
use Rattle.plan_core.specs.declared.schedule.Assigned.{Assigned}
use Rattle.node_order.specs.Topological.{IsAt, IsOrdered}

abbrev pub height_in : List ℕ → ℕ → ℕ
height_in heights v = slice_index_or heights v 0

-- no path of n operations, and one more, takes longer
abbrev pub most_height : ℕ → ℕ
most_height n = 8 * (n + 1)

-- the heights of all nodes
pub record AreHeightsOf (d : Datapath) (a : Assigned) (list : List ℕ) : Type 0 where
  pub count : length list ≡ length a.lowered.nodes
  pub heights : AreHeights d a (height_in list)
  pub small : (v : ℕ) → height_in list v ≤ most_height (length list)

-- the latencies of the first n nodes
pub record AreAlone (d : Datapath) (a : Assigned) (n : ℕ) (heights : List ℕ) : Type 0 where
  pub count : length heights ≡ n
  pub each : (v : ℕ) → v < n → height_in heights v ≡ latency_of d a v

pub record RaisesTo (x height : ℕ) (old new : List ℕ) : Type 0 where
  pub count : length new ≡ length old
  pub here : height_in new x ≡ max (height_in old x) height
  pub others : (w : ℕ) → w ≢ x → height_in new w ≡ height_in old w

-- what node v reads in the same sample at its first k ports comes to be over this height, and nothing else changes
pub record RaisesOperands (d : Datapath) (a : Assigned) (v k height : ℕ) (old new : List ℕ) : Type 0 where
  pub count : length new ≡ length old
  pub keeps : (x : ℕ) → height_in old x ≤ height_in new x
  pub reached : (q x : ℕ) → q < k → ReadsNow a.lowered.nodes v q x → latency_of d a x + height ≤ height_in new x
  pub only : (x : ℕ)
      → (height_in new x ≡ height_in old x)
      ⊎ ((q : ℕ) × ReadsNow a.lowered.nodes v q x × (height_in new x ≡ latency_of d a x + height))

-- each node that is not in the order any more is below what it reads in the same sample
pub record IsRaising (d : Datapath) (a : Assigned) (order heights : List ℕ) : Type 0 where
  pub ordered : IsOrdered a.lowered.nodes order
  pub count : length heights ≡ length a.lowered.nodes
  pub alone : (x : ℕ) → x < length a.lowered.nodes → latency_of d a x ≤ height_in heights x
  pub above : (c : ℕ)
      → c < length a.lowered.nodes
      → IsAt order c
      ⊎ ((q x : ℕ) → ReadsNow a.lowered.nodes c q x → latency_of d a x + height_in heights c ≤ height_in heights x)
  pub reached : (x : ℕ)
      → x < length a.lowered.nodes
      → (height_in heights x ≡ latency_of d a x)
      ⊎ ((c : ℕ)
      × (q : ℕ)
      × ReadsNow a.lowered.nodes c q x
      × (height_in heights x ≤ latency_of d a x + height_in heights c))
  pub small : (x : ℕ)
      → x < length a.lowered.nodes
      → height_in heights x + 8 * length order ≤ most_height (length a.lowered.nodes)
