-- The ports that read each node, as sets.
use Rattle.std.specs.Prelude.{◌≡◌, ℕ, ◌<◌, ◌⊎◌, ◌↔◌, List, length, slice_index_or}
use Rattle.bit_sets.specs.Bits.{Has}
use Rattle.bit_sets.specs.Sets.{none_of_128}
use Rattle.bit_sets.specs.declared.set128.Set128.{Set128}
use Rattle.datapath.specs.declared.types.Datapath.{Datapath}
use Rattle.plan_core.specs.Operands.{Reads}
use Rattle.plan_core.specs.Assigned.{unit_in}
use Rattle.plan_core.specs.declared.schedule.Assigned.{Assigned}
use Rattle.schedule_priority.specs.Problem.{IsProblem}
use Rattle.schedule_priority.specs.Private.Ports.{place}

abbrev pub set_at : List Set128 → ℕ → ℕ
set_at sets v = (slice_index_or sets v none_of_128).bits

-- one of the first k ports of node c, at this place, reads node v
pub record IsReadAt (a : Assigned) (c k v place_of : ℕ) : Type 0 where
  pub q : ℕ
  pub early : q < k
  pub reads : Reads a.lowered.nodes c q v
  pub is : place_of ≡ place (unit_in a.units c) q

-- the first k ports of node c are added to those that read its operands
pub record AddsReads (a : Assigned) (c k : ℕ) (old new : List Set128) : Type 0 where
  pub count : length new ≡ length old
  pub sets : (v j : ℕ) → v < length old → Has (set_at new v) j ↔ (Has (set_at old v) j ⊎ IsReadAt a c k v j)

-- one of the first n nodes reads node v, at the port of this place
pub record IsReadBefore (a : Assigned) (n v place_of : ℕ) : Type 0 where
  pub c : ℕ
  pub early : c < n
  pub q : ℕ
  pub reads : Reads a.lowered.nodes c q v
  pub is : place_of ≡ place (unit_in a.units c) q

-- for each node the ports of the first n nodes that read it
pub record AreReaders (a : Assigned) (n : ℕ) (list : List Set128) : Type 0 where
  pub count : length list ≡ length a.lowered.nodes
  pub sets : (v j : ℕ) → v < length a.lowered.nodes → Has (set_at list v) j ↔ IsReadBefore a n v j

-- the ports that read node v
abbrev pub IsReaderSet : Assigned → ℕ → ℕ → Type 0
IsReaderSet a v set = (j : ℕ) → Has set j ↔ IsReadBefore a (length a.lowered.nodes) v j

-- the list has the ports that read each node of a graph that can be scheduled
pub record AreReadersOf (a : Assigned) (list : List Set128) : Type 0 where
  pub problem : (d : Datapath) × IsProblem d a
  pub readers : AreReaders a (length a.lowered.nodes) list
