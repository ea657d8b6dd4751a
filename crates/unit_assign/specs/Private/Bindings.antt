-- The units of the first nodes, and the choice of the next one.
use Rattle.std.specs.Prelude.{◌≡◌, ◌≢◌, ℕ, ◌+◌, ◌<◌, ◌≤◌, ◌==◌, ◌↔◌, Option, Some, None, if◌then◌else◌, nat_le, List}
use Rattle.std.specs.Prelude.{length, slice_index_or, count_by}
use Rattle.operations.specs.declared.units.Kind.{Kind}
use Rattle.datapath.specs.declared.types.Datapath.{Datapath}
use Rattle.signal_graph.specs.declared.graph.Node.{Node}
use Rattle.plan_core.specs.Hardware.{port_of, IsOfKind, HasRoute}
use Rattle.plan_core.specs.Operands.{node_of, Reads}
use Rattle.plan_core.specs.Assigned.{unit_in, IsRightUnit, IsCandidate, load_of, AreUnits}
use Rattle.unit_assign.specs.Private.UnitSets.{Has, set_at}
use Rattle.unit_assign.specs.declared.binding.Binding.{Binding}
use Rattle.bit_sets.specs.declared.set32.Set32.{Set32}

-- how many nodes are bound to unit u
abbrev pub load_in : List ℕ → ℕ → ℕ
load_in loads u = slice_index_or loads u 0

-- one node more is bound to the unit
pub record IsOneMore (old new : List ℕ) (unit : ℕ) : Type 0 where
  pub more : load_in new unit ≡ load_in old unit + 1
  pub same : (u : ℕ) → u ≢ unit → load_in new u ≡ load_in old u

-- the set has of each kind the units with the fewest nodes
pub record AreLightest (d : Datapath) (loads : List ℕ) (set : Set32) : Type 0 where
  pub fewest : (kind : Kind) (u w : ℕ)
      → IsOfKind d kind u
      → IsOfKind d kind w
      → Has set u
      → load_in loads u ≤ load_in loads w
  pub every : (kind : Kind) (u w : ℕ)
      → IsOfKind d kind u
      → IsOfKind d kind w
      → Has set u
      → load_in loads w ≡ load_in loads u
      → Has set w
  pub some : (kind : Kind) (u : ℕ) → IsOfKind d kind u → (w : ℕ) × IsOfKind d kind w × Has set w

module _ (d : Datapath) (nodes : List Node) where
  -- of the first n nodes, each that reads node x has a route from unit u
  abbrev pub IsAllowed : List ℕ → (n x u : ℕ) → Type 0
  IsAllowed units n x u = (c q : ℕ) → c < n → Reads nodes c q x → HasRoute d u (port_of (unit_in units c) q)

  pub record AreAllowed (units : List ℕ) (n : ℕ) (sets : List Set32) : Type 0 where
    pub count : length sets ≡ length nodes
    pub allowed : (x u : ℕ) → x < length nodes → u < length d.units → Has (set_at sets x) u ↔ IsAllowed units n x u

  -- where node v, on this unit, reads a node at one of its first k ports, the units stay that have a route to the port
  pub record IsNarrowed (v unit k : ℕ) (old new : List Set32) : Type 0 where
    pub count : length new ≡ length old
    pub sets : (x u : ℕ)
        → x < length old
        → Has (set_at new x) u
        ↔ (Has (set_at old x) u × ((q : ℕ) → q < k → Reads nodes v q x → HasRoute d u (port_of unit q)))

  -- the counts and the sets are those of the units
  pub record IsBinding (binding : Binding) : Type 0 where
    pub count : length binding.units ≤ length nodes
    pub units : AreUnits d nodes binding.units
    pub load_count : length binding.loads ≡ length d.units
    pub loads : (u : ℕ) → u < length d.units → load_in binding.loads u ≡ count_by (λ (w : ℕ). w == u) binding.units
    pub sets : AreAllowed binding.units (length binding.units) binding.allowed
    pub lightest : AreLightest d binding.loads binding.lightest

  -- on unit u, node v has a route to port q from this node, if that is bound or v itself
  abbrev pub HasRouteFrom : (units : List ℕ) (v u q operand : ℕ) → Type 0
  HasRouteFrom units v u q operand =
      (operand < v → HasRoute d (unit_in units operand) (port_of u q))
      × (operand ≡ v → HasRoute d u (port_of u q))

  -- node v can be on unit u, as far as its first k ports tell
  pub record IsLeft (units : List ℕ) (v k u : ℕ) : Type 0 where
    pub right : IsRightUnit d (node_of nodes v) u
    pub consumers : IsAllowed units v v u
    pub operands : (q x : ℕ) → q < k → Reads nodes v q x → HasRouteFrom units v u q x

  -- of the candidates below n, unit u is the first with the fewest nodes
  pub record IsBestOf (units : List ℕ) (v n u : ℕ) : Type 0 where
    pub below : u < n
    pub candidate : IsCandidate d nodes units v u
    pub fewest : (w : ℕ) → w < n → IsCandidate d nodes units v w → load_of d nodes units v u ≤ load_of d nodes units v w
    pub first : (w : ℕ)
        → w < n
        → IsCandidate d nodes units v w
        → load_of d nodes units v w ≡ load_of d nodes units v u
        → u ≤ w

  abbrev pub IsBest : (units : List ℕ) (v n : ℕ) → Option ℕ → Type 0
  IsBest units v n None = (u : ℕ) → u < n → IsCandidate d nodes units v u → ⊥
  IsBest units v n (Some u) = IsBestOf units v n u

-- of two units the one with fewer nodes, or the first
abbrev pub lighter_of : List ℕ → Option ℕ → ℕ → ℕ
lighter_of loads None unit = unit
lighter_of loads (Some first) unit = if nat_le (load_in loads first) (load_in loads unit) then first else unit
