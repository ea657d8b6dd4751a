-- Each node is bound to a functional unit: among the units that do its operation and have all routes that it needs, to
-- the one with the fewest nodes so far.
use Rattle.std.specs.Prelude.{◌≡◌, ℕ, ◌<◌, ◌≤◌, ◌==◌, List, length, take, slice_index_or, count_by}
use Rattle.fix_word.specs.declared.operation.Op.{Op}
use Rattle.fix_word.specs.declared.operation.Op.TheVariants as op
use Rattle.datapath.specs.declared.types.Datapath.{Datapath}
use Rattle.signal_graph.specs.declared.graph.Node.{Node}
use Rattle.plan_core.specs.Hardware.{kind_of, tie_of, port_of, IsOfKind, HasRoute}
use Rattle.plan_core.specs.Operands.{node_of, Reads}
use Rattle.plan_core.specs.declared.schedule.Assigned.{Assigned}

-- the unit of node v
abbrev pub unit_in : List ℕ → ℕ → ℕ
unit_in units v = slice_index_or units v 0

-- unit u can have an operation that is meant for a ram: loads and stores are done by the ram, addresses by its acus
abbrev pub IsForRam : Datapath → Op → (ram u : ℕ) → Type 0
IsForRam d op.Load ram u = u ≡ ram
IsForRam d op.Store ram u = u ≡ ram
IsForRam d op.Addr ram u = tie_of d u ≡ ram
IsForRam d _ ram u = Unit {0}

-- unit u is of the right kind for the node
pub record IsRightUnit (d : Datapath) (node : Node) (u : ℕ) : Type 0 where
  pub kind : IsOfKind d (kind_of node.op) u
  pub ram : IsForRam d node.op node.ram u

-- the units are those of the first nodes, of which v is one or the next
module _ (d : Datapath) (nodes : List Node) (units : List ℕ) where
  -- Node v can be on unit u: there is a route for each edge between it and a node before it, and for each edge from it
  -- to itself.
  pub record IsCandidate (v u : ℕ) : Type 0 where
    pub right : IsRightUnit d (node_of nodes v) u
    pub operands : (q x : ℕ) → x < v → Reads nodes v q x → HasRoute d (unit_in units x) (port_of u q)
    pub itself : (q : ℕ) → Reads nodes v q v → HasRoute d u (port_of u q)
    pub consumers : (c q : ℕ) → c < v → Reads nodes c q v → HasRoute d u (port_of (unit_in units c) q)

  -- how many nodes before v are on unit u
  abbrev pub load_of : (v u : ℕ) → ℕ
  load_of v u = count_by (λ (w : ℕ). w == u) (take v units)

  -- node v goes to unit u: of the candidates with the fewest nodes so far it is the first
  pub record IsUnitFor (v u : ℕ) : Type 0 where
    pub width : (node_of nodes v).width ≤ d.word
    pub candidate : IsCandidate v u
    pub fewest : (other : ℕ) → IsCandidate v other → load_of v u ≤ load_of v other
    pub first : (other : ℕ) → IsCandidate v other → load_of v other ≡ load_of v u → u ≤ other

  -- the units of the first nodes are theirs
  abbrev pub AreUnits : Type 0
  AreUnits = (v : ℕ) → v < length units → IsUnitFor v (unit_in units v)

-- each node has its unit
pub record IsAssigned (d : Datapath) (a : Assigned) : Type 0 where
  pub count : length a.units ≡ length a.lowered.nodes
  pub units : AreUnits d a.lowered.nodes a.units
