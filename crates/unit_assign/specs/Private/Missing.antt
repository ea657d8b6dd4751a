-- The first missing route.
use Rattle.std.specs.Prelude.{◌≡◌, ℕ, ◌<◌, ◌⊎◌, List}
use Rattle.operations.specs.declared.units.PortRef.{PortRef}
use Rattle.datapath.specs.declared.types.Datapath.{Datapath}
use Rattle.signal_graph.specs.declared.graph.Node.{Node}
use Rattle.plan_core.specs.Hardware.{port_of, HasRoute}
use Rattle.plan_core.specs.Assigned.{unit_in, IsRightUnit}
use Rattle.plan_core.specs.Refusals.{LacksConsumer}
use Rattle.plan_core.specs.declared.delay_lines.Lowered.{Lowered}

-- unit u is the first that is right for the node
pub record IsFirstRight (d : Datapath) (node : Node) (u : ℕ) : Type 0 where
  pub right : IsRightUnit d node u
  pub first : (w : ℕ) → w < u → IsRightUnit d node w → ⊥

module _ (d : Datapath) (l : Lowered) (units : List ℕ) (v u : ℕ) where
  -- on unit u, node v has no route from this node to port q
  abbrev pub LacksFrom : (q operand : ℕ) → Type 0
  LacksFrom q operand =
      ((operand < v) × (HasRoute d (unit_in units operand) (port_of u q) → ⊥))
      ⊎ ((operand ≡ v) × (HasRoute d u (port_of u q) → ⊥))

  -- port q is the first of node c at which it lacks a route from node v
  pub record IsFirstPort (c q : ℕ) : Type 0 where
    pub lacks : LacksConsumer d l units v u c q
    pub first : (p : ℕ) → p < q → LacksConsumer d l units v u c p → ⊥

  -- the port is the first of a consumer, by node, that lacks a route from node v
  pub record IsFirstConsumer (port : PortRef) : Type 0 where
    pub c : ℕ
    pub q : ℕ
    pub lacks : LacksConsumer d l units v u c q
    pub first : (b p : ℕ) → (b < c) ⊎ ((b ≡ c) × (p < q)) → LacksConsumer d l units v u b p → ⊥
    pub is : port ≡ port_of (unit_in units c) q
