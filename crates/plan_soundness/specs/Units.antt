-- What a run needs of the units and the buses of a plan, by whatever rule they are chosen.
use Rattle.std.specs.Prelude.{◌≡◌, ℕ, ◌<◌, length, Contains}
use Rattle.datapath.specs.declared.types.Datapath.{Datapath}
use Rattle.plan_core.specs.Hardware.{IsRoute}
use Rattle.plan_core.specs.Operands.{node_of}
use Rattle.plan_core.specs.Assigned.{unit_in, IsRightUnit}
use Rattle.plan_core.specs.declared.schedule.Assigned.{Assigned}
use Rattle.plan_core.specs.declared.schedule.Transfer.{Transfer}
use Rattle.plan_core.specs.declared.plan.Plan.{Plan}
use Rattle.plan_soundness.specs.Parts.{nodes_of, unit_at, transfers_at}

-- each node has a unit, which is of the right kind
pub record AreOnRightUnits (d : Datapath) (a : Assigned) : Type 0 where
  pub count : length a.units ≡ length a.lowered.nodes
  pub right : (v : ℕ) → v < length a.lowered.nodes → IsRightUnit d (node_of a.lowered.nodes v) (unit_in a.units v)

-- each transfer goes over a route of the datapath
abbrev pub IsRouted : Datapath → Plan → Type 0
IsRouted d p =
    (v : ℕ) (t : Transfer)
    → v < length (nodes_of p) → Contains (transfers_at p v) t
    → IsRoute d (unit_at p v) t.port t.bus
