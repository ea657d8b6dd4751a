-- Why a node cannot stand at its place where samples overlap.
use Rattle.std.specs.Prelude.{ℕ, ◌+◌, ◌*◌, ◌<◌, ◌≤◌}
use Rattle.operations.specs.declared.units.PortRef.{PortRef}
use Rattle.datapath.specs.declared.types.Datapath.{Datapath}
use Rattle.plan_core.specs.Hardware.{gap_on}
use Rattle.plan_core.specs.Assigned.{unit_in}
use Rattle.plan_core.specs.Heights.{latency_of}
use Rattle.plan_core.specs.Reservations.{result_on, IsUnitFreeOver, IsFileFreeOver, IsFreeRouteOver}
use Rattle.plan_core.specs.ListSchedule.{IsDestination, IsTakenBefore, AreOperandsThere}
use Rattle.plan_core.specs.Stages.{IsGapAround, IsSameAround}
use Rattle.plan_core.specs.declared.schedule.Assigned.{Assigned}
use Rattle.plan_core.specs.declared.schedule.Schedule.{Schedule}

-- At cycle t, where these are the slots of the nodes that are placed before node v. Each cause is that of a node for
-- which those before it are none.
module _ (stages : ℕ) (d : Datapath) (a : Assigned) (s : Schedule) (height : ℕ → ℕ) (v t : ℕ) where
  abbrev u : ℕ
  u = unit_in a.units v

  -- an operand of the same sample is not there
  abbrev pub IsLate : Type 0
  IsLate = AreOperandsThere d a s v t → ⊥

  -- it does not end in its stages
  pub record IsPastStages : Type 0 where
    pub operands : AreOperandsThere d a s v t
    pub past : stages * d.period < t + latency_of d a v

  -- its unit is free, and free again a period later
  pub record IsFreeAround : Type 0 where
    pub again : gap_on d u ≤ d.period
    pub free : IsUnitFreeOver (IsGapAround d.period) (IsSameAround d.period) d (IsTakenBefore a s height v) u t

  -- it is not
  pub record IsBusyAround : Type 0 where
    pub operands : AreOperandsThere d a s v t
    pub ends : t + latency_of d a v ≤ stages * d.period
    pub busy : IsFreeAround → ⊥

  -- its result can be transferred to the port: its register file is not written, and a bus to it is free
  pub record HasTransferAround (port : PortRef) : Type 0 where
    pub file :
        IsFileFreeOver (IsGapAround d.period) (IsSameAround d.period) d (IsTakenBefore a s height v) (result_on d u t)
        port
    pub bus : (b : ℕ)
        × IsFreeRouteOver (IsGapAround d.period) (IsSameAround d.period) d (IsTakenBefore a s height v) u
        (result_on d u t) port b

  -- its result can't be transferred to every port that reads it
  pub record IsBlockedAround : Type 0 where
    pub operands : AreOperandsThere d a s v t
    pub ends : t + latency_of d a v ≤ stages * d.period
    pub free : IsFreeAround
    pub blocked : ((port : PortRef) → IsDestination a v port → HasTransferAround port) → ⊥
