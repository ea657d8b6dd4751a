-- A graph that can be scheduled on a datapath.
use Rattle.datapath.specs.Allowed.{IsDatapath}
use Rattle.datapath.specs.declared.types.Datapath.{Datapath}
use Rattle.plan_core.specs.declared.schedule.Assigned.{Assigned}
use Rattle.schedule_priority.specs.Schedulable.{IsSchedulable}

pub record IsProblem (d : Datapath) (a : Assigned) : Type 0 where
  pub path : IsDatapath d
  pub schedulable : IsSchedulable d a
