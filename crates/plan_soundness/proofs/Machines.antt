-- A datapath that is read from a file has what the hardware has of it.
use Rattle.datapath.specs.Allowed.{IsDatapath}
use Rattle.datapath.specs.declared.types.Datapath.{Datapath}
use Rattle.plan_soundness.specs.Machine.{IsMachine}

pub machine_of : (d : Datapath) → IsDatapath d → IsMachine d
machine_of d is = record {
  period = is.period;
  unit_count = is.unit_count;
  units = is.units;
  bus_count = is.bus_count;
}
