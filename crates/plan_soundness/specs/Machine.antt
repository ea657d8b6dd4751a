-- The datapaths whose images run.
use Rattle.std.specs.Prelude.{length, All}
use Rattle.operations.specs.Ranges.{IsWithin}
use Rattle.datapath.specs.Allowed.{IsUnit}
use Rattle.datapath.specs.declared.types.Datapath.{Datapath}

-- What the hardware has of the datapath is allowed: its period, its units and how many buses there are. The hold is of
-- any length.
pub record IsMachine (d : Datapath) : Type 0 where
  pub period : IsWithin 1 4096 d.period
  pub unit_count : IsWithin 1 32 (length d.units)
  pub units : All (IsUnit d.units) d.units
  pub bus_count : IsWithin 1 32 (length d.buses)
