use Rattle.datapath.proofs.AllowedUnits.{units_ok}
use Rattle.datapath.proofs.reader.path_at.Goals as goal

pub all_buses-requires-clause-distinct : goal.all_buses-requires-clause-distinct
all_buses-requires-clause-distinct c =
    rw c.as_slice-2.ensures ((units_ok _ _ c.in_ok-units.ensures.value).distinct)
