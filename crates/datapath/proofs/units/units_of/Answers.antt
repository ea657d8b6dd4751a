use Rattle.datapath.proofs.Rams.{length-with_rams}
use Rattle.datapath.proofs.units.units_of.Goals as goal

pub returns-clause-bound : goal.returns-clause-bound
returns-clause-bound c =
    rw (c.set_rams.ensures, length-with_rams c.in_ok-units.units c.as_slice-3.result.now, c.in_ok-units.ensures.count)
    c.requires
