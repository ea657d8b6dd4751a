use Rattle.unit_assign.proofs.WiringSteps.{are_kinds}
use Rattle.unit_assign.proofs.kinds.Kinds.of.Goals as goal

pub returns : goal.returns
returns c =
    are_kinds c.args.datapath.now _ c.units_of.ensures c.units_of-2.ensures c.units_of-3.ensures c.units_of-4.ensures
    c.units_of-5.ensures c.units_of-6.ensures c.units_of-7.ensures c.units_of-8.ensures
