use Rattle.overlap_sim.proofs.GuardSteps.{guarded_is}
use Rattle.overlap_sim.proofs.guarding.guarded_of.Goals as goal

pub returns : goal.returns
returns c =
    guarded_is c.args.datapath.now c.args.plan.now c.in_ok-widths_of.field-0 c.len.result c.in_ok-units.field-0
    c.in_ok-words.field-0 c.in_ok-widths_of.ensures c.in_ok-units.ensures c.len.ensures c.in_ok-words.ensures
