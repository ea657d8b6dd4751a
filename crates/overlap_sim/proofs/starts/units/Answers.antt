use Rattle.std.proofs.Common.{sym, subst}
use Rattle.overlap_plan.specs.IsStagePlan.{plan_of}
use Rattle.overlap_sim.specs.Private.Cells.{AreCellsStarted}
use Rattle.overlap_sim.proofs.CellSteps.{none_started}
use Rattle.overlap_sim.proofs.starts.units.Goals as goal

pub loop-l-init : goal.loop-l-init
loop-l-init c =
    subst (AreCellsStarted c.args.datapath.now (plan_of c.args.plan.now) 0) (sym c.in_ok-units.ensures)
    (none_started c.args.datapath.now (plan_of c.args.plan.now))
