use Rattle.overlap_plan.specs.IsStagePlan.{plan_of}
use Rattle.overlap_sim.specs.Private.Cells.{AreCellsStarted}
use Rattle.overlap_sim.proofs.starts.units.Given as goal

abbrev pub invariant-loop-l : goal.invariant-loop-l
invariant-loop-l l = AreCellsStarted l.datapath (plan_of l.plan) l.l l.units
