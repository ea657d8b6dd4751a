use Rattle.overlap_plan.specs.IsStagePlan.{plan_of}
use Rattle.overlap_sim.specs.Private.Cells.{AreCellsPut}
use Rattle.overlap_sim.proofs.starts.start_cells.Given as goal

abbrev pub invariant-loop-ago : goal.invariant-loop-ago
invariant-loop-ago l = AreCellsPut l.datapath (plan_of l.plan) l.l l.ago-index l.units
