use Rattle.std.proofs.Common.{length}
use Rattle.bucket_sort.specs.Linked.{AreLinked}
use Rattle.overlap_plan.specs.IsStagePlan.{plan_of}
use Rattle.overlap_sim.specs.Private.Staged.{issued_in, ended_in}
use Rattle.overlap_sim.proofs.cycles.node_cycles.Given as goal

abbrev pub invariant-loop-i : goal.invariant-loop-i
invariant-loop-i l = record {
  issued : AreLinked (issued_in l.datapath (plan_of l.plan) l.order) l.datapath.period (length l.order) l.i l.issued;
  ended : AreLinked (ended_in l.datapath (plan_of l.plan) l.order) l.datapath.period (length l.order) l.i l.ended;
}
