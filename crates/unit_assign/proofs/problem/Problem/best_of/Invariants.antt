use Rattle.unit_assign.proofs.CandidateSteps.{IsChoosing}
use Rattle.unit_assign.proofs.problem.Problem.best_of.Given as goal

abbrev pub invariant-loop-unit : goal.invariant-loop-unit
invariant-loop-unit l =
    IsChoosing l.self.datapath.now l.self.lowered.now.nodes l.binding.units l.v l.left l.best

abbrev pub decreases-loop-unit : goal.decreases-loop-unit
decreases-loop-unit l = l.left.bits
