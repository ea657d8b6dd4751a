use Rattle.unit_assign.proofs.CandidateSteps.{best_lightest}
use Rattle.unit_assign.proofs.problem.Problem.best_candidate.Goals as goal

pub returns-in-Some : goal.returns-in-Some
returns-in-Some c =
    best_lightest c.args.self.now.datapath.now c.args.self.now.lowered.now.nodes c.args.binding.now.units c.args.v
    c.args.binding.now.loads c.requires.next.count c.requires.binding.loads c.candidates-candidates.result
    c.args.binding.now.lightest c.intersection-lightest.result c.pop_first.new.self c.in-Some.unit
    c.candidates-candidates.ensures c.requires.binding.lightest c.intersection-lightest.ensures c.in-Some.ensures.first
