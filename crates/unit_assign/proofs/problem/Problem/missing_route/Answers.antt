use Rattle.unit_assign.proofs.CandidateSteps.{nothing_missing}
use Rattle.unit_assign.proofs.problem.Problem.missing_route.Goals as goal

pub unreachable-requires : goal.unreachable-requires
unreachable-requires c =
    c.requires.none
    (nothing_missing c.args.self.now.datapath.now c.args.self.now.lowered.now c.args.self.now.wiring.now
    c.requires.problem c.args.units.now c.args.v c.args.unit c.requires.next c.requires.right
    c.in_default.ensures c.in-None.ensures)
