use Rattle.unit_assign.proofs.MissingSteps.{routes_at}
use Rattle.unit_assign.proofs.problem.Problem.drivers.Goals as goal

pub returns : goal.returns
returns c u =
    routes_at c.args.self.now.datapath.now c.args.self.now.lowered.now c.args.self.now.wiring.now c.requires.problem
    c.args.unit c.args.port c.place_of.result c.index.result.now c.requires.unit c.requires.port c.place_of.ensures
    c.index.ensures u
