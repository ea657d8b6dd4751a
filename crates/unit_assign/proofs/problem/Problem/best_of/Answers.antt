use Rattle.std.proofs.Common.{sym, subst, arith, ℕ, length, Some}
use Rattle.unit_assign.proofs.CandidateSteps.{IsChoosing, choosing_begins, choosing_goes_on, choosing_ends, best_there}
use Rattle.unit_assign.proofs.problem.Problem.best_of.Goals as goal

pub loop-unit-init : goal.loop-unit-init
loop-unit-init c =
    choosing_begins c.args.self.now.datapath.now c.args.self.now.lowered.now.nodes c.args.binding.now.units c.args.v
    c.args.candidates c.requires.candidates

pub loop-unit-preserved : goal.loop-unit-preserved
loop-unit-preserved c =
    let d = c.args.self.now.datapath.now in
    let nodes = c.args.self.now.lowered.now.nodes in
    let units = c.args.binding.now.units in
    subst (λ (u : ℕ). IsChoosing d nodes units c.args.v c.pop_first.new.self (Some u)) (sym c.lighter.ensures)
    (choosing_goes_on d nodes units c.args.v c.args.binding.now.loads c.requires.next.count c.requires.binding.loads
    c.loop-unit.left c.pop_first.new.self c.loop-unit.best c.in-Some.unit c.loop-unit.invariant c.in-Some.ensures.first)

pub lighter-requires-clause-unit : goal.lighter-requires-clause-unit
lighter-requires-clause-unit c =
    let its = (c.loop-unit.invariant.left_are c.in-Some.unit).0 c.in-Some.ensures.first.taken.there in
    let there = its.0.right.kind.there in
    let count = c.requires.binding.load_count in
    omega arith

pub lighter-requires-clause-best : goal.lighter-requires-clause-best
lighter-requires-clause-best c =
    best_there c.args.self.now.datapath.now c.args.self.now.lowered.now.nodes c.args.binding.now.units c.args.v
    c.loop-unit.invariant.n c.loop-unit.best (length c.args.binding.now.loads) c.requires.binding.load_count
    c.loop-unit.invariant.best_is

pub returns : goal.returns
returns c =
    choosing_ends c.args.self.now.datapath.now c.args.self.now.lowered.now.nodes c.args.binding.now.units c.args.v
    c.loop-unit.left c.loop-unit.best c.loop-unit.invariant c.in_default.ensures.first
