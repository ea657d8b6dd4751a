use Rattle.std.proofs.Common.{sym, subst, arith}
use Rattle.plan_core.specs.Assigned.{unit_in}
use Rattle.unit_assign.specs.Private.UnitSets.{Has}
use Rattle.bit_sets.specs.declared.set32.Set32.{Set32}
use Rattle.bit_sets.proofs.Bits.{has_all}
use Rattle.unit_assign.proofs.MissingSteps.{unit_there}
use Rattle.unit_assign.proofs.WiringSteps.{takers_at}
use Rattle.unit_assign.proofs.CandidateSteps.{from_bound, from_later}
use Rattle.unit_assign.proofs.problem.Problem.takers.Goals as goal

pub returns-then-operand-v-2 : goal.returns-then-operand-v-2
returns-then-operand-v-2 c u inside =
    let d = c.args.self.now.datapath.now in
    let nodes = c.args.self.now.lowered.now.nodes in
    let units = c.args.units.now in
    let count = c.requires.next.count in
    let less = c.if-operand-v-2.true in
    from_bound d nodes units c.args.v u c.args.port c.args.operand c.index.result.now less
    (takers_at d c.args.self.now.wiring.now.takers (unit_in units c.args.operand) c.args.port c.place_of.result
    c.index.result.now c.requires.problem.wiring_is.takers
    (unit_there d nodes units c.requires.next.before c.args.operand (omega arith)) c.requires.port c.place_of.ensures
    c.index.ensures u inside)

pub returns-else-operand-v-2 : goal.returns-else-operand-v-2
returns-else-operand-v-2 c u inside =
    let few = c.requires.problem.wiring_is.few in
    let other = c.if-operand-v.false in
    let more = c.if-operand-v-2.false in
    from_later c.args.self.now.datapath.now c.args.self.now.lowered.now.nodes c.args.units.now c.args.v u c.args.port
    c.args.operand c.full.result (omega arith)
    (subst (λ (set : Set32). Has set u) (sym c.full.ensures) (has_all 32 u (omega arith)))
