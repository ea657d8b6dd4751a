use Rattle.std.proofs.Common.{◌≡◌, ℕ, List, length, subst, rules}
use Rattle.schedule_priority.specs.Private.Heights.{IsRaising}
use Rattle.schedule_priority.proofs.Raising.{raising_goes_on, raising_ends}
use Rattle.schedule_priority.proofs.heights.raise_all.Goals as goal

pub loop-v-preserved : goal.loop-v-preserved
loop-v-preserved c =
    let d = c.args.problem.now.datapath.now in
    let a = c.args.problem.now.assigned.now in
    raising_goes_on d a c.requires.problem c.pop.new.self.items c.in-Some.v c.loop-v.heights
    c.raise_operands.new.heights
    (subst (λ (xs : List ℕ). IsRaising d a xs c.loop-v.heights) c.in-Some.ensures.items c.loop-v.invariant)
    c.raise_operands.ensures

pub returns : goal.returns
returns c =
    let empty : length c.loop-v.order.items ≡ 0 = search rules in
    raising_ends c.args.problem.now.datapath.now c.args.problem.now.assigned.now c.requires.problem
    c.loop-v.order.items c.loop-v.heights empty c.loop-v.invariant
