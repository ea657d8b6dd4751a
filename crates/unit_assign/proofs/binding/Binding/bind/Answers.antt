use Rattle.std.proofs.Common.{refl, arith}
use Rattle.unit_assign.proofs.BindingSteps.{load_few, one_more, bound_more}
use Rattle.unit_assign.proofs.binding.Binding.bind.Goals as goal

pub overflow_add-index_mut : goal.overflow_add-index_mut
overflow_add-index_mut c =
    let few = load_few c.args.problem.now.datapath.now c.args.problem.now.lowered.now.nodes c.args.self.now
    c.requires.binding c.args.v c.args.unit c.requires.count c.requires.node c.requires.unit c.index_mut.result.now
    c.from.result c.from.ensures c.index_mut.ensures.value in
    let limit = c.requires.problem.wired.node_count in
    omega arith

pub returns-clause-binding : goal.returns-clause-binding
returns-clause-binding c =
    bound_more c.args.problem.now.datapath.now c.args.problem.now.lowered.now.nodes c.args.self.now
    c.requires.binding c.args.v c.args.unit c.requires.count c.requires.node c.requires.unit c.push.new.self _
    c.index_mut.result.now c.from.result c.narrow.new.allowed c.in_ok-push.ensures.ok c.from.ensures
    c.index_mut.ensures.value refl c.narrow.ensures c.lightest_after-self.result
    (c.lightest_after-self.ensures c.args.self.now.loads
    (one_more c.args.problem.now.datapath.now c.args.problem.now.lowered.now.nodes c.args.self.now
    c.requires.binding c.args.v c.args.unit c.requires.count c.requires.node c.requires.unit _
    c.index_mut.result.now c.from.result c.from.ensures c.index_mut.ensures.value refl)
    c.requires.binding.lightest)
