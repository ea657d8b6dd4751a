use Rattle.unit_assign.proofs.BindingSteps.{bound_none}
use Rattle.unit_assign.proofs.binding.no_binding.Goals as goal

pub returns-clause-binding : goal.returns-clause-binding
returns-clause-binding c =
    bound_none c.args.problem.now.datapath.now c.args.problem.now.lowered.now.nodes c.in_ok-with_capacity.field-0
    c.in_ok-no_loads.field-0 c.in_ok-all_allowed.field-0 c.len.result c.len-count.result
    c.in_ok-with_capacity.ensures c.in_ok-no_loads.ensures c.in_ok-all_allowed.ensures c.len.ensures
    c.len-count.ensures c.requires.wiring_is.few
    c.full.result c.full.ensures
