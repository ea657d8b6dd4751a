use Rattle.std.proofs.Common.{sym, ap, ◌∙◌, subst}
use Rattle.statuses.specs.Faults.{of_plan}
use Rattle.stage_commands.specs.Planning.{IsWithoutStagePlan}
use Rattle.stage_commands.proofs.Staging.{fault_status}
use Rattle.stage_commands.proofs.planning.stage_plan_over.Goals as goal

pub returns-in-Err-clause-err : goal.returns-in-Err-clause-err
returns-in-Err-clause-err c =
    subst (IsWithoutStagePlan c.args.stages c.args.graph.now c.args.path.now)
    (sym (c.from.ensures ∙ ap of_plan c.plan_fault.ensures))
    (fault_status c.args.stages c.args.graph.now c.args.path.now c.in-Err.fault c.in-Err.ensures.fault)
