use Rattle.std.proofs.Common.{refl, Ok, Err}
use Rattle.statuses.specs.Faults.{of_plan}
use Rattle.plan_commands.proofs.PlanAnswers.{refusal_told, plan_found, not_refused, tells_why}
use Rattle.plan_commands.proofs.planning.plan_over.Goals as goal

pub returns-clause-found : goal.returns-clause-found
returns-clause-found c =
    plan_found c.args.graph c.args.path.now (Ok c.in_ok-plan.field-0) c.in_ok-plan.ensures.found
    c.in_ok-plan.ensures.refused c.in_ok-plan.field-0 refl

pub returns-clause-refused : goal.returns-clause-refused
returns-clause-refused c =
    not_refused c.args.graph c.args.path.now (Ok c.in_ok-plan.field-0) c.in_ok-plan.ensures.found
    c.in_ok-plan.ensures.refused c.in_ok-plan.field-0 refl

pub returns-in_err-plan-clause-refused : goal.returns-in_err-plan-clause-refused
returns-in_err-plan-clause-refused c =
    λ why has.
    tells_why c.from_residual.result (of_plan c.in_err-plan.field-0.0) c.from_residual.ensures.1 why
    (refusal_told c.args.graph c.args.path.now (Err c.in_err-plan.field-0.0) c.in_err-plan.ensures.found
    c.in_err-plan.ensures.refused
    c.in_err-plan.field-0.0 (of_plan c.in_err-plan.field-0.0) refl refl why has)
