use Rattle.std.proofs.Common.{refl}
use Rattle.silage_syntax.specs.Tree.{view}
use Rattle.plan_commands.specs.Refusals.{IsNoPlan}
use Rattle.statuses.specs.Faults.{of_front, of_path}
use Rattle.plan_commands.proofs.Plans.{planned_over}
use Rattle.plan_commands.proofs.PlanAnswers.{source_plan, source_refusal, datapath_plan, datapath_refusal, its_plan}
use Rattle.plan_commands.proofs.PlanAnswers.{its_refusal, no_plan, refusal_is, no_path_plan}
use Rattle.silc_files.proofs.Results.{at_error}
use Rattle.plan_commands.proofs.planning.plan_of.Goals as goal

pub returns-clause-ok : goal.returns-clause-ok
returns-clause-ok c = (
  view c.in_ok-accepted.accepted.program,
  planned_over c.args.src.now c.args.path.now (view c.in_ok-accepted.accepted.program) c.in_ok-accepted.ensures.ok
      c.in_ok-accepted.accepted.graph c.in_ok-accepted.ensures.graph c.in_ok-path.path c.in_ok-path.ensures.described
      c.in_ok-plan.plan c.in_ok-plan.ensures.ok,
)

pub returns-in_err-accepted-clause-each_plan : goal.returns-in_err-accepted-clause-each_plan
returns-in_err-accepted-clause-each_plan c =
    λ d p has.
    no_plan c.from_residual.result (of_front c.in_err-accepted.field-0.0.error) c.from_residual.ensures.1 d p
    (source_plan c.args.src.now c.args.path.now c.in_err-accepted.field-0.0.error
    (of_front c.in_err-accepted.field-0.0.error) refl
    c.in_err-accepted.ensures.each_program c.in_err-accepted.ensures.each_fault d p has)

pub returns-in_err-accepted-clause-each_refusal : goal.returns-in_err-accepted-clause-each_refusal
returns-in_err-accepted-clause-each_refusal c =
    λ why is h.
    refusal_is c.from_residual.result (of_front c.in_err-accepted.field-0.0.error) c.from_residual.ensures.1 why
    (source_refusal c.args.src.now c.args.path.now c.in_err-accepted.field-0.0.error
    (of_front c.in_err-accepted.field-0.0.error) refl
    c.in_err-accepted.ensures.each_program c.in_err-accepted.ensures.each_fault why is h)

pub returns-in_err-path-clause-each_plan : goal.returns-in_err-path-clause-each_plan
returns-in_err-path-clause-each_plan c =
    λ d p has.
    no_plan c.from_residual-in_err-path.result (of_path c.in_err-path.field-0.0) c.from_residual-in_err-path.ensures.1 d
    p
    (datapath_plan c.args.src.now c.args.path.now (view c.in_ok-accepted.accepted.program) c.in_ok-accepted.ensures.ok
    c.in_err-path.field-0.0 (of_path c.in_err-path.field-0.0) refl c.in_err-path.ensures.found
    c.in_err-path.ensures.refused d p has)

pub returns-in_err-path-clause-each_refusal : goal.returns-in_err-path-clause-each_refusal
returns-in_err-path-clause-each_refusal c =
    λ why is h.
    refusal_is c.from_residual-in_err-path.result (of_path c.in_err-path.field-0.0)
    c.from_residual-in_err-path.ensures.1 why
    (datapath_refusal c.args.src.now c.args.path.now (view c.in_ok-accepted.accepted.program)
    c.in_ok-accepted.ensures.ok
    c.in_err-path.field-0.0 (of_path c.in_err-path.field-0.0) refl c.in_err-path.ensures.found
    c.in_err-path.ensures.refused why is h)

pub returns-in_err-plan-clause-each_plan : goal.returns-in_err-plan-clause-each_plan
returns-in_err-plan-clause-each_plan c =
    λ d p has.
    no_plan c.from_residual-in_err-plan.result (c.in_err-plan.field-0.0) c.from_residual-in_err-plan.ensures.1 d p
    (c.in_err-plan.ensures.found p
    (its_plan c.args.src.now c.args.path.now (view c.in_ok-accepted.accepted.program) c.in_ok-accepted.ensures.ok
    c.in_ok-accepted.accepted.graph c.in_ok-accepted.ensures.graph c.in_ok-path.path c.in_ok-path.ensures.described d p
    has).1)

pub returns-in_err-plan-clause-each_refusal : goal.returns-in_err-plan-clause-each_refusal
returns-in_err-plan-clause-each_refusal c =
    λ why is h.
    refusal_is c.from_residual-in_err-plan.result (c.in_err-plan.field-0.0) c.from_residual-in_err-plan.ensures.1 why
    (c.in_err-plan.ensures.refused why
    (its_refusal c.args.src.now c.args.path.now (view c.in_ok-accepted.accepted.program) c.in_ok-accepted.ensures.ok
    c.in_ok-accepted.accepted.graph c.in_ok-accepted.ensures.graph c.in_ok-path.path c.in_ok-path.ensures.described why
    is h))

pub returns-clause-each_plan : goal.returns-clause-each_plan
returns-clause-each_plan c =
    λ d p has.
    let it =
    its_plan c.args.src.now c.args.path.now (view c.in_ok-accepted.accepted.program) c.in_ok-accepted.ensures.ok
    c.in_ok-accepted.accepted.graph c.in_ok-accepted.ensures.graph c.in_ok-path.path c.in_ok-path.ensures.described d p
    has in
    (it.0, c.in_ok-plan.ensures.found p it.1)

pub returns-clause-each_refusal : goal.returns-clause-each_refusal
returns-clause-each_refusal c =
    λ why is h.
    c.in_ok-plan.ensures.refused why
    (its_refusal c.args.src.now c.args.path.now (view c.in_ok-accepted.accepted.program) c.in_ok-accepted.ensures.ok
    c.in_ok-accepted.accepted.graph c.in_ok-accepted.ensures.graph c.in_ok-path.path c.in_ok-path.ensures.described why
    is h)

pub returns-in_err-path-clause-err : goal.returns-in_err-path-clause-err
returns-in_err-path-clause-err c =
    at_error c.from_residual-in_err-path.result (of_path c.in_err-path.field-0.0) c.from_residual-in_err-path.ensures.1
    (IsNoPlan c.args.src.now c.args.path.now)
    (no_path_plan c.args.src.now c.args.path.now (view c.in_ok-accepted.accepted.program) c.in_ok-accepted.ensures.ok
    c.in_err-path.field-0.0 c.in_err-path.ensures.fault)
