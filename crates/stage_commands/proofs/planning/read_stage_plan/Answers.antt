use Rattle.std.proofs.Common.{None}
use Rattle.lists.proofs.Results.{if_err}
use Rattle.silc_files.proofs.Results.{if_ok, at_error}
use Rattle.plan_commands.specs.Refusals.{IsRefusal}
use Rattle.plan_commands.proofs.Errors.{read_plan, not_read, not_planned}
use Rattle.stage_commands.specs.StagePlans.{IsStagePlanOf, IsStageRefused, IsStageError}
use Rattle.stage_commands.specs.declared.planning.StagePlanned.{StagePlanned}
use Rattle.stage_commands.proofs.planning.read_stage_plan.Goals as goal
use Rattle.statuses.specs.declared.status.Ending.{Ending}

pub returns-clause-ok : goal.returns-clause-ok
returns-clause-ok g c =
    if_ok c.stage_plan_of.result _ _
    (λ (planned : StagePlanned).
    read_plan (IsStagePlanOf c.args.stages) c.args.source.now c.args.datapath.now (g.D.Desk.view c.args.desk.now)
    (g.D.Desk.view c.read_inputs.new.desk) c.in_ok-inputs.inputs c.in_ok-inputs.ensures.ok planned.path planned.plan)
    c.stage_plan_of.ensures.ok

pub returns-clause-err : goal.returns-clause-err
returns-clause-err g c =
    if_err c.stage_plan_of.result _ _
    (λ ending.
    not_planned IsRefusal (IsStageRefused c.args.stages) c.args.source.now c.args.datapath.now
    (g.D.Desk.view c.args.desk.now)
    (g.D.Desk.view c.read_inputs.new.desk) c.in_ok-inputs.ensures.reads c.in_ok-inputs.inputs
    c.in_ok-inputs.ensures.ok ending.status)
    c.stage_plan_of.ensures.err

pub returns-in_err-inputs-clause-err : goal.returns-in_err-inputs-clause-err
returns-in_err-inputs-clause-err g c =
    at_error c.from_residual.result
    (record { status = c.in_err-inputs.field-0.0; line = None; element = None; path = None })
    c.from_residual.ensures.1
    (λ (ending : Ending).
    IsStageError c.args.stages c.args.source.now c.args.datapath.now (g.D.Desk.view c.args.desk.now)
    (g.D.Desk.view c.read_inputs.new.desk) ending.status)
    (not_read IsRefusal (IsStageRefused c.args.stages) c.args.source.now c.args.datapath.now
    (g.D.Desk.view c.args.desk.now)
    (g.D.Desk.view c.read_inputs.new.desk) c.in_err-inputs.field-0.0 c.in_err-inputs.ensures.err)
