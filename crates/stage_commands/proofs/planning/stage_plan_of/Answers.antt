use Rattle.std.proofs.Common.{None}
use Rattle.lists.proofs.Results.{if_err}
use Rattle.silc_files.proofs.Results.{at_error}
use Rattle.silage_syntax.specs.Tree.{view}
use Rattle.plan_commands.proofs.Plans.{no_path, no_input_plan}
use Rattle.stage_commands.specs.Planning.{IsNoInputStagePlan}
use Rattle.stage_commands.specs.StagePlans.{IsUnstaged}
use Rattle.stage_commands.proofs.Staging.{of_stages, input_stage_plan}
use Rattle.stage_commands.proofs.planning.stage_plan_of.Goals as goal
use Rattle.statuses.specs.declared.status.Ending.{Ending}

pub returns-clause-err : goal.returns-clause-err
returns-clause-err c =
    if_err c.staged_over.result _ _
    (λ ending.
    no_input_plan (IsUnstaged c.args.stages) c.args.source.now c.args.datapath.now
    (view c.in_ok-accepted.accepted.program) c.in_ok-accepted.accepted.graph c.in_ok-accepted.ensures.ok
    c.in_ok-path.path c.in_ok-path.ensures.ok
    (of_stages c.args.stages c.in_ok-accepted.accepted.graph c.in_ok-path.path) ending.status)
    c.staged_over.ensures.err

pub returns-in_err-path-clause-err : goal.returns-in_err-path-clause-err
returns-in_err-path-clause-err c =
    at_error c.from_residual-in_err-path.result
    (record { status = c.in_err-path.field-0.0; line = None; element = None; path = None })
    c.from_residual-in_err-path.ensures.1
    (λ (ending : Ending). IsNoInputStagePlan c.args.stages c.args.source.now c.args.datapath.now ending.status)
    (no_path (IsUnstaged c.args.stages) c.args.source.now c.args.datapath.now (view c.in_ok-accepted.accepted.program)
    c.in_ok-accepted.accepted.graph c.in_ok-accepted.ensures.ok c.in_err-path.field-0.0 c.in_err-path.ensures.err)

pub returns-clause-ok : goal.returns-clause-ok
returns-clause-ok c =
    input_stage_plan c.args.stages c.args.source.now c.args.datapath.now (view c.in_ok-accepted.accepted.program)
    c.in_ok-accepted.accepted.graph c.in_ok-accepted.ensures.ok
    c.in_ok-accepted.ensures.graph c.in_ok-path.path c.in_ok-path.ensures.ok c.in_ok-path.ensures.allowed
    c.staged_over.result c.staged_over.ensures.path
    c.staged_over.ensures.ok
