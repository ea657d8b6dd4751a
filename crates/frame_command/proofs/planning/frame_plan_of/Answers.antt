use Rattle.std.proofs.Common.{None}
use Rattle.lists.proofs.Results.{if_err}
use Rattle.silc_files.proofs.Results.{at_error}
use Rattle.rate_unfold.specs.Frames.{rates}
use Rattle.frame_command.specs.Planning.{IsNoInputFramePlan}
use Rattle.frame_command.proofs.Framing.{no_path, no_plan, input_plan}
use Rattle.statuses.specs.declared.status.Ending.{Ending}
use Rattle.frame_command.proofs.planning.frame_plan_of.Goals as goal

pub returns-clause-ok : goal.returns-clause-ok
returns-clause-ok c =
    input_plan (rates c.args.phases c.args.down.now c.args.up.now) c.args.source.now c.args.datapath.now
    c.in_ok-graph.graph c.in_ok-graph.ensures.ok c.in_ok-path.path c.in_ok-path.ensures.ok
    c.in_ok-path.ensures.allowed c.planned_over.result c.planned_over.ensures.path c.planned_over.ensures.ok

pub returns-clause-err : goal.returns-clause-err
returns-clause-err c =
    if_err c.planned_over.result _ _
    (λ ending.
    no_plan (rates c.args.phases c.args.down.now c.args.up.now) c.args.source.now c.args.datapath.now
    c.in_ok-graph.graph c.in_ok-graph.ensures.ok c.in_ok-path.path c.in_ok-path.ensures.ok ending.status)
    c.planned_over.ensures.err

pub returns-in_err-path-clause-err : goal.returns-in_err-path-clause-err
returns-in_err-path-clause-err c =
    at_error c.from_residual-in_err-path.result
    (record { status = c.in_err-path.field-0.0; line = None; element = None; path = None })
    c.from_residual-in_err-path.ensures.1
    (λ (ending : Ending).
    IsNoInputFramePlan (rates c.args.phases c.args.down.now c.args.up.now) c.args.source.now c.args.datapath.now
    ending.status)
    (no_path (rates c.args.phases c.args.down.now c.args.up.now) c.args.source.now c.args.datapath.now
    c.in_ok-graph.graph c.in_ok-graph.ensures.ok c.in_err-path.field-0.0 c.in_err-path.ensures.err)
