use Rattle.std.proofs.Common.{None}
use Rattle.silc_files.proofs.Results.{at_error}
use Rattle.net_command.proofs.Preparing.{processor}
use Rattle.plan_commands.specs.Planning.{IsNoInputPlan}
use Rattle.plan_commands.specs.Plans.{IsUnplanned}
use Rattle.plan_commands.proofs.Plans.{of_graph, no_path, no_input_plan}
use Rattle.statuses.specs.declared.status.Ending.{Ending}
use Rattle.net_command.proofs.processors.processor_in.Goals as goal

pub returns-in_err-path-clause-err : goal.returns-in_err-path-clause-err
returns-in_err-path-clause-err c =
    let has = c.in_ok-source.ensures.ok in
    at_error c.from_residual-in_err-path.result
    (record { status = c.in_err-path.field-0.0; line = None; element = None; path = None })
    c.from_residual-in_err-path.ensures.1
    (λ (ending : Ending). IsNoInputPlan c.args.inputs.now.source c.args.inputs.now.datapath ending.status)
    (no_path IsUnplanned c.args.inputs.now.source c.args.inputs.now.datapath has.program
    c.in_ok-source.source.graph has.source_is c.in_err-path.field-0.0 c.in_err-path.ensures.err)

pub returns-in_err-planned-clause-err : goal.returns-in_err-planned-clause-err
returns-in_err-planned-clause-err c =
    let has = c.in_ok-source.ensures.ok in
    at_error c.from_residual-in_err-planned.result c.in_err-planned.field-0.0
    c.from_residual-in_err-planned.ensures.1
    (λ (ending : Ending). IsNoInputPlan c.args.inputs.now.source c.args.inputs.now.datapath ending.status)
    (no_input_plan IsUnplanned c.args.inputs.now.source c.args.inputs.now.datapath has.program
    c.in_ok-source.source.graph has.source_is c.in_ok-path.path c.in_ok-path.ensures.ok
    (of_graph c.in_ok-source.source.graph c.in_ok-path.path) c.in_err-planned.field-0.0.status
    c.in_err-planned.ensures.err)

pub returns-clause-ok : goal.returns-clause-ok
returns-clause-ok c =
    processor c.args.inputs.now c.in_ok-source.source.graph c.in_ok-source.source.ports c.in_ok-source.ensures.ok
    c.in_ok-path.path c.in_ok-path.ensures.ok c.in_ok-planned.planned.path
    c.in_ok-planned.planned.plan c.in_ok-planned.ensures.path c.in_ok-planned.ensures.ok c.in_ok-image.image
    c.in_ok-image.ensures.image c.in_ok-image.ensures.valid c.in_ok-image.ensures.runs
