use Rattle.std.proofs.Common.{◌∙◌, sym, ap, subst, Some, add-one, List, [], ◌∷◌, ◌++◌, take}
use Rattle.std.proofs.Math.Seq.{take-suc}
use Rattle.std.proofs.lemmas.Option.{slice_get-get_or}
use Rattle.silc_files.proofs.Results.{at_error}
use Rattle.net_command.specs.Private.Prepared.{AreProcessors, IsNoProcessor}
use Rattle.net_command.proofs.Preparing.{no_processor, processors_more}
use Rattle.plan_commands.specs.declared.planning.Inputs.{Inputs}
use Rattle.statuses.specs.declared.status.Ending.{Ending}
use Rattle.net_command.proofs.processors.processors_in.Goals as goal

pub returns-in_err-processor_in-clause-err : goal.returns-in_err-processor_in-clause-err
returns-in_err-processor_in-clause-err c =
    at_error c.from_residual.result c.in_err-processor_in.field-0.0 c.from_residual.ensures.1
    (λ (ending : Ending). IsNoProcessor c.args.inputs.now ending.status)
    (no_processor c.args.inputs.now c.loop-one.one-index c.one-item.result c.loop-one.all
    c.in_err-processor_in.field-0.0.status
    (slice_get-get_or c.args.inputs.now c.loop-one.one-index c.one-item.result c.loop-one-test.true
    ∙ ap (λ (x : Inputs). Some x) (sym c.one-item.is))
    c.loop-one.invariant c.in_err-processor_in.ensures.err)

pub loop-one-preserved : goal.loop-one-preserved
loop-one-preserved c =
    let so_far = take c.loop-one.one-index c.args.inputs.now in
    subst (λ (xs : List Inputs). AreProcessors xs c.push.new.self)
    (sym
    (ap (λ n. take n c.args.inputs.now) (add-one c.loop-one.one-index)
    ∙ take-suc c.args.inputs.now c.loop-one.one-index c.one-item.result c.loop-one-test.true
    ∙ ap (λ (x : Inputs). so_far ++ x ∷ []) (sym c.one-item.is)))
    (processors_more (take c.loop-one.one-index c.args.inputs.now) c.one-item.result c.loop-one.all c.push.new.self
    c.in_ok-processor_in.field-0.image c.in_ok-processor_in.field-0.ports c.loop-one.invariant
    c.in_ok-processor_in.ensures.ok c.in_ok-push.ensures.images c.in_ok-push.ensures.ports)
