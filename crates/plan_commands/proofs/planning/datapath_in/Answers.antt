use Rattle.std.proofs.Common.{sym, ap, ◌∙◌, subst}
use Rattle.plan_commands.specs.Planning.{IsNoPath}
use Rattle.silc_files.specs.Reading.{IsInput}
use Rattle.statuses.specs.Faults.{of_path}
use Rattle.silc_files.specs.declared.files.Input.{Input}
use Rattle.silc_files.specs.declared.files.Input.TheVariants.{Whole}
use Rattle.silc_files.proofs.Results.{at_error}
use Rattle.plan_commands.proofs.Plans.{too_long_path, path_error}
use Rattle.plan_commands.proofs.planning.datapath_in.Goals as goal

pub returns-in-TooLong-clause-err : goal.returns-in-TooLong-clause-err
returns-in-TooLong-clause-err c =
    (tt, λ d long. too_long_path d (subst (λ (i : Input). IsInput d i) c.in-TooLong.is long))

pub returns-in_err-read-in-Whole-clause-err : goal.returns-in_err-read-in-Whole-clause-err
returns-in_err-read-in-Whole-clause-err c =
    at_error c.from_residual.result (of_path c.in_err-read-in-Whole.field-0.0) c.from_residual.ensures.1
    (IsNoPath c.args.input.now)
    (subst (λ (i : Input). IsNoPath i (of_path c.in_err-read-in-Whole.field-0.0))
    (ap Whole c.as_slice.ensures ∙ sym c.in-Whole.is)
    (path_error c.as_slice.result.now c.in_err-read-in-Whole.field-0.0 c.in_err-read-in-Whole.ensures.fault))
