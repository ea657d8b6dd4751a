use Rattle.std.proofs.Common.{subst, inr, ◌⊎◌, ◌≡◌, List, ℕ}
use Rattle.silc_files.proofs.Results.{at_error}
use Rattle.net_command.specs.Private.Reading.{IsNoNet}
use Rattle.net_command.proofs.NetReading.{file_fault, text_fault, has_net}
use Rattle.net_core.specs.declared.fault.NetFault.TheVariants.{Memory}
use Rattle.net_file.specs.NetRules.{IsNetFileFault}
use Rattle.statuses.specs.Faults.{of_net}
use Rattle.net_command.proofs.reading.net_in.Goals as goal

pub returns-in_err-file-clause-err : goal.returns-in_err-file-clause-err
returns-in_err-file-clause-err c =
    at_error c.from_residual.result (of_net c.in_err-file.field-0.0) c.from_residual.ensures.1
    (IsNoNet c.args.text.now c.args.output.now)
    (file_fault c.args.text.now c.args.output.now c.in_err-file.field-0.0
    (subst (λ (t : List ℕ). (c.in_err-file.field-0.0 ≡ Memory) ⊎ IsNetFileFault t c.in_err-file.field-0.0)
    c.as_slice.ensures c.in_err-file.ensures.fault))

pub returns-in_err-check_names-clause-err : goal.returns-in_err-check_names-clause-err
returns-in_err-check_names-clause-err c =
    at_error c.from_residual-in_err-check_names.result (of_net c.in_err-check_names.field-0.0)
    c.from_residual-in_err-check_names.ensures.1 (IsNoNet c.args.text.now c.args.output.now)
    (text_fault c.args.text.now c.args.output.now c.in_err-check_names.field-0.0
    (inr (record {
      file = c.in_ok-file.file;
      has = has_net c.as_slice.result.now c.args.text.now c.in_ok-file.file c.as_slice.ensures
          c.in_ok-file.ensures.described c.in_ok-file.ensures.allowed c.in_ok-file.ensures.clear;
      first = c.in_err-check_names.ensures.err;
    })))

pub returns-clause-ok : goal.returns-clause-ok
returns-clause-ok c = record {
  has = has_net c.as_slice.result.now c.args.text.now c.in_ok-file.file c.as_slice.ensures
      c.in_ok-file.ensures.described c.in_ok-file.ensures.allowed c.in_ok-file.ensures.clear;
  names = c.in_ok-check_names.ensures.ok;
}
