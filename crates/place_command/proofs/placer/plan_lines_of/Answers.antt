use Rattle.std.proofs.Common.{inl, inr}
use Rattle.silc_files.proofs.Results.{at_error}
use Rattle.place_command.specs.Refusals.{IsUngiven, IsTextRefused}
use Rattle.place_command.specs.Private.Endings.{IsEndingOf}
use Rattle.place_command.proofs.Refusing.{ending_of, registerless_by}
use Rattle.place_command.proofs.placer.plan_lines_of.Goals as goal

pub returns-in_err-places-clause-err : goal.returns-in_err-places-clause-err
returns-in_err-places-clause-err c =
    at_error c.from_residual.result c.in_err-places.field-0.0 c.from_residual.ensures.1
    (IsEndingOf (IsTextRefused c.args.path.now c.args.text.now))
    (ending_of (IsUngiven c.args.path.now c.args.text.now) (IsTextRefused c.args.path.now c.args.text.now)
    (λ refusal h. inr (inl h)) c.in_err-places.field-0.0 c.in_err-places.ensures.err)

pub returns-in-Ok-clause-lines : goal.returns-in-Ok-clause-lines
returns-in-Ok-clause-lines c =
    record { places = c.in_ok-places.ensures.places; registers = c.in-Ok.ensures.registers }

pub returns-in-Err-clause-err : goal.returns-in-Err-clause-err
returns-in-Err-clause-err c =
    registerless_by c.args.path.now c.args.text.now c.requires.short c.in_ok-places.places
    c.in_ok-places.ensures.places c.in-Err.fault c.in-Err.ensures.fault c.registerless.result c.registerless.ensures
