use Rattle.std.proofs.Common.{refl}
use Rattle.lists.proofs.Results.{on_ok}
use Rattle.desk_core.proofs.WholeLemmas.{any_err}
use Rattle.sample_commands.proofs.Opening.{each_way, err_with_cause, unopened, unopened_only, uncreated, uncreated_only}
use Rattle.sample_commands.proofs.Opening.{both_opened, opened_only}
use Rattle.sample_commands.proofs.streams.open_files.Goals as goal

pub returns-in_err-open_input-clause-only : goal.returns-in_err-open_input-clause-only
returns-in_err-open_input-clause-only g c =
    unopened_only c.args.samples.now c.args.output.now _ _ c.in_err-open_input.ensures.err

pub returns-in_err-open_input-clause-err : goal.returns-in_err-open_input-clause-err
returns-in_err-open_input-clause-err g c =
    any_err _ _
    (unopened c.args.samples.now c.args.output.now _ _ c.in_err-open_input.ensures.err
    (c.in_err-open_input.ensures.cause refl))

pub returns-clause-only : goal.returns-clause-only
returns-clause-only g c =
    let reading = c.in_ok-open_input.ensures.ok in
    each_way c.create.result _ _ _ c.create.ensures.ok c.create.ensures.err
    (opened_only c.args.samples.now c.args.output.now _ _ _ reading)
    (uncreated_only c.args.samples.now c.args.output.now _ _ _ reading)

pub returns-clause-ok : goal.returns-clause-ok
returns-clause-ok g c =
    on_ok _ _ _ (both_opened c.args.samples.now c.args.output.now _ _ _ c.in_ok-open_input.ensures.ok c.requires)
    c.create.ensures.ok

pub returns-clause-err : goal.returns-clause-err
returns-clause-err g c =
    err_with_cause c.create.result _ _ _ c.create.ensures.cause c.create.ensures.err
    (λ rose same.
    uncreated c.args.samples.now c.args.output.now _ _ _ c.in_ok-open_input.ensures.ok
    c.in_ok-open_input.ensures.never_fall same rose)
