use Rattle.std.proofs.Common.{ap, inl}
use Rattle.std.proofs.lemmas.Result.{err_from_is_err_and}
use Rattle.statuses.specs.declared.status.Ending.{Ending}
use Rattle.silc.proofs.Demonstrating.{runs_cascade, cascade_run}
use Rattle.silc.proofs.demo.make.Goals as goal

pub run_samples-requires-clause-runs : goal.run_samples-requires-clause-runs
run_samples-requires-clause-runs c =
    runs_cascade c.args.sections c.args.samples c.requires.sections.1 c.in_ok-machine.machine c.in_ok-machine.ensures.ok

pub returns-clause-ok : goal.returns-clause-ok
returns-clause-ok c =
    let has = c.in_ok-run.ensures in
    cascade_run c.args.sections c.args.samples c.requires.sections.1 c.in_ok-machine.machine c.in_ok-machine.ensures.ok
    c.in_ok-run.run'.machine c.in_ok-run.run'.totals has c.in_ok-line.line
    (c.in_ok-line.ensures has.words has.sum_is has.last_is)

pub returns-in_err-line-clause-err : goal.returns-in_err-line-clause-err
returns-in_err-line-clause-err c =
    let p = err_from_is_err_and c.from_residual-in_err-line.result c.from_residual-in_err-line.ensures.1 in
    rw p.1 (inl (ap (λ (e : Ending). e.status) p.2))
