use Rattle.std.proofs.Common.{ap, inl, ◌∙◌}
use Rattle.std.proofs.lemmas.Result.{err_from_is_err_and}
use Rattle.micro_file.proofs.Unique.{in_either}
use Rattle.statuses.specs.declared.status.Ending.{Ending}
use Rattle.sample_commands.proofs.Simulating.{only_memory}
use Rattle.run_command.proofs.Executing.{compiled_machine}
use Rattle.run_command.proofs.runner.compiled_ready.Goals as goal

pub returns-clause-machine : goal.returns-clause-machine
returns-clause-machine g c =
    compiled_machine c.args.source.now c.args.datapath.now (g.D.Desk.view c.args.desk.now)
    (g.D.Desk.view c.read_plan.new.desk) c.in_ok-planned.planned c.in_ok-planned.ensures.ok
    c.in_ok-microcode.microcode c.in_ok-microcode.ensures.ok c.in_ok-machine.machine c.in_ok-machine.ensures.ok

pub returns-in_err-machine-clause-err : goal.returns-in_err-machine-clause-err
returns-in_err-machine-clause-err g c =
    let p = err_from_is_err_and c.from_residual-in_err-machine.result c.from_residual-in_err-machine.ensures.1 in
    let made = c.in_ok-microcode.ensures.ok in
    let memory =
    only_memory c.in_ok-microcode.microcode made.image (in_either made.spelled.spells) c.in_err-machine.field-0.0
    c.in_err-machine.ensures.err in
    rw p.1 (inl (ap (λ (e : Ending). e.status) p.2 ∙ memory, c.in_ok-planned.ensures.reads.unchanged))

pub returns-in_err-rows-clause-err : goal.returns-in_err-rows-clause-err
returns-in_err-rows-clause-err g c =
    let p = err_from_is_err_and c.from_residual-in_err-rows.result c.from_residual-in_err-rows.ensures.1 in
    rw p.1
    (inl (ap (λ (e : Ending). e.status) p.2 ∙ c.in_err-rows.ensures.err, c.in_ok-planned.ensures.reads.unchanged))
