use Rattle.std.proofs.Common.{ap, inl, ◌∙◌}
use Rattle.std.proofs.lemmas.Result.{err_from_is_err_and}
use Rattle.micro_file.proofs.Unique.{in_either}
use Rattle.statuses.specs.declared.status.Ending.{Ending}
use Rattle.sample_commands.proofs.Simulating.{only_memory}
use Rattle.silc.proofs.Demonstrating.{cascade_machine}
use Rattle.silc.proofs.demo.load_cascade.Goals as goal

pub returns-clause-ok : goal.returns-clause-ok
returns-clause-ok c =
    cascade_machine c.args.sections c.requires.1 c.in_ok-planned.planned c.in_ok-planned.ensures.ok
    c.in_ok-microcode.microcode c.in_ok-microcode.ensures.ok
    c.in_ok-machine_of.field-0 c.in_ok-machine_of.ensures.ok

pub returns-in_err-machine_of-clause-err : goal.returns-in_err-machine_of-clause-err
returns-in_err-machine_of-clause-err c =
    let p = err_from_is_err_and c.from_residual-in_err-machine_of.result c.from_residual-in_err-machine_of.ensures.1 in
    let made = c.in_ok-microcode.ensures.ok in
    let memory =
    only_memory c.in_ok-microcode.microcode made.image (in_either made.spelled.spells) c.in_err-machine_of.field-0.0
    c.in_err-machine_of.ensures.err in
    rw p.1 (inl (ap (λ (e : Ending). e.status) p.2 ∙ memory))
