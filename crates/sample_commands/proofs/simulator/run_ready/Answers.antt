use Rattle.std.proofs.Common.{rules}
use Rattle.sample_commands.proofs.Simulating.{ran_over, not_run_over}
use Rattle.sample_commands.proofs.simulator.run_ready.Goals as goal

pub returns-in-Done-clause-ok : goal.returns-in-Done-clause-ok
returns-in-Done-clause-ok g c =
    ran_over c.args.samples.now c.args.output.now (g.D.Desk.view c.args.desk.now) (g.D.Desk.view c.run_files.new.desk)
    c.args.ready.machine c.run_files.new.machine c.in-Done.ensures.over

pub returns-in_default-clause-err : goal.returns-in_default-clause-err
returns-in_default-clause-err g c =
    not_run_over c.args.samples.now c.args.output.now (g.D.Desk.view c.args.desk.now)
    (g.D.Desk.view c.run_files.new.desk) c.args.ready.machine c.run_files.new.machine c.run_files.result
    (λ e. absurd (search rules)) c.run_files.ensures.over
