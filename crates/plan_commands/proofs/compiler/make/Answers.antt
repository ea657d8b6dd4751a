use Rattle.plan_commands.proofs.Compiled.{made}
use Rattle.plan_commands.proofs.compiler.make.Goals as goal

pub returns-clause-ok : goal.returns-clause-ok
returns-clause-ok g c =
    made c.args.source.now c.args.datapath.now (g.D.Desk.view c.args.desk.now) (g.D.Desk.view c.read_plan.new.desk)
    c.in_ok-planned.planned c.in_ok-planned.ensures.ok
    c.in_ok-microcode_of.field-0 c.in_ok-microcode_of.ensures.ok
