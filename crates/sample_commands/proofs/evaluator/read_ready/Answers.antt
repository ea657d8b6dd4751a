use Rattle.silage_syntax.specs.Tree.{view}
use Rattle.sample_commands.proofs.Solving.{its_evaluator}
use Rattle.sample_commands.proofs.evaluator.read_ready.Goals as goal

pub returns-clause-evaluator : goal.returns-clause-evaluator
returns-clause-evaluator g c =
    its_evaluator c.args.source.now (g.D.Desk.view c.args.desk.now) (g.D.Desk.view c.read_source.new.desk)
    (view c.in_ok-accepted.accepted.program)
    c.in_ok-accepted.accepted.graph c.in_ok-ready_for.field-0.evaluator c.in_ok-accepted.ensures.ok
    c.in_ok-ready_for.ensures.graph c.in_ok-ready_for.ensures.ran
