use Rattle.net_fit.specs.Names.{name_rules}
use Rattle.net_fit.proofs.Answers.{clear, fault}
use Rattle.net_fit.proofs.names.check_names.Goals as goal

pub returns-clause-ok : goal.returns-clause-ok
returns-clause-ok c =
    clear (name_rules c.args.net.now c.args.output.now) c.check_in_order.result c.check_in_order.ensures

pub returns-clause-err : goal.returns-clause-err
returns-clause-err c =
    fault (name_rules c.args.net.now c.args.output.now) c.check_in_order.result c.check_in_order.ensures
