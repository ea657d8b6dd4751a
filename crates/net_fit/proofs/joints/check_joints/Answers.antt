use Rattle.net_fit.specs.Joints.{joint_rules}
use Rattle.net_fit.proofs.Answers.{clear, fault}
use Rattle.net_fit.proofs.joints.check_joints.Goals as goal

pub returns-clause-ok : goal.returns-clause-ok
returns-clause-ok c =
    clear (joint_rules c.args.procs.now c.args.ports.now) c.check_in_order.result c.check_in_order.ensures

pub returns-clause-err : goal.returns-clause-err
returns-clause-err c =
    fault (joint_rules c.args.procs.now c.args.ports.now) c.check_in_order.result c.check_in_order.ensures
