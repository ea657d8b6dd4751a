use Rattle.schedule_priority.proofs.PortSets.{none_listed, one_listed, some_listed, all_listed}
use Rattle.schedule_priority.proofs.ports.list_ports.Goals as goal

pub loop-first-init : goal.loop-first-init
loop-first-init c = none_listed c.args.set.bits c.clear.new.self.items c.clear.ensures.items

pub loop-first-preserved : goal.loop-first-preserved
loop-first-preserved c =
    one_listed c.args.set.bits c.loop-first.left.bits c.pop_first.new.self.bits c.loop-first.ports.items
    c.push.new.self.items c.in-Some.first c.loop-first.invariant c.in-Some.ensures.first c.in_ok-push.ensures.items

pub returns-clause-ok : goal.returns-clause-ok
returns-clause-ok c =
    all_listed c.args.set.bits c.loop-first.left.bits c.loop-first.ports.items c.loop-first.invariant
    c.in_default.ensures.first

pub returns-in_err-push-clause-err : goal.returns-in_err-push-clause-err
returns-in_err-push-clause-err c =
    some_listed c.from_residual.result c.args.set.bits c.loop-first.left.bits c.loop-first.ports.items
    c.push.new.self.items c.loop-first.invariant c.in_err-push.ensures.items
