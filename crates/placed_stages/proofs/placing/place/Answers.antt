use Rattle.std.proofs.Common.{◌<◌, length, sym, subst}
use Rattle.plan_core.specs.ListSchedule.{AreDestinations}
use Rattle.plan_core.specs.declared.schedule.Assigned.{Assigned}
use Rattle.placed_stages.proofs.placing.place.Goals as goal

pub list-requires : goal.list-requires
list-requires c =
    subst (λ (a : Assigned). c.args.v < length a.lowered.nodes) (sym c.requires.destinations) c.requires.node

pub issue-requires-clause-ports : goal.issue-requires-clause-ports
issue-requires-clause-ports c =
    subst (AreDestinations c.args.staged.now.problem.assigned.now c.args.v) (sym c.as_slice.ensures.value)
    (subst (λ (a : Assigned). AreDestinations a c.args.v c.list.new.ports.items) c.requires.destinations
    c.in_ok-list.ensures.ok)
