use Rattle.std.proofs.Common.{sym, subst}
use Rattle.plan_core.specs.declared.schedule.Assigned.{Assigned}
use Rattle.schedule_priority.specs.Private.Destinations.{AreReadersOf}
use Rattle.schedule_priority.proofs.destinations.Destinations.new.Goals as goal

pub invariant_of-result : goal.invariant_of-result
invariant_of-result c =
    subst (λ (a : Assigned). AreReadersOf a c.in_ok-readers_of.field-0) (sym c.of.ensures)
    (record { problem = (c.args.problem.now.datapath.now, c.requires); readers = c.in_ok-readers_of.ensures })
