use Rattle.std.proofs.Common.{◌≡◌, ◌<◌, ℕ, length, refl, sym, subst, inr}
use Rattle.datapath.specs.declared.types.Datapath.{Datapath}
use Rattle.list_schedule.proofs.Placings.{ports_known}
use Rattle.overlap_plan.proofs.placing.issue.Goals as goal

pub returns-in-None-clause-fault : goal.returns-in-None-clause-fault
returns-in-None-clause-fault c =
    inr (refl, record { ports = c.args.ports.now; destinations = c.requires.ports; none = c.in-None.ensures })

pub take-requires-clause-unit : goal.take-requires-clause-unit
take-requires-clause-unit c =
    subst (λ (x : Datapath). c.unit-unit.result < length x.units) (sym c.requires.table.path) c.unit-unit.ensures.there

pub take-requires-clause-ports : goal.take-requires-clause-ports
take-requires-clause-ports c =
    ports_known c.args.staged.now.problem.datapath.now c.args.staged.now.problem.assigned.now c.requires.staged.problem
    c.args.v c.requires.node c.args.ports.now c.requires.ports c.args.placing.now.slots c.args.placing.now.table
    c.requires.table
