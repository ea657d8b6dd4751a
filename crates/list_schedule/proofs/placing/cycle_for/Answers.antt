use Rattle.std.proofs.Common.{ℕ, ◌<◌, length, ap, sym, subst, arith}
use Rattle.datapath.specs.declared.types.Datapath.{Datapath}
use Rattle.bus_alloc.specs.Table.{IsFirstFit}
use Rattle.list_schedule.proofs.Placings.{ports_known}
use Rattle.list_schedule.proofs.OneByOne.{first_found}
use Rattle.list_schedule.proofs.placing.cycle_for.Goals as goal

pub first_fit-requires-clause-ports : goal.first_fit-requires-clause-ports
first_fit-requires-clause-ports c =
    ports_known c.args.problem.now.datapath.now c.args.problem.now.assigned.now c.requires.problem c.args.v
    c.requires.node c.args.ports.now c.requires.ports c.args.placing.now.slots c.args.placing.now.table c.requires.table

pub first_fit-requires-clause-unit : goal.first_fit-requires-clause-unit
first_fit-requires-clause-unit c =
    subst (λ (x : Datapath). c.unit.result < length x.units) (sym c.requires.table.path) c.unit.ensures.there

pub first_fit-requires-clause-from : goal.first_fit-requires-clause-from
first_fit-requires-clause-from c =
    omega (arith, ap (λ (x : Datapath). x.period) c.requires.table.path)

pub returns : goal.returns
returns c =
    first_found c.args.problem.now.datapath.now c.args.problem.now.assigned.now c.requires.problem
    c.args.placing.now.slots c.args.placing.now.table c.args.v c.ready-from.result c.args.ports.now c.first_fit.result
    c.requires.table.path c.ready-from.ensures
    (subst (λ (u : ℕ). IsFirstFit c.args.placing.now.table u c.ready-from.result c.args.ports.now
    c.first_fit.result) c.unit.ensures.unit c.first_fit.ensures)
