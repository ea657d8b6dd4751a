use Rattle.std.proofs.Common.{◌≡◌, ◌<◌, ℕ, length, refl, sym, subst, inr}
use Rattle.datapath.specs.declared.types.Datapath.{Datapath}
use Rattle.plan_core.specs.Assigned.{unit_in}
use Rattle.plan_core.specs.Reservations.{IsGapApart, IsOneCycle}
use Rattle.bus_alloc.specs.Table.{with_placed, FitsAtOver, FitsAt, AreTransfers}
use Rattle.list_schedule.proofs.Placings.{ports_known}
use Rattle.list_schedule.proofs.placing.issue.Goals as goal

pub returns-in-None-clause-fault : goal.returns-in-None-clause-fault
returns-in-None-clause-fault c =
    inr (refl, record { ports = c.args.ports.now; destinations = c.requires.ports; none = c.in-None.ensures })

pub take-requires-clause-unit : goal.take-requires-clause-unit
take-requires-clause-unit c =
    subst (λ (x : Datapath). c.unit-unit.result < length x.units) (sym c.requires.table.path) c.unit-unit.ensures.there

pub take-requires-clause-ports : goal.take-requires-clause-ports
take-requires-clause-ports c =
    ports_known c.args.problem.now.datapath.now c.args.problem.now.assigned.now c.requires.problem c.args.v
    c.requires.node c.args.ports.now c.requires.ports c.args.placing.now.slots c.args.placing.now.table c.requires.table

pub take-requires-clause-fits : goal.take-requires-clause-fits
take-requires-clause-fits c =
    let table = c.args.placing.now.table in
    let fits = subst (λ (x : Datapath). FitsAtOver IsGapApart IsOneCycle x.period table
    (unit_in c.args.problem.now.assigned.now.units c.args.v) c.in-Some.cycle c.args.ports.now)
    (sym c.requires.table.path) c.in-Some.ensures.is_open.fits in
    subst (λ (u : ℕ). FitsAt table u c.in-Some.cycle c.args.ports.now) (sym c.unit-unit.ensures.unit) fits

pub returns-clause-placed : goal.returns-clause-placed
returns-clause-placed c = record {
  ports = c.args.ports.now;
  destinations = c.requires.ports;
  slot = record { cycle = c.in-Some.cycle; transfers = c.in_ok-transfers.transfers };
  cycle = c.in-Some.ensures;
  transfers = subst (λ (u : ℕ). AreTransfers c.args.placing.now.table u c.in-Some.cycle c.args.ports.now
      c.in_ok-transfers.transfers) c.unit-unit.ensures.unit c.in_ok-transfers.ensures.transfers;
  taken = subst (λ (u : ℕ). c.take.new.self ≡ with_placed c.args.placing.now.table u c.in-Some.cycle
      c.in_ok-transfers.transfers) c.unit-unit.ensures.unit c.in_ok-transfers.ensures.taken;
  slots_are = c.replace.ensures.after;
}
