use Rattle.std.proofs.Common.{arith, ◌+◌, ◌-◌, sym, subst, List}
use Rattle.std.specs.List.{All}
use Rattle.plan_core.specs.declared.schedule.Transfer.{Transfer}
use Rattle.bus_alloc.specs.Table.{Reservations, with_placed}
use Rattle.bus_alloc.specs.Private.Stands.{AreRowsOf}
use Rattle.bus_alloc.specs.Private.Taking.{IsTransferIn, TakesAll}
use Rattle.bus_alloc.proofs.Tables.{is_open_here, transfers_are, rows_with}
use Rattle.bus_alloc.proofs.Standing.{ports_in, transfers_in}
use Rattle.bus_alloc.proofs.table.Table.take.Goals as goal

pub transfers-requires-clause-is_open : goal.transfers-requires-clause-is_open
transfers-requires-clause-is_open c =
    is_open_here c.args.self.now c.self.inside.rows
    (subst (λ (r : Reservations). AreRowsOf r c.self.inside.rows) c.self.view_is c.self.invariant) c.args.unit
    c.requires.unit c.args.dests.now c.requires.ports c.args.cycle (c.args.cycle + c.latency.result - 1)
    (omega (arith, c.latency.ensures.latency, c.latency.ensures.some.0)) c.requires.fits

pub reserve-requires-clause-transfers : goal.reserve-requires-clause-transfers
reserve-requires-clause-transfers c =
    subst (All (IsTransferIn c.self.inside.rows)) (sym c.deref.ensures)
    (transfers_in c.self.inside.rows c.args.unit (c.args.cycle + c.latency.result - 1) c.args.dests.now
    c.in_ok-transfers.transfers
    (ports_in c.args.self.now.datapath c.args.self.now.placed c.self.inside.rows
    (subst (λ (r : Reservations). AreRowsOf r c.self.inside.rows) c.self.view_is c.self.invariant).stands
    c.args.dests.now c.requires.ports)
    c.in_ok-transfers.ensures.ports c.in_ok-transfers.ensures.buses)

pub invariant_of-self : goal.invariant_of-self
invariant_of-self c =
    let rows = c.self.inside.rows in
    let taken = subst (λ (ts : List Transfer). TakesAll rows c.args.unit (c.args.cycle + c.latency.result - 1) ts
    c.reserve.new.self) c.deref.ensures c.reserve.ensures in
    rw (c.of.ensures, c.of-2.ensures)
    (subst (λ (r : Reservations). AreRowsOf (with_placed r c.args.unit c.args.cycle c.in_ok-transfers.transfers)
    c.reserve.new.self) (sym c.self.view_is)
    (rows_with c.args.self.now rows (subst (λ (r : Reservations). AreRowsOf r rows) c.self.view_is c.self.invariant)
    c.args.unit c.requires.unit c.args.dests.now c.requires.ports c.args.cycle (c.args.cycle + c.latency.result - 1)
    (omega (arith, c.latency.ensures.latency, c.latency.ensures.some.0)) c.requires.fits c.in_ok-transfers.transfers
    c.in_ok-transfers.ensures.ports c.in_ok-transfers.ensures.buses c.reserve.new.self taken))

pub returns-clause-transfers : goal.returns-clause-transfers
returns-clause-transfers c =
    transfers_are c.args.self.now c.self.inside.rows
    (subst (λ (r : Reservations). AreRowsOf r c.self.inside.rows) c.self.view_is c.self.invariant) c.args.unit
    c.requires.unit c.args.dests.now c.requires.ports c.args.cycle (c.args.cycle + c.latency.result - 1)
    (omega (arith, c.latency.ensures.latency, c.latency.ensures.some.0)) c.requires.fits c.in_ok-transfers.transfers
    c.in_ok-transfers.ensures.ports c.in_ok-transfers.ensures.buses
