use Rattle.std.proofs.Common.{◌≡◌, ℕ, ◌+◌, ◌-◌, ◌%◌, arith, ap, sym, subst, List}
use Rattle.std.specs.List.{All}
use Rattle.plan_core.specs.declared.schedule.Transfer.{Transfer}
use Rattle.bus_alloc.specs.Table.{Reservations, with_placed}
use Rattle.bus_alloc.specs.Private.Stands.{AreRowsAround}
use Rattle.bus_alloc.specs.Private.Taking.{IsTransferIn, TakesAllAround}
use Rattle.bus_alloc.proofs.Around.{place_is, is_open_around, transfers_are_around, rows_around}
use Rattle.bus_alloc.proofs.Standing.{ports_in, transfers_in}
use Rattle.bus_alloc.proofs.modulo.ModuloTable.take.Goals as goal

pub transfers-requires-clause-is_open : goal.transfers-requires-clause-is_open
transfers-requires-clause-is_open c =
    let rows = c.self.inside.rows in
    let is = subst (λ (r : Reservations). AreRowsAround r rows) c.self.view_is c.self.invariant in
    let place : ℕ = (c.args.cycle + c.latency.result - 1) % rows.period in
    let place_eq = place_is c.args.self.now rows is c.args.unit c.requires.unit c.args.cycle place
    (ap (λ (n : ℕ). (c.args.cycle + n - 1) % rows.period) c.latency.ensures.latency) in
    is_open_around c.args.self.now rows is c.args.unit c.requires.unit c.args.dests.now c.requires.ports c.args.cycle
    place place_eq c.requires.fits

pub reserve_around-requires-clause-transfers : goal.reserve_around-requires-clause-transfers
reserve_around-requires-clause-transfers c =
    let rows = c.self.inside.rows in
    let is = subst (λ (r : Reservations). AreRowsAround r rows) c.self.view_is c.self.invariant in
    let place : ℕ = (c.args.cycle + c.latency.result - 1) % rows.period in
    subst (All (IsTransferIn rows)) (sym c.deref.ensures)
    (transfers_in rows c.args.unit place c.args.dests.now c.in_ok-transfers.transfers
    (ports_in c.args.self.now.datapath c.args.self.now.placed rows is.stands c.args.dests.now c.requires.ports)
    c.in_ok-transfers.ensures.ports c.in_ok-transfers.ensures.buses)

pub invariant_of-self : goal.invariant_of-self
invariant_of-self c =
    let rows = c.self.inside.rows in
    let is = subst (λ (r : Reservations). AreRowsAround r rows) c.self.view_is c.self.invariant in
    let place : ℕ = (c.args.cycle + c.latency.result - 1) % rows.period in
    let place_eq = place_is c.args.self.now rows is c.args.unit c.requires.unit c.args.cycle place
    (ap (λ (n : ℕ). (c.args.cycle + n - 1) % rows.period) c.latency.ensures.latency) in
    let taken = subst (λ (ts : List Transfer). TakesAllAround rows c.args.unit place ts c.reserve_around.new.self)
    c.deref.ensures c.reserve_around.ensures in
    rw (c.of.ensures, c.of-2.ensures)
    (subst (λ (r : Reservations). AreRowsAround (with_placed r c.args.unit c.args.cycle c.in_ok-transfers.transfers)
    c.reserve_around.new.self) (sym c.self.view_is)
    (rows_around c.args.self.now rows is c.args.unit c.requires.unit c.args.dests.now c.requires.ports c.args.cycle
    place place_eq c.requires.fits c.in_ok-transfers.transfers c.in_ok-transfers.ensures.ports
    c.in_ok-transfers.ensures.buses c.reserve_around.new.self taken))

pub returns-clause-transfers : goal.returns-clause-transfers
returns-clause-transfers c =
    let rows = c.self.inside.rows in
    let is = subst (λ (r : Reservations). AreRowsAround r rows) c.self.view_is c.self.invariant in
    let place : ℕ = (c.args.cycle + c.latency.result - 1) % rows.period in
    let place_eq = place_is c.args.self.now rows is c.args.unit c.requires.unit c.args.cycle place
    (ap (λ (n : ℕ). (c.args.cycle + n - 1) % rows.period) c.latency.ensures.latency) in
    transfers_are_around c.args.self.now rows is c.args.unit c.requires.unit c.args.dests.now c.requires.ports
    c.args.cycle place place_eq c.requires.fits c.in_ok-transfers.transfers c.in_ok-transfers.ensures.ports
    c.in_ok-transfers.ensures.buses
