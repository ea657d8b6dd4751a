use Rattle.std.proofs.Common.{◌≡◌, ℕ, ◌+◌, ◌-◌, ◌%◌, ap, subst, refl, arith}
use Rattle.bus_alloc.specs.Table.{Reservations}
use Rattle.bus_alloc.specs.Private.Stands.{AreRowsAround}
use Rattle.bus_alloc.proofs.Around.{place_is, none_around_period, first_around, late_around}
use Rattle.bus_alloc.proofs.modulo.ModuloTable.first_fit.Goals as goal

pub returns-in-None : goal.returns-in-None
returns-in-None c =
    let rows = c.self.inside.rows in
    let is = subst (λ (r : Reservations). AreRowsAround r rows) c.self.view_is c.self.invariant in
    let first : ℕ = (c.args.from + c.latency-latency.result - 1) % rows.period in
    let first_is = place_is c.args.self.now rows is c.args.unit c.requires.unit c.args.from first
    (ap (λ (n : ℕ). (c.args.from + n - 1) % rows.period) c.latency-latency.ensures.latency) in
    none_around_period c.args.self.now rows is c.args.unit c.requires.unit c.args.end c.args.dests.now c.requires.ports
    c.args.from first first_is c.in-None.ensures

pub returns-then-from-away : goal.returns-then-from-away
returns-then-from-away c =
    let rows = c.self.inside.rows in
    let is = subst (λ (r : Reservations). AreRowsAround r rows) c.self.view_is c.self.invariant in
    let first : ℕ = (c.args.from + c.latency-latency.result - 1) % rows.period in
    let first_is = place_is c.args.self.now rows is c.args.unit c.requires.unit c.args.from first
    (ap (λ (n : ℕ). (c.args.from + n - 1) % rows.period) c.latency-latency.ensures.latency) in
    first_around c.args.self.now rows is c.args.unit c.requires.unit c.args.end c.args.dests.now c.requires.ports
    c.args.from first first_is c.in-Some.away c.in-Some.ensures (c.args.from + c.in-Some.away) refl
    (omega (arith, c.latency-latency.ensures.latency))

pub returns-else-from-away : goal.returns-else-from-away
returns-else-from-away c =
    let rows = c.self.inside.rows in
    let is = subst (λ (r : Reservations). AreRowsAround r rows) c.self.view_is c.self.invariant in
    let first : ℕ = (c.args.from + c.latency-latency.result - 1) % rows.period in
    let first_is = place_is c.args.self.now rows is c.args.unit c.requires.unit c.args.from first
    (ap (λ (n : ℕ). (c.args.from + n - 1) % rows.period) c.latency-latency.ensures.latency) in
    late_around c.args.self.now rows is c.args.unit c.requires.unit c.args.end c.args.dests.now c.requires.ports
    c.args.from first first_is c.in-Some.away c.in-Some.ensures (c.args.from + c.in-Some.away) refl
    (omega (arith, c.latency-latency.ensures.latency))
