use Rattle.std.proofs.Common.{arith, subst}
use Rattle.bus_alloc.specs.Table.{Reservations}
use Rattle.bus_alloc.specs.Private.Stands.{AreRowsOf}
use Rattle.bus_alloc.proofs.Tables.{first_fit_none, first_fit_some}
use Rattle.bus_alloc.proofs.table.Table.first_fit.Goals as goal

pub returns-in-Some : goal.returns-in-Some
returns-in-Some c =
    first_fit_some c.args.self.now c.self.inside.rows
    (subst (λ (r : Reservations). AreRowsOf r c.self.inside.rows) c.self.view_is c.self.invariant) c.args.unit
    c.requires.unit c.args.dests.now c.requires.ports c.args.from _ c.in-Some.end
    (omega (arith, c.latency-later.ensures.latency)) c.in-Some.ensures

pub returns-in-None : goal.returns-in-None
returns-in-None c t =
    first_fit_none c.args.self.now c.self.inside.rows
    (subst (λ (r : Reservations). AreRowsOf r c.self.inside.rows) c.self.view_is c.self.invariant) c.args.unit
    c.requires.unit c.args.dests.now c.requires.ports c.args.from _ t
    (omega (arith, c.latency-later.ensures.latency)) c.in-None.ensures
