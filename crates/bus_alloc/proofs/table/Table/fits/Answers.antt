use Rattle.std.proofs.Common.{subst}
use Rattle.std.proofs.lemmas.Bool.{false≢true}
use Rattle.bus_alloc.specs.Table.{Reservations}
use Rattle.bus_alloc.specs.Private.Stands.{AreRowsOf}
use Rattle.bus_alloc.proofs.Tables.{answer_fits, late_fits}
use Rattle.bus_alloc.proofs.table.Table.fits.Goals as goal

pub returns-in-Some : goal.returns-in-Some
returns-in-Some c =
    answer_fits c.args.self.now c.self.inside.rows
    (subst (λ (r : Reservations). AreRowsOf r c.self.inside.rows) c.self.view_is c.self.invariant) c.args.unit
    c.requires.unit c.args.dests.now c.requires.ports c.args.cycle c.in-Some.end c.is_open.result c.in-Some.ensures.0
    c.in-Some.ensures.1 c.is_open.ensures

pub returns-in-None : goal.returns-in-None
returns-in-None c = (
  λ no. absurd (false≢true no),
  λ fits. absurd (late_fits c.args.self.now c.self.inside.rows
      (subst (λ (r : Reservations). AreRowsOf r c.self.inside.rows) c.self.view_is c.self.invariant) c.args.unit
      c.requires.unit c.args.dests.now c.requires.ports c.args.cycle c.in-None.ensures fits),
)
