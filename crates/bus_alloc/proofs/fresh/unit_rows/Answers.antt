use Rattle.std.proofs.Common.{refl}
use Rattle.bus_alloc.proofs.FreshRows.{units_more}
use Rattle.bus_alloc.proofs.fresh.unit_rows.Goals as goal

pub loop-number-preserved : goal.loop-number-preserved
loop-number-preserved c =
    units_more c.args.units.now c.args.buses.now c.loop-number.number c.loop-number.rows c.push.new.self
    c.index-units-number.result _ c.loop-number-test.true c.index-units-number.is c.loop-number.invariant
    c.in_ok-push.ensures.ok (record { latency = refl; gap = refl; drives = c.driven_by.ensures; busy = c.new.ensures })
