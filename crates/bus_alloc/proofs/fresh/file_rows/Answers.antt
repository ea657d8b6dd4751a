use Rattle.bus_alloc.proofs.FreshRows.{files_more}
use Rattle.bus_alloc.proofs.fresh.file_rows.Goals as goal

pub loop-number-preserved : goal.loop-number-preserved
loop-number-preserved c =
    files_more c.args.buses.now c.loop-number.number c.loop-number.rows c.push.new.self _ c.loop-number.invariant
    c.in_ok-push.ensures.ok (record { sources = c.leading_to.ensures; written = c.new.ensures })
