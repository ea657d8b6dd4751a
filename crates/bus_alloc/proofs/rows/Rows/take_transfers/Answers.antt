use Rattle.bus_alloc.proofs.Taken.{takes_more}
use Rattle.bus_alloc.proofs.rows.Rows.take_transfers.Goals as goal

pub loop-transfer-preserved : goal.loop-transfer-preserved
loop-transfer-preserved c =
    takes_more c.args.self.now c.args.transfers.now c.loop-transfer.transfer-index _ c.args.cycle c.loop-transfer.self
    c.take_transfer.new.self c.loop-transfer-test.true c.loop-transfer.invariant c.take_transfer.ensures
