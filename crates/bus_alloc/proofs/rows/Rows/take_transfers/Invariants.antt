use Rattle.std.proofs.Common.{take}
use Rattle.bus_alloc.specs.Private.Taking.{TakesTransfers}
use Rattle.bus_alloc.proofs.rows.Rows.take_transfers.Given as goal

abbrev pub invariant-loop-transfer : goal.invariant-loop-transfer
invariant-loop-transfer l = TakesTransfers l.fn.self (take l.transfer-index l.transfers) l.cycle l.self
