use Rattle.std.proofs.Common.{◌≡◌, map, take}
use Rattle.std.specs.List.{All}
use Rattle.bus_alloc.specs.Private.Taking.{IsFirstTransfer}
use Rattle.bus_alloc.proofs.rows.Rows.transfers.Given as goal

abbrev pub invariant-loop-port : goal.invariant-loop-port
invariant-loop-port l = record {
  ports : map (λ transfer. transfer.port) l.transfers ≡ take l.port-index l.dests;
  buses : All (IsFirstTransfer l.fn.self l.unit l.cycle) l.transfers;
}
