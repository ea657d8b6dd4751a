use Rattle.std.proofs.Common.{◌≡◌, take}
use Rattle.datapath.specs.PathOf.{room_after}
use Rattle.datapath.proofs.buses.room_after.Given as goal

abbrev pub invariant-loop-bus : goal.invariant-loop-bus
invariant-loop-bus l = l.room ≡ room_after (take l.bus-index l.buses)
