use Rattle.std.proofs.Common.{◌≡◌, ◌++◌, take}
use Rattle.std.specs.List.{flat_map}
use Rattle.microcode_asm.specs.Private.Shown.{destination}
use Rattle.microcode_asm.proofs.node_line.put_destinations.Given as goal

abbrev pub invariant-loop-transfer : goal.invariant-loop-transfer
invariant-loop-transfer l =
    l.out ≡ l.fn.out ++ flat_map (destination l.printed l.v) (take l.transfer-index l.transfer-items)
