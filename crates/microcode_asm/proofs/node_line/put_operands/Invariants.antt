use Rattle.std.proofs.Common.{◌≡◌, ◌++◌, take}
use Rattle.std.specs.List.{flat_map}
use Rattle.microcode_asm.specs.ScheduleText.{operand}
use Rattle.microcode_asm.proofs.node_line.put_operands.Given as goal

abbrev pub invariant-loop-edge : goal.invariant-loop-edge
invariant-loop-edge l = l.out ≡ l.fn.out ++ flat_map operand (take l.edge-index l.edges)
