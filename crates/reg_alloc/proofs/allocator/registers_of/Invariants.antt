use Rattle.std.proofs.Common.{◌≡◌, length, ◌++◌, ◌∷◌, []}
use Rattle.reg_alloc.specs.Private.Placing.{AreAllottedBefore, AreRegistersOf}
use Rattle.reg_alloc.proofs.allocator.registers_of.Given as goal

abbrev pub invariant-loop-arc : goal.invariant-loop-arc
invariant-loop-arc l = record {
  whole : AreRegistersOf l.arcs l.regs l.file.port l.arc-index;
  allotted : AreAllottedBefore l.datapath l.circle.samples l.arcs l.regs l.file.port l.file.registers.items
      l.arc-index 0;
}

abbrev pub invariant-loop-copy : goal.invariant-loop-copy
invariant-loop-copy l = record {
  count : length l.registers ≡ l.copy;
  port : l.file.port ≡ l.arc.port;
  allotted : AreAllottedBefore l.datapath l.circle.samples l.arcs (l.regs ++ l.registers ∷ []) l.file.port
      l.file.registers.items l.arc-index l.copy;
}
