use Rattle.std.proofs.Common.{◌≡◌, length, ◌++◌, ◌∷◌, []}
use Rattle.given_registers.specs.Private.Allotting.{AreTaken, HaveRegistersBefore}
use Rattle.given_registers.proofs.around.add_arc.Given as goal

abbrev pub invariant-loop-copy : goal.invariant-loop-copy
invariant-loop-copy l = record {
  count : length l.registers ≡ l.copy;
  have : HaveRegistersBefore l.datapath l.circle.samples l.given l.arcs (l.fn.regs ++ l.registers ∷ []) l.k l.copy;
  taken : AreTaken l.given l.arcs (l.fn.regs ++ l.registers ∷ []) l.k l.copy l.allotted.items;
}
