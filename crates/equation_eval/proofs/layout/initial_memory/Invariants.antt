use Rattle.std.proofs.Common.{◌≡◌, ℕ, ◌<◌, ◌≤◌, length}
use Rattle.equation_eval.specs.Private.Rings.{HoldInitials, HoldsZeros, ring_of}
use Rattle.equation_eval.proofs.layout.initial_memory.Given as goal

abbrev pub invariant-loop-v : goal.invariant-loop-v
invariant-loop-v l = record {
  len : length l.memory ≡ l.cells;
  initials : HoldInitials l.v l.graph l.rings l.memory;
  zeros : (w : ℕ) → l.v ≤ w → w < length l.graph.nodes → HoldsZeros (ring_of l.rings w) l.memory;
}
