use Rattle.std.proofs.Common.{ℕ, ◌<◌, ◌≤◌, ◌+◌, ◌-◌, length}
use Rattle.signal_graph.specs.Flat.{Program}
use Rattle.flow_graph.specs.Private.Aliases.{IsInside, Jumps}
use Rattle.flow_graph.proofs.aliases.lead_to_ends.Given as goal

abbrev pub invariant-loop-far : goal.invariant-loop-far
invariant-loop-far l = record {
  inside : IsInside l.leads;
  some : 0 < l.far;
  most : l.far ≤ length l.leads + length l.leads + 1;
  jumps : (p : Program) → (height : ℕ → ℕ) → Jumps p height 1 l.fn.leads → Jumps p height l.far l.leads;
}

abbrev pub decreases-loop-far : goal.decreases-loop-far
decreases-loop-far l = length l.leads + length l.leads + 2 - l.far
