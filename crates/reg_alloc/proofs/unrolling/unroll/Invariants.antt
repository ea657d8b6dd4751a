use Rattle.std.proofs.Common.{◌≡◌, ◌<◌, ◌≤◌, ◌⊎◌, ℕ, length}
use Rattle.plan_core.specs.Arcs.{arc_of}
use Rattle.reg_alloc.proofs.unrolling.unroll.Given as goal

abbrev pub invariant-loop-arc : goal.invariant-loop-arc
invariant-loop-arc l = record {
  some : 1 ≤ l.most;
  most : (k : ℕ) → k < l.arc-index → (arc_of l.arcs k).copies ≤ l.most;
  reached : (l.most ≡ 1) ⊎ ((k : ℕ) × (k < length l.arcs) × ((arc_of l.arcs k).copies ≡ l.most));
}
