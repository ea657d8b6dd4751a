use Rattle.std.proofs.Common.{◌≡◌, ◌↔◌, ℕ, ◌+◌, ◌*◌, ◌<◌, ◌≤◌}
use Rattle.std.specs.Int.{bit_at}
use Rattle.bus_alloc.specs.Sets.{mark}
use Rattle.bus_alloc.proofs.cycles.CycleSet.first_gap.Given as goal

abbrev pub invariant-loop-index : goal.invariant-loop-index
invariant-loop-index l = record {
  passed : (i : ℕ) → i < 64 → (bit_at l.passed i ≡ 0) ↔ (l.fn.from ≤ 64 * l.index + i);
  full : (c : ℕ) → l.fn.from ≤ c → c < 64 * l.index → mark l.self.words c ≡ 1;
}
