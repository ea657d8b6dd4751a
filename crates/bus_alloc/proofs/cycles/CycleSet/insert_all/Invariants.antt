use Rattle.std.proofs.Common.{◌≡◌, ℕ, ◌<◌, ◌≤◌, ◌⊎◌}
use Rattle.bus_alloc.specs.Sets.{mark}
use Rattle.bus_alloc.proofs.cycles.CycleSet.insert_all.Given as goal

abbrev pub invariant-loop-cycle : goal.invariant-loop-cycle
invariant-loop-cycle l = record {
  inside : (c : ℕ) → l.first ≤ c → c < l.cycle → mark l.self.words c ≡ 1;
  outside : (c : ℕ) → (c < l.first) ⊎ (l.cycle ≤ c) → mark l.self.words c ≡ mark l.fn.self.words c;
}
