use Rattle.std.proofs.Common.{◌<◌, ◌+◌, ◌+ℤ◌, ◌≤ℤ◌, ◌++◌, ◌∷◌, [], ℕ, pos, length}
use Rattle.elaboration_run.specs.Private.Lanes.{at, turns_at}
use Rattle.elaboration_run.specs.Private.Groups.{HaveRows}
use Rattle.elaboration_run.specs.Private.EmptyLoops.{Holds, Keeps}
use Rattle.elaboration_run.proofs.empty_loops.put_lanes.Given as goal

abbrev pub invariant-loop-k : goal.invariant-loop-k
invariant-loop-k l = record {
  keeps : Keeps l.lanes.outer.now l.fn.inner.items l.inner.items;
  holds : (i : ℕ) → i < l.k → (j : ℕ) → (at l.first i +ℤ pos j) ≤ℤ at l.last i
      → Holds l.lanes.outer.now l.inner.items (turns_at l.lanes i ++ (at l.first i +ℤ pos j) ∷ []);
  rows : HaveRows (length l.lanes.inner.now + 1) l.inner.items;
}
