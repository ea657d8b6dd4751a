use Rattle.std.proofs.Common.{◌+◌, ℤ, List, take}
use Rattle.elaboration_run.specs.Private.Groups.{HaveRows, loops_in}
use Rattle.elaboration_run.specs.Private.EmptyLoops.{Holds, Reaches}
use Rattle.elaboration_run.proofs.empty_loops.inner_turns.Given as goal

abbrev pub invariant-loop-group : goal.invariant-loop-group
invariant-loop-group l = record {
  reached : (ts : List ℤ)
      → Holds l.turns.outer.now (take l.group-index l.turns.groups.now) ts
      → Reaches l.turns.outer.now l.inner.items l.lo l.hi ts;
  rows : HaveRows (loops_in l.turns.groups.now + 1) l.inner.items;
}
