use Rattle.std.proofs.Common.{◌+◌, length}
use Rattle.elaboration_run.specs.Private.Groups.{HaveRows}
use Rattle.elaboration_run.proofs.HeldTurns.{HasFirst}
use Rattle.elaboration_run.proofs.empty_loops.put_lane.Given as goal

abbrev pub invariant-loop-j : goal.invariant-loop-j
invariant-loop-j l = record {
  has : HasFirst l.lanes l.first l.last l.k l.fn.inner.items l.inner.items l.j;
  rows : HaveRows (length l.lanes.inner.now + 1) l.inner.items;
}
