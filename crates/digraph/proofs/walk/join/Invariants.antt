use Rattle.std.proofs.Common.{length}
use Rattle.digraph.proofs.JoinSteps.{Joins}
use Rattle.digraph.proofs.walk.join.Given as goal

abbrev pub invariant-loop-groups : goal.invariant-loop-groups
invariant-loop-groups l = Joins l.fn.groups.items l.position l.groups.items

abbrev pub decreases-loop-groups : goal.decreases-loop-groups
decreases-loop-groups l = length l.groups.items
