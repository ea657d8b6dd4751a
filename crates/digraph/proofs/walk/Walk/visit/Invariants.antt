use Rattle.digraph.specs.Private.Walk.{state_of, work_left}
use Rattle.digraph.proofs.WalkEnds.{IsVisiting}
use Rattle.digraph.proofs.walk.Walk.visit.Given as goal

abbrev pub invariant-loop-group : goal.invariant-loop-group
invariant-loop-group l = IsVisiting l.arcs (state_of l.fn.self) l.vertex (state_of l.self)

abbrev pub decreases-loop-group : goal.decreases-loop-group
decreases-loop-group l = work_left l.arcs (state_of l.self)
