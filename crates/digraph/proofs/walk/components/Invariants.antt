use Rattle.digraph.specs.Private.Walk.{state_of}
use Rattle.digraph.proofs.WalkEnds.{IsComing}
use Rattle.digraph.proofs.walk.components.Given as goal

abbrev pub invariant-loop-vertex : goal.invariant-loop-vertex
invariant-loop-vertex l = IsComing l.arcs l.vertex (state_of l.walk)
