use Rattle.std.proofs.Common.{take}
use Rattle.digraph.specs.Private.Walk.{ClosesAll}
use Rattle.digraph.proofs.walk.close_all.Given as goal

abbrev pub invariant-loop-vertex : goal.invariant-loop-vertex
invariant-loop-vertex l = ClosesAll l.fn.marks (take l.vertex-index l.vertices) l.component l.marks
