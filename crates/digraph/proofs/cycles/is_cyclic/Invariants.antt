use Rattle.std.proofs.Common.{take}
use Rattle.digraph.specs.Private.Walk.{HasHeadInOwnComponent}
use Rattle.digraph.proofs.cycles.is_cyclic.Given as goal

abbrev pub invariant-loop-head : goal.invariant-loop-head
invariant-loop-head l = ¬ HasHeadInOwnComponent l.marks l.vertex (take l.head-index l.heads)
