use Rattle.loop_expand.specs.Private.Turns.{at}
use Rattle.silage_syntax.specs.Manifests.{combined}
use Rattle.loop_expand.proofs.ValueRows.{Done}
use Rattle.loop_expand.proofs.arithmetic.apply_each.Given as goal

abbrev pub invariant-loop-k : goal.invariant-loop-k
invariant-loop-k l = Done (combined l.op) l.fn.left (at l.right) l.k l.left
