use Rattle.overlap_plan.specs.Private.Placing.{ArePlaced}
use Rattle.overlap_plan.proofs.placing.place_all.Given as goal

abbrev pub invariant-loop-v : goal.invariant-loop-v
invariant-loop-v l = ArePlaced l.staged l.order.items l.v-index l.placing
