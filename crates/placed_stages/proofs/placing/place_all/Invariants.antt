use Rattle.placed_stages.specs.Private.Placing.{ArePlaced}
use Rattle.placed_stages.proofs.placing.place_all.Given as goal

abbrev pub invariant-loop-v : goal.invariant-loop-v
invariant-loop-v l = ArePlaced l.places l.staged l.order.items l.v-index l.placing
