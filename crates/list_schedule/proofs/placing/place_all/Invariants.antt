use Rattle.list_schedule.specs.Private.Placing.{ArePlaced}
use Rattle.list_schedule.proofs.placing.place_all.Given as goal

abbrev pub invariant-loop-v : goal.invariant-loop-v
invariant-loop-v l =
    ArePlaced l.problem.datapath.now l.problem.assigned.now l.order.items l.v-index l.placing
