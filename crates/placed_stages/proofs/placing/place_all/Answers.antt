use Rattle.std.proofs.Common.{◌≡◌, ◌⊎◌, ap, arith, rules, Err}
use Rattle.schedule_priority.specs.Order.{nth}
use Rattle.overlap_plan.specs.Staged.{path_of, nodes_on}
use Rattle.placed_stages.specs.Private.Placing.{IsUnplaced}
use Rattle.placed_stages.specs.declared.fault.StagePlaceFault.TheVariants.{Memory}
use Rattle.placed_stages.proofs.Placings.{goes_on, stops}
use Rattle.placed_stages.proofs.placing.place_all.Goals as goal

pub returns-in_err-place-clause-fault : goal.returns-in_err-place-clause-fault
returns-in_err-place-clause-fault c =
    let fault = c.in_err-place.field-0.0 in
    let is : c.from_residual.result ≡ Err fault = search rules in
    let why : (fault ≡ Memory) ⊎ IsUnplaced c.args.places.now c.args.staged.now.stages (path_of c.args.staged.now)
    (nodes_on c.args.staged.now) fault =
    stops c.args.places.now c.args.staged.now c.requires.staged c.args.order.now.items c.loop-v.v-index c.loop-v.placing
    c.loop-v.invariant (omega arith) (nth c.deref-v-items.result.now c.loop-v.v-index) fault
    (ap (λ xs. nth xs c.loop-v.v-index) c.deref-v-items.ensures.value) c.in_err-place.ensures.fault in
    search rules

pub loop-v-preserved : goal.loop-v-preserved
loop-v-preserved c =
    goes_on c.args.places.now c.args.staged.now c.requires.staged c.args.order.now.items c.deref-v-items.result.now
    c.deref-v-items.ensures.value c.loop-v.v-index c.loop-v.placing c.loop-v.invariant (omega arith)
    c.place.new.placing c.in_ok-place.ensures.placed
