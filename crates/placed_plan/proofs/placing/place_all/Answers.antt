use Rattle.std.proofs.Common.{◌≡◌, ◌⊎◌, refl, rules, Err}
use Rattle.schedule_priority.specs.Order.{nth}
use Rattle.placed_plan.specs.Private.Placing.{IsUnplaced}
use Rattle.placed_plan.specs.declared.fault.PlaceFault.TheVariants.{Memory}
use Rattle.placed_plan.proofs.Placings.{goes_on, stops}
use Rattle.placed_plan.proofs.placing.place_all.Goals as goal

pub returns-in_err-place-clause-fault : goal.returns-in_err-place-clause-fault
returns-in_err-place-clause-fault c =
    let d = c.args.problem.now.datapath.now in
    let a = c.args.problem.now.assigned.now in
    let fault = c.in_err-place.field-0.0 in
    let is : c.from_residual.result ≡ Err fault = search rules in
    let why : (fault ≡ Memory) ⊎ IsUnplaced c.args.places.now d a fault =
    stops c.args.places.now d a c.requires.problem c.args.order.now c.loop-k.k c.loop-k.placing c.loop-k.invariant
    c.loop-k-test.true c.split_at.result.0.now c.split_at.ensures.front (nth c.args.order.now c.loop-k.k) fault refl
    c.in_err-place.ensures.fault in
    search rules

pub loop-k-preserved : goal.loop-k-preserved
loop-k-preserved c =
    goes_on c.args.places.now c.args.problem.now.datapath.now c.args.problem.now.assigned.now c.requires.problem
    c.args.order.now c.args.order.now refl c.loop-k.k c.loop-k.placing c.loop-k.invariant c.loop-k-test.true
    c.place.new.placing c.in_ok-place.ensures.placed
