use Rattle.std.proofs.Common.{◌≡◌, arith, rules, Err}
use Rattle.overlap_plan.specs.Private.Placing.{IsFault}
use Rattle.overlap_plan.proofs.StagedPlacing.{goes_on, stops}
use Rattle.overlap_plan.proofs.placing.place_all.Goals as goal

pub returns-in_err-place-clause-fault : goal.returns-in_err-place-clause-fault
returns-in_err-place-clause-fault c =
    let fault = c.in_err-place.field-0.0 in
    let is : c.from_residual.result ≡ Err fault = search rules in
    let why : IsFault c.args.staged.now fault =
    stops c.args.staged.now c.requires.staged c.args.order.now.items c.deref-v-items.result.now
    c.deref-v-items.ensures.value c.loop-v.v-index c.loop-v.placing c.loop-v.invariant (omega arith)
    fault c.in_err-place.ensures.fault in
    search rules

pub loop-v-preserved : goal.loop-v-preserved
loop-v-preserved c =
    goes_on c.args.staged.now c.requires.staged c.args.order.now.items c.deref-v-items.result.now
    c.deref-v-items.ensures.value c.loop-v.v-index c.loop-v.placing c.loop-v.invariant (omega arith)
    c.place.new.placing c.in_ok-place.ensures.placed
