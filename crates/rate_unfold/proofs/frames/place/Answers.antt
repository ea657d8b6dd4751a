use Rattle.std.proofs.Common.{arith}
use Rattle.std.proofs.lemmas.Nat.{mul-le}
use Rattle.rate_unfold.proofs.FrameRows.{place_more, few_places, place_below}
use Rattle.rate_unfold.proofs.frames.place.Goals as goal

pub overflow_add-places : goal.overflow_add-places
overflow_add-places c =
    let m = c.args.phases in
    let slow = c.args.slow.now in
    let before = c.loop-before.before in
    let below = place_below m slow before c.requires.phases.0 in
    let few = few_places m slow before c.requires.phases.0 in
    let most = mul-le before m 16 8 (omega arith) c.requires.phases.1 in
    let places = c.loop-before.invariant in
    let own = c.places_of-places.ensures in
    omega (arith, below, few, most, places, own)

pub loop-before-preserved : goal.loop-before-preserved
loop-before-preserved c =
    let more = place_more c.args.phases c.args.slow.now c.loop-before.before in
    let places = c.loop-before.invariant in
    let own = c.places_of-places.ensures in
    omega (arith, more, places, own)
