use Rattle.std.proofs.Common.{arith, length}
use Rattle.placed_stages.proofs.Placings.{all_placed}
use Rattle.placed_stages.proofs.placing.slots_of.Goals as goal

pub returns-clause-schedule : goal.returns-clause-schedule
returns-clause-schedule c =
    all_placed c.args.places.now c.args.staged.now c.requires.staged c.args.order.now.items
    (length c.args.order.now.items) c.place_all.new.placing (omega arith) c.in_ok-place_all.ensures.placed
