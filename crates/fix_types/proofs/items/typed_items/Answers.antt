use Rattle.fix_types.specs.Private.Scopes.{program_of, function_of}
use Rattle.fix_types.proofs.ItemSteps.{items_typed}
use Rattle.fix_types.proofs.items.typed_items.Goals as goal

pub returns : goal.returns
returns c =
    items_typed (program_of c.args.scope.now) (function_of c.args.scope.now) c.args.items.now c.loop-item.item-index
    c.loop-item.invariant.met c.loop-item.all c.loop-item-test.false c.loop-item.invariant.typed
