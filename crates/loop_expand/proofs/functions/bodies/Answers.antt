use Rattle.std.proofs.Common.{arith}
use Rattle.type_rules.specs.TypedTree.{view_func}
use Rattle.loop_expand.proofs.FactSteps.{item_at}
use Rattle.loop_expand.proofs.functions.bodies.Goals as goal

pub put_body-requires : goal.put_body-requires
put_body-requires c =
    c.requires c.loop-func.func-index (view_func c.func-item.result)
    (item_at view_func c.args.funcs.now c.loop-func.func-index c.func-item.result (omega arith) c.func-item.is)
