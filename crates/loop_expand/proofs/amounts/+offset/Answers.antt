use Rattle.std.proofs.Common.{arith}
use Rattle.loop_expand.proofs.Offsets.{offset_fits}
use Rattle.loop_expand.proofs.amounts.+offset.Goals as goal

pub overflow_add-result : goal.overflow_add-result
overflow_add-result t c =
    let (k, placed) = c.requires.placed in
    let less =
    offset_fits c.args.env.now c.args.dims.now c.args.subs.now c.sub-item.result c.natural.result c.element_count.result
    c.offset.result (omega arith) (omega arith) c.sub-item.is c.requires.sized k placed c.natural.ensures
    c.element_count.ensures.value c.offset.ensures in
    omega (arith, less)
