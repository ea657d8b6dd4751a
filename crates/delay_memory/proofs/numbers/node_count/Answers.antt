use Rattle.std.proofs.Common.{◌<◌, arith, length}
use Rattle.delay_memory.proofs.NumberSteps.{piece_length}
use Rattle.delay_memory.proofs.numbers.node_count.Goals as goal

pub returns-else-is_empty : goal.returns-else-is_empty
returns-else-is_empty c v =
    let some : 0 < length c.args.delays.now = grind (arith, c.if-is_empty.ensures) in
    let e = piece_length v c.args.delays.now some in
    omega (arith, e, c.len.ensures)
