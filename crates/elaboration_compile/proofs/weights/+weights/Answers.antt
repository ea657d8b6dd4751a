use Rattle.std.proofs.Common.{arith}
use Rattle.elaboration_compile.proofs.TreeRows.{chosen}
use Rattle.elaboration_compile.proofs.weights.+weights.Goals as goal

pub weight-returns-in-Choose : goal.weight-returns-in-Choose
weight-returns-in-Choose t c =
    rw (chosen c.args.e.now c.in-Choose.field-0 c.in-Choose.arms c.in-Choose.last c.deref-in-Choose.result.now
    c.deref-in-Choose-2.result.now c.in-Choose.is c.deref-in-Choose.ensures.value c.deref-in-Choose-2.ensures)
    (grind arith)
