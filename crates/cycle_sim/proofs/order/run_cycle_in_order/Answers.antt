use Rattle.std.proofs.Common.{◌∙◌, sym, subst, length}
use Rattle.std.specs.List.{All}
use Rattle.cycle_sim.specs.Machine.{IsOperand}
use Rattle.cycle_sim.proofs.NextCycle.{next_once, next_stands, next_logged, order_units}
use Rattle.cycle_sim.proofs.order.run_cycle_in_order.Goals as goal

pub execute_in_order-requires-clause-once : goal.execute_in_order-requires-clause-once
execute_in_order-requires-clause-once c =
    next_once c.args.code.now c.args.predecoded.now c.args.hardware.now c.requires.fit c.in-Ok.cycle
    c.in-Ok.ensures.next

pub returns-in-Ok-clause-ran : goal.returns-in-Ok-clause-ran
returns-in-Ok-clause-ran c z old =
    next_stands c.args.code.now c.args.predecoded.now c.args.hardware.now c.requires.fit c.in-Ok.cycle
    c.in-Ok.ensures.next c.args.row.now z old c.execute_in_order.new.hardware c.execute_in_order.ensures.executes

pub returns-in-Ok-clause-log : goal.returns-in-Ok-clause-log
returns-in-Ok-clause-log c z old =
    c.execute_in_order.ensures.log.front
    ∙ next_logged c.args.code.now c.args.predecoded.now c.args.hardware.now c.requires.fit c.in-Ok.cycle
    c.in-Ok.ensures.next c.args.row.now z old c.execute_in_order.new.hardware c.execute_in_order.ensures.executes
    c.args.order.now (order_units (length c.args.code.now.image.units) c.args.order.now c.requires.order)

pub execute_in_order-requires-clause-inside : goal.execute_in_order-requires-clause-inside
execute_in_order-requires-clause-inside c = c.in-Ok.ensures.next.within

pub returns-in-Ok-clause-words : goal.returns-in-Ok-clause-words
returns-in-Ok-clause-words c =
    subst (All (λ wrote. IsOperand wrote.value)) (sym c.execute_in_order.ensures.log.front)
    c.execute_in_order.ensures.log.words
