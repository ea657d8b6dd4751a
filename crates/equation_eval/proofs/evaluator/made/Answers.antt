use Rattle.std.proofs.Common.{◌∙◌}
use Rattle.equation_eval.proofs.Beginnings.{order_nodes, stands_before}
use Rattle.equation_eval.proofs.evaluator.made.Goals as goal

pub program_of-requires-clause-order : goal.program_of-requires-clause-order
program_of-requires-clause-order c = order_nodes c.args.graph.now c.in_ok-order.order c.in_ok-order.ensures

pub invariant_of-result : goal.invariant_of-result
invariant_of-result c =
    stands_before c.args.graph.now c.requires.graph c.in_ok-rings.rings c.in_ok-rings.memory
    c.in_ok-rings.ensures.rings c.in_ok-rings.ensures.initials c.requires.loopless c.in_ok-rings.ensures.most
    c.in_ok-order.order c.in_ok-inputs.inputs c.in_ok-program.program c.in_ok-outputs.outputs c.in_ok-order.ensures
    (c.in_ok-inputs.ensures ∙ c.as_slice.ensures) c.in_ok-program.ensures c.in_ok-outputs.ensures
    c.of.result c.none.result c.of.ensures c.none.ensures
