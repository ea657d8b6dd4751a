use Rattle.std.proofs.Common.{rules, List, ℕ, length}
use Rattle.std.proofs.lemmas.Result.{IfOk-weaker}
use Rattle.node_order.specs.Topological.{IsTopologicalOrder}
use Rattle.node_order.specs.Private.Sorted.{IsSorted, AreNumbers}
use Rattle.node_order.proofs.Operands.{numbers_ordered}
use Rattle.node_order.proofs.order.topological_order.Goals as goal

pub returns-then-is_sorted : goal.returns-then-is_sorted
returns-then-is_sorted c =
    let nodes = c.args.nodes.now in
    let sorted : IsSorted nodes (length nodes) = c.is_sorted.ensures (search rules) in
    IfOk-weaker c.numbers.result (AreNumbers (length nodes)) (IsTopologicalOrder nodes)
    (λ (order : List ℕ) (are : AreNumbers (length nodes) order). numbers_ordered nodes order sorted are)
    c.numbers.ensures
