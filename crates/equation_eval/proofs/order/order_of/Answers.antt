use Rattle.std.proofs.Common.{◌≡◌, ap₂, subst, sym, ◌-◌, ℕ, List, take}
use Rattle.std.specs.Prelude.{IfOk}
use Rattle.std.proofs.lemmas.Result.{IfOk-weaker}
use Rattle.signal_graph.specs.declared.graph.Node.{Node}
use Rattle.node_order.specs.Topological.{CanBeOrdered, IsTopologicalOrder}
use Rattle.equation_eval.specs.Private.Order.{IsOrder}
use Rattle.equation_eval.proofs.Orders.{calculated, can_be_ordered, is_order}
use Rattle.equation_eval.proofs.order.order_of.Goals as goal

pub topological_order-requires : goal.topological_order-requires
topological_order-requires c =
    let g = c.args.graph.now in
    let first : take (c.len.result - c.from.result) c.as_slice.result.now ≡ calculated g c.requires.graph =
    ap₂ take (ap₂ (λ (a b : ℕ). a - b) c.len.ensures c.from.ensures) c.as_slice.ensures in
    subst CanBeOrdered (sym first) (can_be_ordered g c.requires.graph c.requires.loopless)

pub returns : goal.returns
returns c =
    let g = c.args.graph.now in
    let first : take (c.len.result - c.from.result) c.as_slice.result.now ≡ calculated g c.requires.graph =
    ap₂ take (ap₂ (λ (a b : ℕ). a - b) c.len.ensures c.from.ensures) c.as_slice.ensures in
    IfOk-weaker c.topological_order.result (IsTopologicalOrder (calculated g c.requires.graph)) (IsOrder g)
    (is_order g c.requires.graph)
    (subst (λ (nodes : List Node). IfOk c.topological_order.result (IsTopologicalOrder nodes)) first
    c.topological_order.ensures)
