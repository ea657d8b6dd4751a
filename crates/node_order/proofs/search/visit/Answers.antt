use Rattle.std.proofs.Common.{◌≡◌, sym, subst, arith, ℕ, ◌<◌, inl, inr, rules, All}
use Rattle.signal_graph.specs.declared.graph.Edge.{Edge}
use Rattle.node_order.proofs.Operands.{operand_of, none_new, edges_there}
use Rattle.node_order.proofs.search.visit.Goals as goal

pub new_operand-requires : goal.new_operand-requires
new_operand-requires c =
    subst (λ (n : ℕ). All (λ (edge : Edge). edge.delay ≡ 0 → edge.node < n) c.index-nodes-v.result.edges)
    (sym c.requires.count)
    (edges_there c.args.nodes.now c.args.v c.index-nodes-v.result c.requires.node c.index-nodes-v.is c.requires.nodes)

pub index_mut-requires : goal.index_mut-requires
index_mut-requires c =
    let there = c.requires.nodes.closed c.args.v c.in-Some.u c.requires.node
    (operand_of c.args.nodes.now c.args.v c.index-nodes-v.result c.requires.node c.index-nodes-v.is
    c.args.search.now.marks c.in-Some.u c.in-Some.ensures.some) in
    omega (arith, there, c.requires.count)

pub returns-in_ok-push-in-Some-2 : goal.returns-in_ok-push-in-Some-2
returns-in_ok-push-in-Some-2 c =
    inl (record {
      operand = c.in-Some.u;
      read = operand_of c.args.nodes.now c.args.v c.index-nodes-v.result c.requires.node c.index-nodes-v.is
          c.args.search.now.marks c.in-Some.u c.in-Some.ensures.some;
      fresh = c.in-Some.ensures.some.fresh;
      pushed = search rules;
      search = search rules;
    })

pub returns-in_ok-push-in-None : goal.returns-in_ok-push-in-None
returns-in_ok-push-in-None c =
    inr (record {
      none = none_new c.args.nodes.now c.args.v c.index-nodes-v.result c.requires.node c.index-nodes-v.is
          c.args.search.now.marks c.in-None.ensures.none;
      same = search rules;
      search = search rules;
    })
