use Rattle.std.proofs.Common.{◌<◌, arith, sym, subst, length, List}
use Rattle.std.specs.Prelude.{All}
use Rattle.signal_graph.specs.declared.graph.Edge.{Edge}
use Rattle.equation_eval.specs.Private.Program.{no_edge}
use Rattle.equation_eval.proofs.Layouts.{raised_more}
use Rattle.equation_eval.proofs.layout.raise.Goals as goal

pub loop-edge-preserved : goal.loop-edge-preserved
loop-edge-preserved c =
    let nodes = subst (λ (es : List Edge). All (λ edge. edge.node < length c.args.longest.now) es)
    (sym c.deref-edge-items.ensures) c.requires.nodes c.loop-edge.edge-index no_edge c.loop-edge-test.true in
    let delays = subst (λ (es : List Edge). All (λ edge. edge.delay < 1024) es)
    (sym c.deref-edge-items.ensures) c.requires.delays c.loop-edge.edge-index no_edge c.loop-edge-test.true in
    raised_more c.deref-edge-items.result.now c.loop-edge.edge-index c.args.longest.now c.loop-edge.longest
    c.loop-edge.invariant c.loop-edge-test.true
    (omega (arith, nodes, c.loop-edge.invariant.count)) delays c.index.result.now c.max.result c.index.ensures
    c.max.ensures
