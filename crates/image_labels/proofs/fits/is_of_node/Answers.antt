use Rattle.std.proofs.Common.{◌≡◌, ◌⊎◌, ℕ, arith, subst, sym}
use Rattle.signal_graph.specs.GraphSolves.{node_of}
use Rattle.image_labels.specs.Labelled.{sample_at, ReadsInOrder, ReadsExchanged, IsOfNode}
use Rattle.image_labels.proofs.fits.is_of_node.Goals as goal

pub returns-then-does_at : goal.returns-then-does_at
returns-then-does_at c =
    let does = c.does_at.ensures.0 c.if-does_at.true in
    let reads = λ (s : ℕ).
    ReadsInOrder c.args.graph.now c.args.image.now c.args.certificate.now s c.args.cycle c.args.issue.now
    (node_of c.args.graph.now c.args.node)
    ⊎ ReadsExchanged c.args.graph.now c.args.image.now c.args.certificate.now s c.args.cycle c.args.issue.now
    (node_of c.args.graph.now c.args.node) in
    let now : c.args.sample ≡ sample_at c.args.image.now c.args.cycle =
    omega (arith, c.if-sample-now.false, c.sample_at-now.ensures) in (
      λ is. record {
        there = does.there;
        op = does.op_is;
        fmt = does.fmt_is;
        arg = does.arg_is;
        now = now;
        operands = subst reads c.sample_at-now.ensures (c.reads_node.ensures.0 is);
      },
      λ
          (of : IsOfNode c.args.graph.now c.args.image.now c.args.certificate.now c.args.cycle c.args.issue.now
          c.args.node
          c.args.sample).
          c.reads_node.ensures.1 (subst reads (sym c.sample_at-now.ensures) of.operands),
    )
