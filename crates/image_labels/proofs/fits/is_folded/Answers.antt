use Rattle.std.proofs.Common.{◌≡◌, ◌⊎◌, ℕ, arith, subst, sym}
use Rattle.signal_graph.specs.GraphSolves.{node_of}
use Rattle.image_labels.specs.Rules.{passed}
use Rattle.image_labels.specs.Labelled.{sample_at, ReadsInOrder, ReadsExchanged, IsFolded}
use Rattle.image_labels.proofs.fits.is_folded.Goals as goal

pub returns-then-does_fold : goal.returns-then-does_fold
returns-then-does_fold c =
    let does = c.does_fold.ensures.0 c.if-does_fold.true in
    let reads = λ (s : ℕ).
    ReadsInOrder c.args.graph.now c.args.image.now c.args.certificate.now s c.args.cycle c.args.issue.now
    (node_of c.args.graph.now (passed c.args.graph.now c.args.node))
    ⊎ ReadsExchanged c.args.graph.now c.args.image.now c.args.certificate.now s c.args.cycle c.args.issue.now
    (node_of c.args.graph.now (passed c.args.graph.now c.args.node)) in
    let now : c.args.sample ≡ sample_at c.args.image.now c.args.cycle =
    omega (arith, c.if-sample-now.false, c.sample_at-now.ensures) in (
      λ is. record {
        op = does.op_is;
        fold = does.fold;
        now = now;
        operands = subst reads c.sample_at-now.ensures (c.reads_passed.ensures.0 is);
      },
      λ
          (of : IsFolded c.args.graph.now c.args.image.now c.args.certificate.now c.args.cycle c.args.issue.now
          c.args.node
          c.args.sample).
          c.reads_passed.ensures.1 (subst reads (sym c.sample_at-now.ensures) of.operands),
    )
