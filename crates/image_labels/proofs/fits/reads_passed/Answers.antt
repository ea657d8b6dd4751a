use Rattle.std.proofs.Common.{◌⊎◌, ◌↔◌, ℕ, IsTrue, subst}
use Rattle.signal_graph.specs.GraphSolves.{node_of}
use Rattle.image_labels.specs.Labelled.{ReadsInOrder, ReadsExchanged}
use Rattle.image_labels.proofs.fits.reads_passed.Goals as goal

pub returns : goal.returns
returns c =
    subst
    (λ (u : ℕ).
    IsTrue c.reads_node.result
    ↔ (ReadsInOrder c.args.graph.now c.args.image.now c.args.certificate.now c.args.sample c.args.cycle
    c.args.issue.now
    (node_of c.args.graph.now u)
    ⊎ ReadsExchanged c.args.graph.now c.args.image.now c.args.certificate.now c.args.sample c.args.cycle
    c.args.issue.now
    (node_of c.args.graph.now u)))
    c.passed-from.ensures c.reads_node.ensures
