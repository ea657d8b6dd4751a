use Rattle.std.proofs.Common.{◌∙◌, ap, refl, length}
use Rattle.flow_graph.proofs.NewNumbers.{numbers_count, is_pruned}
use Rattle.flow_graph.proofs.pruning.marked_graph.Goals as goal

pub nodes_of-requires-clause-numbers : goal.nodes_of-requires-clause-numbers
nodes_of-requires-clause-numbers c =
    ap length c.in_ok-numbers.ensures ∙ numbers_count 0 c.args.marks.now ∙ c.requires.marks.count

pub returns : goal.returns
returns c =
    is_pruned c.args.graph.now c.args.marks.now c.requires.marks c.in_ok-numbers.numbers c.in_ok-numbers.ensures _
    c.in_ok-nodes_of.ensures (c.in_ok-from_slice.ensures ∙ c.as_slice.ensures) refl
