use Rattle.std.proofs.Common.{◌<◌, length, subst, arith}
use Rattle.std.proofs.lemmas.List.{length-map, get_or-map}
use Rattle.flow_graph.specs.Private.Edges.{HasNumber}
use Rattle.flow_graph.specs.Private.Sites.{view_operand}
use Rattle.flow_graph.proofs.edges.edges_of.Goals as goal
use Rattle.flow_graph.specs.declared.sites.Operand.TheVariants.{Number}
use Rattle.std.specs.Prelude.{pos}

pub edge_of-requires : goal.edge_of-requires
edge_of-requires c =
    let os = c.args.operands.now in
    let k = c.loop-operand.operand-index in
    let within : k < length os = c.loop-operand-test.true in
    let size = length-map os view_operand in
    subst (HasNumber c.args.words.now c.args.places.now c.args.elements.now c.args.first)
    (get_or-map view_operand os k (Number (pos 0)) (view_operand (Number (pos 0))) within)
    (c.requires k (view_operand (Number (pos 0))) (omega arith))
