use Rattle.std.proofs.Common.{◌∙◌, sym, ap, arith, List, [], ℕ, length}
use Rattle.std.specs.Prelude.{slice_index_or}
use Rattle.std.proofs.lemmas.List.{get_or_read}
use Rattle.signal_graph.specs.declared.graph.Edge.{Edge}
use Rattle.delay_memory.proofs.NodeSteps.{number_is, edge_loaded, edge_small}
use Rattle.delay_memory.proofs.nodes.edge_for.Goals as goal

pub overflow_add-number : goal.overflow_add-number
overflow_add-number c =
    let hold = c.args.layout.now.target.now.hold in
    let delays = c.args.layout.now.delays.now in
    let numbers = c.args.layout.now.numbers.now in
    let number = number_is hold delays numbers c.requires.layout c.args.edge c.requires.edge c.index-number.result.now
    c.index-number.ensures in
    let at = get_or_read delays c.args.edge.node c.index.result.now c.requires.edge.node c.index.ensures [] in
    let less = c.index_of-index.ensures.less in
    let same = ap (λ (ds : List ℕ). length ds) (c.as_slice.ensures ∙ at) in
    let small = edge_small hold delays numbers c.requires.layout c.args.edge c.requires.edge c.index-number.result.now
    c.index_of-index.result number (omega (arith, less, same)) in
    omega (arith, small)

pub overflow_add-number-2 : goal.overflow_add-number-2
overflow_add-number-2 c =
    let hold = c.args.layout.now.target.now.hold in
    let delays = c.args.layout.now.delays.now in
    let numbers = c.args.layout.now.numbers.now in
    let number = number_is hold delays numbers c.requires.layout c.args.edge c.requires.edge c.index-number.result.now
    c.index-number.ensures in
    let at = get_or_read delays c.args.edge.node c.index.result.now c.requires.edge.node c.index.ensures [] in
    let less = c.index_of-index.ensures.less in
    let same = ap (λ (ds : List ℕ). length ds) (c.as_slice.ensures ∙ at) in
    let small = edge_small hold delays numbers c.requires.layout c.args.edge c.requires.edge c.index-number.result.now
    c.index_of-index.result number (omega (arith, less, same)) in
    omega (arith, small)

pub overflow_add-number-3 : goal.overflow_add-number-3
overflow_add-number-3 c =
    let hold = c.args.layout.now.target.now.hold in
    let delays = c.args.layout.now.delays.now in
    let numbers = c.args.layout.now.numbers.now in
    let number = number_is hold delays numbers c.requires.layout c.args.edge c.requires.edge c.index-number.result.now
    c.index-number.ensures in
    let at = get_or_read delays c.args.edge.node c.index.result.now c.requires.edge.node c.index.ensures [] in
    let less = c.index_of-index.ensures.less in
    let same = ap (λ (ds : List ℕ). length ds) (c.as_slice.ensures ∙ at) in
    let small = edge_small hold delays numbers c.requires.layout c.args.edge c.requires.edge c.index-number.result.now
    c.index_of-index.result number (omega (arith, less, same)) in
    omega (arith, small)

pub returns : goal.returns
returns c =
    let hold = c.args.layout.now.target.now.hold in
    let delays = c.args.layout.now.delays.now in
    let numbers = c.args.layout.now.numbers.now in
    let number = number_is hold delays numbers c.requires.layout c.args.edge c.requires.edge c.index-number.result.now
    c.index-number.ensures in
    let at = c.as_slice.ensures
    ∙ get_or_read delays c.args.edge.node c.index.result.now c.requires.edge.node c.index.ensures [] in
    let less = c.index_of-index.ensures.less in
    let same = ap (λ (ds : List ℕ). length ds) at in
    edge_loaded hold delays numbers c.requires.layout c.args.edge c.requires.edge c.edge_now.result
    c.index-number.result.now c.index_of-index.result (omega (arith, c.if-edge-from.false, c.from.ensures)) number
    (omega (arith, less, same))
    (ap (λ (ds : List ℕ). slice_index_or ds c.index_of-index.result 0) (sym at) ∙ c.index_of-index.ensures.at)
    (ap (λ (e : Edge). e.node) c.edge_now.ensures) (ap (λ (e : Edge). e.delay) c.edge_now.ensures)
