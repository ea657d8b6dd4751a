-- A solution over a stream solves the graph over each stream that it goes on from.
use Rattle.std.proofs.Common.{◌≡◌, refl, ap, ◌∙◌, arith, ℕ, ◌<◌, List, [], ◌++◌, length, length-append}
use Rattle.std.specs.Prelude.{ℤ, pos, slice_index_or}
use Rattle.std.proofs.lemmas.List.{get_or_append_left}
use Rattle.lists.specs.Rows.{Rows}
use Rattle.signal_graph.specs.Operations.{Class, input, output, constant, class_of}
use Rattle.signal_graph.specs.Values.{Words, given_by, node_value, to_nat}
use Rattle.signal_graph.specs.GraphSolves.{node_of, GraphSolves}
use Rattle.signal_graph.specs.declared.graph.Node.{Node}
use Rattle.signal_graph.specs.declared.graph.Graph.{Graph}

module _ (stream more : Rows) (words : Words) (n : ℕ) (within : n < length stream) where
  given_before : (class : Class) (node : Node)
      → given_by class (stream ++ more) words n node ≡ given_by class stream words n node
  given_before input node = ap (λ (row : List ℤ). slice_index_or row (to_nat node.arg) (pos 0))
      (get_or_append_left stream more [] n within)
  given_before output node = refl
  given_before constant node = refl
  given_before _ node = refl

  pub value_before : (node : Node) → node_value (stream ++ more) words n node ≡ node_value stream words n node
  value_before node = given_before (class_of node.op) node

pub solves_before : (g : Graph) (stream more : Rows) (words : Words)
    → GraphSolves g (stream ++ more) words
    → GraphSolves g stream words
solves_before g stream more words solves = record {
  past = solves.past;
  present = λ v n el lt.
      let inside : n < length (stream ++ more) = omega (arith, length-append stream more) in
      solves.present v n el inside ∙ value_before stream more words n lt (node_of g v);
}
