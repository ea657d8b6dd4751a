-- Where solutions are kept, any two have equal words; and solutions that are the same have the same output rows.
use Rattle.std.proofs.Common.{◌≡◌, ◌∙◌, arith, ℕ, ◌+◌, ◌<◌, ◌≤◌, [], length, map}
use Rattle.std.specs.Prelude.{pos}
use Rattle.std.specs.List.{range_with_len}
use Rattle.lists.specs.Rows.{Rows}
use Rattle.recurrences.specs.Systems.{AreSame}
use Rattle.signal_graph.specs.Flat.{Program}
use Rattle.signal_graph.specs.FlatRules.{IsFlat}
use Rattle.signal_graph.specs.FlatSolves.{flat_system, flat_out, FlatSolves}
use Rattle.signal_graph.specs.GraphRules.{first_output, IsGraph}
use Rattle.signal_graph.specs.GraphSolves.{graph_system, graph_out, GraphSolves}
use Rattle.signal_graph.specs.Values.{Words}
use Rattle.signal_graph.specs.Keeps.{IsStreamOf, IsElementNode, AreEqualWords, KeepsFlatSolutions}
use Rattle.signal_graph.specs.declared.graph.Graph.{Graph}
use Rattle.signal_graph.proofs.PrunedSound.{outputs_fit}
use Rattle.signal_graph.proofs.Ranges.{range_same, map_same}

-- the output rows of a flat program hang on the words of its solution alone
pub flat_out_same : (p : Program) (stream : Rows) (x y : Words)
    → IsFlat p
    → AreSame (flat_system p stream) x y
    → (count : ℕ)
    → count ≤ length stream
    → flat_out p x count ≡ flat_out p y count
flat_out_same p stream x y sound same count le =
    range_same (λ n. map (λ (e : ℕ). x e (pos n)) p.outs) (λ n. map (λ (e : ℕ). y e (pos n)) p.outs) count []
    (λ n lt. map_same (λ e. x e (pos n)) (λ e. y e (pos n)) p.outs
    (λ k d below. same.present _ n (sound.outs k d below) (omega arith)))

-- and those of a graph on the words of its
pub graph_out_same : (g : Graph) (stream : Rows) (x y : Words)
    → IsGraph g
    → AreSame (graph_system g stream) x y
    → (count : ℕ)
    → count ≤ length stream
    → graph_out g x count ≡ graph_out g y count
graph_out_same g stream x y sound same count le =
    range_same (λ n. map (λ j. x (first_output g + j) (pos n)) (range_with_len 0 g.outs))
    (λ n. map (λ j. y (first_output g + j) (pos n)) (range_with_len 0 g.outs)) count []
    (λ n lt. range_same (λ j. x (first_output g + j) (pos n)) (λ j. y (first_output g + j) (pos n)) g.outs (pos 0)
    (λ j below. same.present (first_output g + j) n (omega (arith, outputs_fit g sound)) (omega arith)))

-- any solution of a flat program and any of its graph
pub any_equal : (p : Program) (g : Graph)
    → IsGraph g
    → KeepsFlatSolutions p g
    → (stream : Rows)
    → IsStreamOf p.inputs stream
    → (words node_words : Words)
    → FlatSolves p stream words
    → GraphSolves g stream node_words
    → AreEqualWords p g stream words node_words
any_equal p g sound keeps stream is_stream words node_words solves node_solves =
    let (others, one, equal) = (keeps.solutions stream is_stream).forth words solves in
    let same = one.unique node_words node_solves in
    record {
      present = λ e v n el node lt. same.present v n (inside e v el node) lt ∙ equal.present e v n el node lt;
      past = λ e v j el node is_read lt. same.past v j (inside e v el node) lt ∙ equal.past e v j el node is_read lt;
      rows = λ count le.
          graph_out_same g stream node_words others sound same count le ∙ equal.rows count le;
    }
  where
    inside : (e v : ℕ) → e < length p.elems → IsElementNode p e v → v < length g.nodes
    inside e v el node =
        let has = keeps.nodes e el in
        let is = has.unique v node in
        let there = has.there in
        omega arith
