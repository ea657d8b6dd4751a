-- The graph of a sound flat program without a delay-free loop keeps its solutions.
use Rattle.std.proofs.Common.{◌≡◌, sym, ap, ◌∙◌, arith, ℕ, ◌+◌, ◌<◌, ◌≤◌, [], length, map}
use Rattle.std.specs.Prelude.{pos, slice_index_or}
use Rattle.std.specs.List.{range_with_len}
use Rattle.std.proofs.lemmas.Option.{slice_get-get_or}
use Rattle.std.proofs.lemmas.List.{get_or-map, length-map}
use Rattle.std.proofs.lemmas.List.FromFn.{fill_by_all}
use Rattle.lists.specs.Rows.{Rows}
use Rattle.recurrences.specs.Kept.{KeepsSolutions}
use Rattle.signal_graph.specs.Flat.{Program}
use Rattle.signal_graph.specs.FlatRules.{IsFlat}
use Rattle.signal_graph.specs.FlatSolves.{IsElementNumber, flat_system, flat_out, IsFlatLoopless, FlatSolves}
use Rattle.signal_graph.specs.GraphRules.{first_output}
use Rattle.signal_graph.specs.GraphSolves.{node_of, graph_system, graph_out, GraphSolves}
use Rattle.signal_graph.specs.Values.{Words, node_value}
use Rattle.signal_graph.specs.declared.graph.Node.{Node}
use Rattle.signal_graph.specs.declared.graph.Graph.{Graph}
use Rattle.signal_graph.specs.GraphOf.{node_sites, IsOutputOf, IsGraphOf}
use Rattle.signal_graph.specs.Keeps.{IsStreamOf, HasOneNode, AreEqualWords, KeepsFlatSolutions}
use Rattle.signal_graph.proofs.OneSolution.{flat_solution, graph_solution}
use Rattle.signal_graph.proofs.Targets.{one_node, element_node}
use Rattle.signal_graph.proofs.Nodes.{inside}
use Rattle.signal_graph.proofs.Equal.{no_delay}
use Rattle.signal_graph.proofs.Ranges.{range_same}
use Rattle.signal_graph.proofs.Agreement.{past_equal, present_equal}
use Rattle.signal_graph.proofs.GraphSound.{graph_is_sound}
use Rattle.signal_graph.proofs.GraphLoopless.{graph_is_loopless}

module _ (p : Program) (g : Graph) (is : IsGraphOf p g) (sound : IsFlat p) (loopless : IsFlatLoopless p) where
  module _ (stream : Rows) (is_stream : IsStreamOf p.inputs stream) where
    module _ (words node_words : Words) (solves : FlatSolves p stream words)
        (node_solves : GraphSolves g stream node_words) where
      output_equal : (j e n : ℕ)
          → j < length p.outs
          → e < length p.elems
          → n < length stream
          → IsOutputOf p g j e (node_of g (length (node_sites p) + j))
          → node_words (length (node_sites p) + j) (pos n) ≡ words e (pos n)
      output_equal j e n inside el lt (edge, (t, node, rank, delay), same) =
          node_solves.present (length (node_sites p) + j) n (omega (arith, is.count)) lt
          ∙ ap (λ (x : Node). node_value stream node_words n x) same
          ∙ no_delay node_words n edge.node edge.delay (words e (pos n)) delay
          (present_equal p g is sound loopless stream is_stream words node_words solves node_solves e n el lt edge.node
          (record { target = t; node = node; number = rank }))

      row_equal : (n : ℕ)
          → n < length stream
          → map (λ j. node_words (first_output g + j) (pos n)) (range_with_len 0 g.outs)
          ≡ map (λ (e : ℕ). words e (pos n)) p.outs
      row_equal n lt =
          sym
          (fill_by_all (λ j. node_words (first_output g + j) (pos n)) (map (λ (e : ℕ). words e (pos n)) p.outs) g.outs
          (pos 0) (length-map p.outs (λ (e : ℕ). words e (pos n)) ∙ sym is.outs) at)
        where
          at : (k : ℕ)
              → k < g.outs
              → slice_index_or (map (λ (e : ℕ). words e (pos n)) p.outs) k (pos 0)
              ≡ node_words (first_output g + k) (pos n)
          at k below =
              let e = slice_index_or p.outs k 0 in
              let inside : k < length p.outs = omega (arith, is.outs) in
              let first : length (node_sites p) ≡ first_output g = omega (arith, is.count, is.outs) in
              get_or-map (λ (i : ℕ). words i (pos n)) p.outs k 0 (pos 0) inside
              ∙ sym
              (output_equal k e n inside (sound.outs k 0 inside) lt
              (is.outputs k e (slice_get-get_or p.outs k 0 inside)))
              ∙ ap (λ (f : ℕ). node_words (f + k) (pos n)) first

      rows_equal : (count : ℕ) → count ≤ length stream → graph_out g node_words count ≡ flat_out p words count
      rows_equal count le =
          range_same (λ n. map (λ j. node_words (first_output g + j) (pos n)) (range_with_len 0 g.outs))
          (λ n. map (λ (e : ℕ). words e (pos n)) p.outs) count []
          (λ n lt. row_equal n (omega arith))

      equal_words : AreEqualWords p g stream words node_words
      equal_words = record {
        present =
            λ e v n el node lt. present_equal p g is sound loopless stream is_stream words node_words solves node_solves
            e n el lt v node;
        past =
            λ e v j el node is_read lt. past_equal p g is sound loopless stream is_stream words node_words solves
            node_solves e j el lt is_read v node;
        rows = rows_equal;
      }

    solutions : KeepsSolutions (flat_system p stream) (graph_system g stream) (AreEqualWords p g stream)
    solutions = record {
      forth = λ words solves.
          let (node_words, one) =
          graph_solution g (graph_is_sound p g is sound) stream (graph_is_loopless p sound loopless g is) in
          (node_words, one, equal_words words node_words solves one.solves);
      back = λ node_words node_solves.
          let (words, one) = flat_solution p sound stream loopless in
          (words, one, equal_words words node_words one.solves node_solves);
    }

  has_one_node : (e : ℕ) → IsElementNumber p e → HasOneNode p g e
  has_one_node e el =
      let (v, node) = element_node p sound loopless e el in
      record {
        node = v;
        there = inside p g is node.target v node.number;
        its = node;
        unique = λ u other. one_node p e u v other node;
      }

  pub graph_keeps : KeepsFlatSolutions p g
  graph_keeps = record { nodes = has_one_node; solutions = solutions }
