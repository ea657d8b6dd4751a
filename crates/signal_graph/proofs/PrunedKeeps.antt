-- A pruned graph keeps the solutions of its graph.
use Rattle.std.proofs.Common.{◌≡◌, subst, ap, ◌∙◌, arith, ℕ, ◌+◌, ◌<◌, ◌≤◌, List, [], length, map}
use Rattle.std.specs.Prelude.{pos, negsuc, slice_index_or, position, ◌==◌, Some}
use Rattle.std.specs.List.{range_with_len}
use Rattle.std.proofs.lemmas.Bool.{eqb-true}
use Rattle.std.proofs.lemmas.List.Quantifiers.{position-Some}
use Rattle.lists.specs.Rows.{Rows}
use Rattle.recurrences.specs.Kept.{KeepsSolutions}
use Rattle.recurrences.specs.Systems.{AreSame}
use Rattle.signal_graph.specs.declared.graph.Graph.{Graph}
use Rattle.signal_graph.specs.GraphRules.{first_output, IsGraph}
use Rattle.signal_graph.specs.GraphSolves.{graph_system, IsGraphLoopless, graph_out, GraphSolves}
use Rattle.signal_graph.specs.Values.{Words}
use Rattle.signal_graph.specs.Pruned.{IsPruned}
use Rattle.signal_graph.specs.Keeps.{IsKeptAs, AreKeptWords, KeepsGraphSolutions}
use Rattle.signal_graph.proofs.Ranges.{range_same}
use Rattle.signal_graph.proofs.OneSolution.{graph_solution, graph_once}
use Rattle.signal_graph.proofs.OnePruned.{kept_once}
use Rattle.signal_graph.proofs.PrunedSolves.{kept_words, same_count, pruned_solves}
use Rattle.signal_graph.proofs.PrunedSound.{start, new_outputs, new_first, pruned_is_sound, pruned_is_loopless}

module _ (g pruned : Graph) (sound : IsGraph g) (loopless : IsGraphLoopless g) (is : IsPruned g pruned) where
  -- the new number of a node
  kept_as : (u v : ℕ) → IsKeptAs g u v → (v < length pruned.nodes) × (slice_index_or is.kept v 0 ≡ u)
  kept_as u v k =
      let same = kept_once g k.kept is.kept k.used is.used in
      let number = subst (λ (kept : List ℕ). position (λ w. w == u) kept ≡ Some v) same k.number in
      let at = position-Some (λ w. w == u) is.kept v 0 number in
      (omega (arith, at.0, same_count g pruned sound is), eqb-true (slice_index_or is.kept v 0) u at.1)

  module _ (stream : Rows) (words new_words : Words)
      (same : AreSame (graph_system pruned stream) new_words (kept_words is.kept words)) where
    output_equal : (j n : ℕ)
        → j < g.outs
        → n < length stream
        → new_words (first_output pruned + j) (pos n) ≡ words (first_output g + j) (pos n)
    output_equal j n below lt =
        let there = new_outputs g pruned sound is j below in
        let first = new_first g pruned sound is in
        ap (λ (f : ℕ). new_words (f + j) (pos n)) first
        ∙ same.present (start g pruned sound is + j) n (omega (arith, there.0, same_count g pruned sound is)) lt
        ∙ ap (λ (v : ℕ). words v (pos n)) there.1

    row_equal : (n : ℕ)
        → n < length stream
        → map (λ j. new_words (first_output pruned + j) (pos n)) (range_with_len 0 pruned.outs)
        ≡ map (λ j. words (first_output g + j) (pos n)) (range_with_len 0 g.outs)
    row_equal n lt =
        ap (λ (count : ℕ). map (λ j. new_words (first_output pruned + j) (pos n)) (range_with_len 0 count)) is.outs
        ∙ range_same (λ j. new_words (first_output pruned + j) (pos n)) (λ j. words (first_output g + j) (pos n)) g.outs
        (pos 0) (λ j below. output_equal j n below lt)

    rows_equal : (count : ℕ) → count ≤ length stream → graph_out pruned new_words count ≡ graph_out g words count
    rows_equal count le =
        range_same (λ n. map (λ j. new_words (first_output pruned + j) (pos n)) (range_with_len 0 pruned.outs))
        (λ n. map (λ j. words (first_output g + j) (pos n)) (range_with_len 0 g.outs)) count []
        (λ n lt. row_equal n (omega arith))

    equal_words : AreKeptWords g pruned stream words new_words
    equal_words = record {
      present = λ u v n k lt.
          let there = kept_as u v k in
          same.present v n there.0 lt ∙ ap (λ (w : ℕ). words w (pos n)) there.1;
      past = λ u v j k lt.
          let there = kept_as u v k in
          same.past v j there.0 lt ∙ ap (λ (w : ℕ). words w (negsuc j)) there.1;
      rows = rows_equal;
    }

  solutions : (stream : Rows)
      → KeepsSolutions (graph_system g stream) (graph_system pruned stream) (AreKeptWords g pruned stream)
  solutions stream =
      let once =
      graph_once pruned (pruned_is_sound g pruned sound is) stream (pruned_is_loopless g pruned sound is loopless) in
      record {
        forth = λ words solves.
            let new_words = kept_words is.kept words in
            let one = once new_words (pruned_solves g pruned sound is stream words solves) in
            (new_words, one, equal_words stream words new_words (one.unique new_words one.solves));
        back = λ new_words new_solves.
            let (words, one) = graph_solution g sound stream loopless in
            let kept = once (kept_words is.kept words) (pruned_solves g pruned sound is stream words one.solves) in
            (words, one, equal_words stream words new_words (kept.unique new_words new_solves));
      }

  -- any solution of the graph and any of the pruned graph
  pub any_kept : (stream : Rows) (words new_words : Words)
      → GraphSolves g stream words
      → GraphSolves pruned stream new_words
      → AreKeptWords g pruned stream words new_words
  any_kept stream words new_words solves new_solves =
      let once =
      graph_once pruned (pruned_is_sound g pruned sound is) stream (pruned_is_loopless g pruned sound is loopless) in
      let kept = once (kept_words is.kept words) (pruned_solves g pruned sound is stream words solves) in
      equal_words stream words new_words (kept.unique new_words new_solves)

  pub pruned_keeps : KeepsGraphSolutions g pruned
  pruned_keeps = record { solutions = solutions }
