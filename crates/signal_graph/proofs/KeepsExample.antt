-- The accumulator's graph keeps its solution, with equal words; without the initial value it does not.
use Rattle.std.proofs.Common.{◌≡◌, refl, sym, ap, ◌∙◌, arith, ℕ, zero, suc, ◌<◌, ◌≤◌, [], ◌∷◌}
use Rattle.std.specs.Prelude.{pos, negsuc}
use Rattle.std.proofs.lemmas.Int.{ints}
use Rattle.fix_word.specs.Words.{IsWord}
use Rattle.fix_word.specs.declared.operation.Op.TheVariants as op
use Rattle.signal_graph.specs.Rules.{plain}
use Rattle.signal_graph.specs.declared.graph.Graph.{Graph}
use Rattle.signal_graph.specs.FlatSolves.{flat_out}
use Rattle.signal_graph.specs.GraphSolves.{graph_out}
use Rattle.signal_graph.specs.GraphOf.{node_at, input_node, own_node}
use Rattle.signal_graph.specs.Keeps.{IsStreamOf, IsElementNode, AreEqualWords, KeepsFlatSolutions}
use Rattle.signal_graph.proofs.Examples.{byte, accumulator, edge, input_node as input, output_node, its_graph, stream}
use Rattle.signal_graph.proofs.Examples.{flat_words, graph_words, flat_solved, flat_rows, flat_loopless}
use Rattle.signal_graph.proofs.GraphExamples.{accumulator_graph}
use Rattle.signal_graph.proofs.SoundExamples.{accumulator_sound}
use Rattle.signal_graph.proofs.Targets.{one_node}
use Rattle.signal_graph.proofs.GraphKeeps.{graph_keeps}

byte_word : (m : ℕ) → m < 128 → IsWord 8 (pos m)
byte_word m lt = record { low = omega (arith, ints); high = omega (arith, ints) }

bytes : IsStreamOf accumulator.inputs stream
bytes zero d lt = (byte_word 1 (omega arith), tt {0})
bytes (suc zero) d lt = (byte_word 2 (omega arith), tt {0})
bytes (suc (suc zero)) d lt = (byte_word 120 (omega arith), tt {0})
bytes (suc (suc (suc n))) d lt = absurd (omega arith)

keeps : KeepsFlatSolutions accumulator its_graph
keeps = graph_keeps accumulator its_graph accumulator_graph accumulator_sound flat_loopless

-- the input is node 0, and the sum is node 1
x_node : IsElementNode accumulator 0 0
x_node = record { target = node_at 0 0; node = input_node refl; number = refl }

sum_node : IsElementNode accumulator 1 1
sum_node = record { target = node_at 1 2; node = own_node refl; number = refl }

-- the solution of the graph that comes from that of the program has its rows
its_rows : graph_out its_graph ((keeps.solutions stream bytes).forth flat_words flat_solved).0 3
    ≡ (pos 6 ∷ []) ∷ (pos 8 ∷ []) ∷ (negsuc 127 ∷ []) ∷ []
its_rows = ((keeps.solutions stream bytes).forth flat_words flat_solved).2.rows 3 (omega arith) ∙ flat_rows

-- the words that Examples wrote down are equal
present_words : (e v n : ℕ)
    → e < 2
    → IsElementNode accumulator e v
    → n < 3
    → graph_words v (pos n) ≡ flat_words e (pos n)
present_words zero v n el node lt = ap (λ (u : ℕ). graph_words u (pos n)) (one_node accumulator 0 v 0 node x_node)
present_words (suc zero) v n el node lt =
    ap (λ (u : ℕ). graph_words u (pos n)) (one_node accumulator 1 v 1 node sum_node)
present_words (suc (suc e)) v n el node lt = absurd (omega arith)

past_words : (e v j : ℕ) → e < 2 → IsElementNode accumulator e v → graph_words v (negsuc j) ≡ flat_words e (negsuc j)
past_words zero v j el node = ap (λ (u : ℕ). graph_words u (negsuc j)) (one_node accumulator 0 v 0 node x_node)
past_words (suc zero) v j el node = ap (λ (u : ℕ). graph_words u (negsuc j)) (one_node accumulator 1 v 1 node sum_node)
past_words (suc (suc e)) v j el node = absurd (omega arith)

rows : (count : ℕ) → count ≤ 3 → graph_out its_graph graph_words count ≡ flat_out accumulator flat_words count
rows zero le = refl
rows (suc zero) le = refl
rows (suc (suc zero)) le = refl
rows (suc (suc (suc zero))) le = refl
rows (suc (suc (suc (suc n)))) le = absurd (omega arith)

equal : AreEqualWords accumulator its_graph stream flat_words graph_words
equal = record {
  present = present_words;
  past = λ e v j el node is_read lt. past_words e v j el node;
  rows = rows;
}

-- the graph of the sum without its initial value
forgets : Graph
forgets = record {
  nodes =
      input ∷ record
      { op = op.Add; fmt = plain 8; arg = pos 0; edges = edge 0 0 ∷ edge 1 1 ∷ []; inits = []; width = 8; ram = 0 } ∷
      output_node ∷ [];
  inputs = byte ∷ [];
  outs = 1;
}

five_is_none : pos 5 ≡ pos 0 → ⊥
five_is_none h = omega (arith, ints)

forgets_not : KeepsFlatSolutions accumulator forgets → ⊥
unfolding forgets
forgets_not kept =
    let (words, one, equal) = (kept.solutions stream bytes).forth flat_words flat_solved in
    let is_five : words 1 (negsuc 0) ≡ pos 5 = equal.past 1 1 0 (omega arith) sum_node refl (omega arith) in
    let is_none : words 1 (negsuc 0) ≡ pos 0 = one.solves.past 1 0 (omega arith) (omega arith) in
    five_is_none (sym is_five ∙ is_none)
