-- The accumulator y = x + y@1 with y@@1 = 5, in words of 8 bits, over three samples: as a flat program of two elements,
-- and as its graph of an input, a sum and an output.
use Rattle.std.proofs.Common.{◌≡◌, refl, arith, ℕ, zero, suc, ◌+◌, ◌<◌, inl, inr, List, [], ◌∷◌, slice_index_or}
use Rattle.std.specs.Prelude.{ℤ, pos, negsuc}
use Rattle.lists.specs.Rows.{Rows}
use Rattle.recurrences.specs.Systems.{DependsNow, direct, by_way_of}
use Rattle.fix_word.specs.Values.{wrap_of}
use Rattle.fix_word.specs.declared.types.Mode.TheVariants.{Trunc}
use Rattle.fix_word.specs.declared.types.SigType.{SigType}
use Rattle.fix_word.specs.declared.types.SigType.TheVariants as sig
use Rattle.fix_word.specs.declared.operation.Op.TheVariants as op
use Rattle.signal_graph.specs.declared.graph.Edge.{Edge}
use Rattle.signal_graph.specs.declared.graph.Node.{Node}
use Rattle.signal_graph.specs.declared.graph.Graph.{Graph}
use Rattle.signal_graph.specs.Rules.{plain, word_before}
use Rattle.signal_graph.specs.Flat.{read, calculation, no_part, part, word, value, Element, Program}
use Rattle.signal_graph.specs.Values.{Words, body_value, node_value}
use Rattle.signal_graph.specs.FlatSolves.{element_of, ElementReads, IsFlatLoopless, FlatSolves, flat_out}
use Rattle.signal_graph.specs.GraphSolves.{node_of, GraphSolves, graph_out}

abbrev pub byte : SigType
byte = sig.Fix (record { shape = record { w = 8; f = 0 }; mode = Trunc })

abbrev pub sum : Element
sum = record {
  ty = byte;
  body = value (calculation op.Add (plain 8) (part (read 0 0) (part (read 1 1) no_part)));
  inits = (1, pos 5) ∷ [];
}

abbrev pub accumulator : Program
accumulator = record {
  elems = record { ty = byte; body = word 0; inits = [] } ∷ sum ∷ [];
  inputs = byte ∷ [];
  outs = 1 ∷ [];
}

abbrev pub edge : ℕ → ℕ → Edge
edge node delay = record { node = node; delay = delay }

abbrev pub input_node : Node
input_node = record { op = op.Input; fmt = plain 0; arg = pos 0; edges = []; inits = []; width = 8; ram = 0 }

abbrev pub sum_node : Node
sum_node = record {
  op = op.Add;
  fmt = plain 8;
  arg = pos 0;
  edges = edge 0 0 ∷ edge 1 1 ∷ [];
  inits = (1, pos 5) ∷ [];
  width = 8;
  ram = 0;
}

abbrev pub output_node : Node
output_node =
    record { op = op.Output; fmt = plain 0; arg = pos 0; edges = edge 1 0 ∷ []; inits = []; width = 8; ram = 0 }

abbrev pub its_graph : Graph
its_graph = record { nodes = input_node ∷ sum_node ∷ output_node ∷ []; inputs = byte ∷ []; outs = 1 }

abbrev pub stream : Rows
stream = (pos 1 ∷ []) ∷ (pos 2 ∷ []) ∷ (pos 120 ∷ []) ∷ []

abbrev xs : List ℤ
xs = pos 1 ∷ pos 2 ∷ pos 120 ∷ []

-- 8 + 120 wraps around
abbrev ys : List ℤ
ys = pos 6 ∷ pos 8 ∷ negsuc 127 ∷ []

abbrev pub flat_words : Words
flat_words e (pos n) = slice_index_or (slice_index_or (xs ∷ ys ∷ []) e []) n (pos 0)
flat_words e (negsuc j) = word_before (element_of accumulator e).inits (j + 1)

abbrev pub graph_words : Words
graph_words v (pos n) = slice_index_or (slice_index_or (xs ∷ ys ∷ ys ∷ []) v []) n (pos 0)
graph_words v (negsuc j) = word_before (node_of its_graph v).inits (j + 1)

initial_word : flat_words 1 (negsuc 0) ≡ pos 5
initial_word = refl

no_initial_word : flat_words 1 (negsuc 1) ≡ pos 0
no_initial_word = refl

flat_present : (e n : ℕ)
    → e < 2
    → n < 3
    → flat_words e (pos n) ≡ body_value stream flat_words n (element_of accumulator e).body
unfolding wrap_of
flat_present zero zero below inside = refl
flat_present zero (suc zero) below inside = refl
flat_present zero (suc (suc zero)) below inside = refl
flat_present (suc zero) zero below inside = refl
flat_present (suc zero) (suc zero) below inside = refl
flat_present (suc zero) (suc (suc zero)) below inside = refl
flat_present (suc (suc e)) n below inside = absurd (omega arith)
flat_present e (suc (suc (suc n))) below inside = absurd (omega arith)

pub flat_solved : FlatSolves accumulator stream flat_words
flat_solved = record { past = λ e j el lt. refl; present = flat_present }

pub flat_rows : flat_out accumulator flat_words 3 ≡ (pos 6 ∷ []) ∷ (pos 8 ∷ []) ∷ (negsuc 127 ∷ []) ∷ []
flat_rows = refl

graph_present : (v n : ℕ)
    → v < 3
    → n < 3
    → graph_words v (pos n) ≡ node_value stream graph_words n (node_of its_graph v)
unfolding wrap_of
graph_present zero zero below inside = refl
graph_present zero (suc zero) below inside = refl
graph_present zero (suc (suc zero)) below inside = refl
graph_present (suc zero) zero below inside = refl
graph_present (suc zero) (suc zero) below inside = refl
graph_present (suc zero) (suc (suc zero)) below inside = refl
graph_present (suc (suc zero)) zero below inside = refl
graph_present (suc (suc zero)) (suc zero) below inside = refl
graph_present (suc (suc zero)) (suc (suc zero)) below inside = refl
graph_present (suc (suc (suc v))) n below inside = absurd (omega arith)
graph_present v (suc (suc (suc n))) below inside = absurd (omega arith)

pub graph_solved : GraphSolves its_graph stream graph_words
graph_solved = record { past = λ v j el lt. refl; present = graph_present }

graph_rows : graph_out its_graph graph_words 3 ≡ (pos 6 ∷ []) ∷ (pos 8 ∷ []) ∷ (negsuc 127 ∷ []) ∷ []
graph_rows = refl

-- what an element reads without a delay has a smaller number
flat_falls : (e d : ℕ) → ElementReads accumulator e d 0 → d < e
flat_falls zero d r = absurd r
flat_falls (suc zero) d (inl r) = let h = r.0 in omega arith
flat_falls (suc zero) d (inr (inl r)) = let h = r.1 in absurd (omega arith)
flat_falls (suc zero) d (inr (inr r)) = absurd r
flat_falls (suc (suc e)) d r = absurd r

falls_along : (e d : ℕ) → DependsNow (ElementReads accumulator) e d → d < e
falls_along e d (direct r) = flat_falls e d r
falls_along e d (by_way_of c r p) = omega (arith, flat_falls e c r, falls_along c d p)

pub flat_loopless : IsFlatLoopless accumulator
flat_loopless e el p = let less = falls_along e e p in omega arith
