-- Rows of the channels of types are rows of words in the ranges of the types.
use Rattle.std.proofs.Common.{◌≡◌, subst, arith, ℕ, suc, zero, ◌-◌, ◌≤◌, ◌<◌, ◌^◌, List, [], ◌∷◌, map, ℤ, pos, neg_ℤ}
use Rattle.std.proofs.Common.{◌≤ℤ◌, ◌<ℤ◌}
use Rattle.std.specs.List.{All}
use Rattle.std.proofs.lemmas.Int.{ints}
use Rattle.std.proofs.lemmas.List.Elements.{All-head, All-tail, All-weaker}
use Rattle.std.proofs.lemmas.Nat.{pow_pos}
use Rattle.lists.specs.Rows.{Rows}
use Rattle.fix_word.specs.Words.{IsWord}
use Rattle.fix_word.specs.declared.types.SigType.{SigType}
use Rattle.fix_word.specs.declared.types.SigType.TheVariants as sig
use Rattle.sample_io.specs.Channels.{IsInChannel, IsRow, IsStream, channel_of}
use Rattle.signal_graph.specs.Keeps.{IsRowOf, IsStreamOf}
use Rattle.signal_graph.specs.Rules as graph
use Rattle.sample_loops.specs.Evaluators.{type_channel}

-- the words of a channel are those of its width
in_width : (width : ℕ) (word : ℤ) → 1 ≤ width → IsInChannel (channel_of width) word → IsWord width word
in_width zero word some h = absurd (omega (arith, some))
in_width (suc n) word some h =
    let width : n ≡ suc n - 1 = omega arith in
    let positive : 0 < 2 ^ n = pow_pos n in
    let below : word <ℤ pos (2 ^ n) = omega (arith, ints, h.1, positive) in
    record {
      low = subst (λ k. neg_ℤ (pos (2 ^ k)) ≤ℤ word) width h.0;
      high = subst (λ k. word <ℤ pos (2 ^ k)) width below;
    }

in_graph_type : (ty : SigType) (word : ℤ)
    → graph.IsType ty
    → IsInChannel (type_channel ty) word
    → graph.IsInType ty word
in_graph_type (sig.Fix t) word is h = in_width t.shape.w word is.width.narrowest h
in_graph_type sig.Bool word is h = h

pub graph_row : (types : List SigType) (row : List ℤ)
    → All graph.IsType types
    → IsRow (map type_channel types) row
    → IsRowOf types row
graph_row [] [] all h = tt
graph_row [] (word ∷ row) all h = absurd h
graph_row (ty ∷ types) [] all h = absurd h
graph_row (ty ∷ types) (word ∷ row) all h = (
  in_graph_type ty word (All-head graph.IsType ty types all) h.0,
  graph_row types row (All-tail graph.IsType ty types all) h.1,
)

pub graph_stream : (types : List SigType) (stream : Rows)
    → All graph.IsType types
    → IsStream (map type_channel types) stream
    → IsStreamOf types stream
graph_stream types stream all h =
    All-weaker (IsRow (map type_channel types)) (IsRowOf types) (λ row is. graph_row types row all is) stream h
