-- The rows of a machine's channels are rows that it takes.
use Rattle.std.proofs.Common.{◌≡◌, ◌≤◌, refl, arith, ℕ, List, [], ◌∷◌, length, map, ℤ, pos, negsuc}
use Rattle.std.specs.List.{All}
use Rattle.std.proofs.lemmas.Int.{ints}
use Rattle.std.proofs.lemmas.List.Elements.{All-head, All-tail, All-cons, All-nil}
use Rattle.operations.specs.Operations.{IsOperand}
use Rattle.sample_io.specs.declared.channel.Channel.{Channel}
use Rattle.sample_io.specs.Channels.{IsInChannel, IsChannel, IsRow, channel_of}
use Rattle.sample_io.proofs.Widths.{channel_is}
use Rattle.sample_loops.specs.Machines.{channels_of}

in_channel : (channel : Channel) (word : ℤ) → IsChannel channel → IsInChannel channel word → IsOperand word
in_channel channel (pos n) is h = omega (arith, ints, is.high, h.1)
in_channel channel (negsuc n) is h = omega (arith, ints, is.low, h.0)

words_fit : (widths : List ℕ) (row : List ℤ)
    → All (λ width. width ≤ 40) widths
    → IsRow (map channel_of widths) row
    → All IsOperand row
words_fit [] [] all h = All-nil IsOperand
words_fit [] (word ∷ row) all h = absurd h
words_fit (width ∷ widths) [] all h = All-nil IsOperand
words_fit (width ∷ widths) (word ∷ row) all h =
    let few = All-head (λ w. w ≤ 40) width widths all in
    All-cons IsOperand word row (in_channel (channel_of width) word (channel_is width (omega (arith, few))) h.0)
    (words_fit widths row (All-tail (λ w. w ≤ 40) width widths all) h.1)

-- a row has a word for each input, of magnitude at most 2^39
pub row_words : (inputs : List ℕ) (row : List ℤ)
    → All (λ width. width ≤ 40) inputs
    → IsRow (channels_of inputs) row
    → All IsOperand row
row_words = words_fit

as_many : (widths : List ℕ) (row : List ℤ) → IsRow (map channel_of widths) row → length row ≡ length widths
as_many [] [] h = refl
as_many [] (word ∷ row) h = absurd h
as_many (width ∷ widths) [] h = absurd h
as_many (width ∷ widths) (word ∷ row) h = let same = as_many widths row h.1 in omega (arith, same)

pub row_count : (inputs : List ℕ) (row : List ℤ) → IsRow (channels_of inputs) row → length row ≡ length inputs
row_count = as_many
