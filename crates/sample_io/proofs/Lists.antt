-- The words of a row.
use Rattle.std.proofs.Common.{◌≡◌, List, [], ◌∷◌, length, ℤ, refl, arith}
use Rattle.sample_io.specs.declared.channel.Channel.{Channel}
use Rattle.sample_io.specs.Channels.{IsRow}

pub row_length : (channels : List Channel) (row : List ℤ) → IsRow channels row → length row ≡ length channels
row_length [] [] h = refl
row_length [] (word ∷ row) h = absurd h
row_length (channel ∷ channels) [] h = absurd h
row_length (channel ∷ channels) (word ∷ row) h = let same = row_length channels row h.1 in omega (arith, same)
