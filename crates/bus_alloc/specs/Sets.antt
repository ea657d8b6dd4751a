-- Sets of cycles, as bits: 1 for what is in the set, and 0 for what is not.
use Rattle.std.specs.Prelude.{ℕ, ◌/◌, ◌%◌, List, slice_index}
use Rattle.std.specs.Int.{bit_at}

-- the bit of a cycle in the words of a set
abbrev pub mark : (words : List ℕ) → ℕ → ℕ
mark words cycle = bit_at (slice_index words (cycle / 64)) (cycle % 64)
