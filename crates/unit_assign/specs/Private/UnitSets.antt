-- Sets of units.
use Rattle.std.specs.Prelude.{ℕ, List, slice_index_or}
use Rattle.bit_sets.specs.Bits as bits
pub use Rattle.bit_sets.specs.Sets.{none_of_32, all_of_32}
use Rattle.bit_sets.specs.declared.set32.Set32.{Set32}

-- unit u is in the set
abbrev pub Has : Set32 → ℕ → Type 0
Has set u = bits.Has set.bits u

abbrev pub set_at : List Set32 → ℕ → Set32
set_at sets i = slice_index_or sets i none_of_32
