-- The row that a processor takes, by the rows that the others keep.
use Rattle.std.specs.Prelude.{◌≡◌, ℕ, ◌+◌, ◌*◌, ◌%◌, ◌<◌, ◌≤◌, List, length, map, Option, Some, None, ℤ, pos, slice_get}
use Rattle.std.specs.Prelude.{IsSomeAnd}
use Rattle.micro_image.specs.Fields.{nth}
use Rattle.net_core.specs.declared.types.Wire.{Wire}
use Rattle.net_core.specs.declared.types.Wire.TheVariants.{Input, From}
use Rattle.net_turns.specs.Turns.{NetShape, Point}
use Rattle.proc_net.specs.declared.processor.Processor.{Processor}
use Rattle.net_solution.specs.declared.row_list.RowList.{RowList}
use Rattle.net_solution.specs.RowLists.{row_in}

-- where processors are
abbrev pub point_at : Processor → Point
point_at processor = record { taken = processor.taken; ran = processor.ran; cycle = processor.cycle }

abbrev pub points_by : List Processor → List Point
points_by processors = map point_at processors

-- what their turns depend on
abbrev pub shape_by : List Processor → (capacity samples : ℕ) → NetShape
shape_by processors capacity samples = record {
  feeds = map (λ processor. processor.feed) processors;
  periods = map (λ processor. processor.period) processors;
  capacity = capacity;
  samples = samples;
}

-- word j of row n that a processor has put
abbrev pub word_of : Option Processor → (n j : ℕ) → ℤ
word_of (Some from) n j = nth (row_in from.put (n % from.places)) j (pos 0)
word_of None n j = pos 0

-- the word that a wire brings in sample n
abbrev pub word_by : List Processor → RowList → (n : ℕ) → Wire → ℤ
word_by processors stream n (Input j) = nth (row_in stream n) j (pos 0)
word_by processors stream n (From q j) = word_of (slice_get processors q) n j

-- so many whole rows
pub record HasRoom (list : RowList) (places : ℕ) : Type 0 where
  pub some : 0 < places
  pub words : length list.words ≡ places * list.width

-- the word is there
abbrev pub IsReadable : List Processor → RowList → (n : ℕ) → Wire → Type 0
IsReadable processors stream n (Input j) = ((n + 1) * stream.width ≤ length stream.words) × (j < stream.width)
IsReadable processors stream n (From q j) =
    IsSomeAnd (slice_get processors q) (λ from. HasRoom from.put from.places × (j < from.put.width))
