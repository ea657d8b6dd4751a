-- Frames: several samples of a program in one sample of a machine, and their words in one row.
use Rattle.std.specs.Prelude.{ℕ, ◌+◌, ◌*◌, ◌/◌, ◌==◌, nat_lt, ◌&&◌, Bool, if◌then◌else◌, List, [], map, length, ℤ, pos}
use Rattle.std.specs.Prelude.{slice_index_or}
use Rattle.std.specs.List.{list_any, flat_map, sum_by, range_with_len}
use Rattle.std.specs.List.Sorted.{IsStrictlyIncreasing}
use Rattle.lists.specs.Rows.{Rows}
use Rattle.fix_word.specs.declared.types.SigType.{SigType}
use Rattle.fix_word.specs.declared.types.SigType.TheVariants as sig
use Rattle.signal_graph.specs.Rules.{IsWithin}

-- The rates of a program and its machine. A frame has as many samples of the program as there are phases. Most words
-- have one value for each phase; slow ones have one a frame: the output words of `down` and the input words of `up`.
pub record Rates : Type 0 where
  pub phases : ℕ
  pub down : List ℕ
  pub up : List ℕ

abbrev pub rates : (phases : ℕ) → (down up : List ℕ) → Rates
rates phases down up = record { phases = phases; down = down; up = up }

pub record AreRates (r : Rates) : Type 0 where
  pub phases : IsWithin 1 8 r.phases
  pub down : IsStrictlyIncreasing r.down
  pub up : IsStrictlyIncreasing r.up

abbrev pub is_slow : (slow : List ℕ) → (i : ℕ) → Bool
is_slow slow i = list_any (λ (j : ℕ). j == i) slow

-- how many places word i has in a frame row
abbrev pub places_of : (m : ℕ) → (slow : List ℕ) → (i : ℕ) → ℕ
places_of m slow i = if is_slow slow i then 1 else m

-- the first place of word i, behind those of the words before it
abbrev pub place : (m : ℕ) → (slow : List ℕ) → (i : ℕ) → ℕ
place m slow i = sum_by (places_of m slow) (range_with_len 0 i)

-- what belongs to the places of a frame row of so many words: the words in order, each with its phases in turn
abbrev pub frame : {A : Type 0} → (m : ℕ) → (slow : List ℕ) → (count : ℕ) → (at : (i j : ℕ) → A) → List A
frame m slow count at =
    flat_map (λ (i : ℕ). map (at i) (range_with_len 0 (places_of m slow i))) (range_with_len 0 count)

-- the types of the words of a frame row, where those of the program's words are these
abbrev pub frame_types : (m : ℕ) → (slow : List ℕ) → List SigType → List SigType
frame_types m slow types = frame m slow (length types) (λ i j. slice_index_or types i sig.Bool)

-- word i of the program at phase j, out of a frame row. A slow word arrives at phase 0, and is 0 at the others.
abbrev pub fast_word : Rates → (row : List ℤ) → (i j : ℕ) → ℤ
fast_word r row i j =
    if is_slow r.up i && nat_lt 0 j then pos 0 else slice_index_or row (place r.phases r.up i + j) (pos 0)

-- the program's row at phase j, of so many words
abbrev pub fast_row : Rates → (count : ℕ) → (row : List ℤ) → (j : ℕ) → List ℤ
fast_row r count row j = map (λ i. fast_word r row i j) (range_with_len 0 count)

-- the program's rows: the phases of the frames, one after another
abbrev pub fast : Rates → (count : ℕ) → (frames : Rows) → Rows
fast r count frames =
    flat_map (λ (row : List ℤ). map (fast_row r count row) (range_with_len 0 r.phases)) frames

-- word i of row n
abbrev pub word_of : Rows → (n i : ℕ) → ℤ
word_of rows n i = slice_index_or (slice_index_or rows n []) i (pos 0)

-- the frame row of frame n, out of the program's output rows, which have so many words
abbrev pub frame_row : Rates → (count : ℕ) → Rows → (n : ℕ) → List ℤ
frame_row r count rows n = frame r.phases r.down count (λ i j. word_of rows (n * r.phases + j) i)

-- the frame rows, one for as many of the program's output rows as there are phases
abbrev pub frame_out : Rates → (count : ℕ) → Rows → Rows
frame_out r count rows = map (frame_row r count rows) (range_with_len 0 (length rows / r.phases))
