-- The rows that the processors of a net put: those of the run of each image over the rows that its wires bring.
use Rattle.std.specs.Prelude.{◌≡◌, ℕ, ◌<◌, ◌^◌, List, [], length, map, ℤ, pos}
use Rattle.std.specs.List.{All, AllZip, range_with_len}
use Rattle.lists.specs.Rows.{Rows}
use Rattle.micro_image.specs.declared.image.Image.{Image}
use Rattle.micro_image.specs.Fields.{Microprogram, nth, microprogram_of}
use Rattle.micro_image.specs.Run.{IsRunOut}
use Rattle.micro_image.specs.Valid.{IsValid, IsWithin}
use Rattle.net_core.specs.declared.types.NetFile.{NetFile}
use Rattle.net_core.specs.declared.types.Wire.{Wire}
use Rattle.net_core.specs.declared.types.Wire.TheVariants.{Input, From}
use Rattle.net_turns.specs.Turns.{NetShape}
use Rattle.net_solution.specs.declared.row_list.RowList.{RowList}
use Rattle.net_solution.specs.RowLists.{rows_of}
use Rattle.sample_io.specs.Channels.{channel_of, IsInChannel, IsStream}

-- what a net is given: the image of each processor, the wires to it, how many rows a queue holds, and the net's rows
pub record Parts : Type 0 where
  pub images : List Image
  pub feeds : List (List Wire)
  pub capacity : ℕ
  pub stream : Rows

-- the parts of a net that a file describes, with these images and these rows
abbrev pub parts_given : List Image → NetFile → RowList → Parts
parts_given images net rows = record {
  images = images;
  feeds = map (λ proc. proc.feed) net.procs;
  capacity = net.capacity;
  stream = rows_of rows;
}

-- what stands in the place of an image that is not there
abbrev pub no_image : Image
no_image = record { period = 1; unroll = 1; inputs = []; outs = 0; units = []; buses = 0; words = [] }

abbrev pub image_of : Parts → ℕ → Image
image_of parts p = nth parts.images p no_image

abbrev pub program_of : Parts → ℕ → Microprogram
program_of parts p = microprogram_of (image_of parts p)

-- the wires to processor p
abbrev pub feed_to : Parts → ℕ → List Wire
feed_to parts p = nth parts.feeds p []

-- what the turns of the net depend on
abbrev pub shape_of : Parts → NetShape
shape_of parts = record {
  feeds = parts.feeds;
  periods = map (λ image. image.period) parts.images;
  capacity = parts.capacity;
  samples = length parts.stream;
}

-- the word that a wire brings in sample n, where the processors put these rows
abbrev pub word_on : Parts → List Rows → (n : ℕ) → Wire → ℤ
word_on parts puts n (Input j) = nth (nth parts.stream n []) j (pos 0)
word_on parts puts n (From q j) = nth (nth (nth puts q []) n []) j (pos 0)

-- the row that processor p reads in sample n
abbrev pub row_to : Parts → List Rows → (p n : ℕ) → List ℤ
row_to parts puts p n = map (word_on parts puts n) (feed_to parts p)

-- all rows that it reads
abbrev pub fed : Parts → List Rows → ℕ → Rows
fed parts puts p = map (row_to parts puts p) (range_with_len 0 (length parts.stream))

-- each processor puts the rows of its image's run over the rows that it reads
pub record IsNetSolution (parts : Parts) (puts : List Rows) : Type 0 where
  pub count : length puts ≡ length parts.images
  pub runs : (p : ℕ)
      → p < length parts.images
      → IsRunOut (program_of parts p) (fed parts puts p) (nth puts p [])

-- What is asked of the parts.

-- rows whose words are in the ranges of the image's input words
abbrev pub IsStreamFor : Image → Rows → Type 0
IsStreamFor image stream = IsStream (map channel_of image.inputs) stream

-- the image runs each such stream without a conflict
abbrev pub RunsAll : Image → Type 0
RunsAll image =
    (stream : Rows) → IsStreamFor image stream → (rows : Rows) × IsRunOut (microprogram_of image) stream rows

-- the word of each row is in the range of an input word
abbrev pub IsInRange : (width j : ℕ) → Rows → Type 0
IsInRange width j rows = All (λ row. IsInChannel (channel_of width) (nth row j (pos 0))) rows

-- a wire to an input word of processor p: it brings a word that is there, and is in the word's range in every run
abbrev pub Fits : Parts → ℕ → Wire → (width : ℕ) → Type 0
Fits parts p (Input j) width = All (λ row. j < length row) parts.stream × IsInRange width j parts.stream
Fits parts p (From q j) width =
    (q < p) × (j < (image_of parts q).outs)
    × ((stream rows : Rows) → IsStreamFor (image_of parts q) stream
    → IsRunOut (program_of parts q) stream rows
    → IsInRange width j rows)

-- processor p has one wire for each input word
pub record IsPart (parts : Parts) (p : ℕ) : Type 0 where
  pub valid : IsValid (image_of parts p)
  pub runs : RunsAll (image_of parts p)
  pub wires : AllZip (Fits parts p) (feed_to parts p) (image_of parts p).inputs

-- parts that make a net
pub record AreParts (parts : Parts) : Type 0 where
  pub count : IsWithin 1 8 (length parts.images)
  pub feeds : length parts.feeds ≡ length parts.images
  pub capacity : IsWithin 1 64 parts.capacity
  pub samples : length parts.stream < 2 ^ 47
  pub each : (p : ℕ) → p < length parts.images → IsPart parts p
