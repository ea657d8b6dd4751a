-- Which places a text gives, in lines as `node 3 cycle 5 unit alu`.
use Rattle.std.specs.Prelude.{◌≡◌, ℕ, ◌+◌, ◌<◌, ◌^◌, List, length, slice_index, slice_index_or, codes}
use Rattle.std.specs.Str.Parse.{IsNumeral, digits_value}
use Rattle.datapath.specs.declared.types.Datapath.{Datapath}
use Rattle.microcode_asm.specs.ScheduleText.{unit_name}
use Rattle.placed_plan.specs.Places.{place_of}
use Rattle.placed_plan.specs.declared.place.Place.{Place}
use Rattle.place_file.specs.Lines.{lines_of, line_at, Said, said_by}
use Rattle.place_file.specs.declared.given.Given.{Given}

-- the word is this number below the limit, in decimal without a zero in front
pub record IsNumber (limit : ℕ) (word : List ℕ) (n : ℕ) : Type 0 where
  pub digits : IsNumeral 10 word
  pub plain : slice_index word 0 ≡ 48 → length word ≡ 1
  pub is : n ≡ digits_value 10 word
  pub below : n < limit

-- the word is the name of unit u
pub record IsUnitNamed (d : Datapath) (word : List ℕ) (u : ℕ) : Type 0 where
  pub there : u < length d.units
  pub name : unit_name d u ≡ word

-- the line begins with the word `node`
abbrev pub IsNodeLine : Said → Type 0
IsNodeLine said = said.head ≡ codes "node"

-- the line says that node v is to stand at the place: nodes are below 2^32, cycles below 2^16
pub record IsPlaceLine (d : Datapath) (said : Said) (v : ℕ) (place : Place) : Type 0 where
  pub head : IsNodeLine said
  pub node : IsNumber (2 ^ 32) said.node v
  pub cycle_label : said.cycle_label ≡ codes "cycle"
  pub cycle : IsNumber (2 ^ 16) said.cycle place.cycle
  pub unit_label : said.unit_label ≡ codes "unit"
  pub unit : IsUnitNamed d said.unit place.unit

module _ (d : Datapath) (text : List ℕ) where
  -- line i of the text, from 0 on, is there and begins with the word `node`
  pub record HasNodeLine (i : ℕ) : Type 0 where
    pub there : i < length (lines_of text)
    pub head : IsNodeLine (said_by (line_at text i))

  -- it gives node v its place
  pub record Gives (i v : ℕ) (place : Place) : Type 0 where
    pub there : i < length (lines_of text)
    pub says : IsPlaceLine d (said_by (line_at text i)) v place

  -- These places are given, and no others: each has a line, whose number is told from 1 on, and each line that begins
  -- with the word `node` is that of a place.
  pub record IsGivenBy (given : Given) : Type 0 where
    pub count : length given.lines ≡ length given.places
    pub each : (v : ℕ)
        → v < length given.places
        → (i : ℕ) × (slice_index_or given.lines v 0 ≡ i + 1) × Gives i v (place_of given.places v)
    pub only : (i : ℕ)
        → HasNodeLine i
        → (v : ℕ) × (v < length given.places) × (slice_index_or given.lines v 0 ≡ i + 1)

  -- these are the places that it gives, whatever the numbers of the lines are
  abbrev pub GivesPlaces : List Place → Type 0
  GivesPlaces places = (lines : List ℕ) × IsGivenBy (record { places = places; lines = lines })
