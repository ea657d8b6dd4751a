-- The words of a line, as they are read.
use Rattle.std.specs.Prelude.{◌≡◌, ◌≢◌, ℕ, ◌^◌, List, [], length, slice_index, codes, Option, Some, None}
use denote.Ref.{Bor}
use Rattle.datapath.specs.declared.types.Datapath.{Datapath}
use Rattle.microcode_asm.specs.OperationText.{line_feed, blank}
use Rattle.placed_plan.specs.declared.place.Place.{Place}
use Rattle.place_file.specs.Lines.{parts_of, Said}
use Rattle.place_file.specs.Given.{IsNumber, IsUnitNamed, IsNodeLine, IsPlaceLine}
use Rattle.place_file.specs.Faults.{IsBadLine}
use Rattle.place_file.specs.declared.line.Words.{Words}
use Rattle.place_file.specs.declared.entry.Entry.{Entry}
use Rattle.place_file.specs.declared.fault.GivenFault.{GivenFault}
use Rattle.place_file.specs.declared.fault.GivenFault.TheVariants.{Line}

-- what is left of the words of a line
abbrev pub words_left : Option (Bor (List ℕ)) → List (List ℕ)
words_left None = []
words_left (Some line) = parts_of blank line.now

-- what is left of the lines of a text
abbrev pub lines_left : Option (Bor (List ℕ)) → List (List ℕ)
lines_left None = []
lines_left (Some text) = parts_of line_feed text.now

-- the words that were read
abbrev pub said_of : Words → Said
said_of words = record {
  head = words.head.now;
  node = words.node.now;
  cycle_label = words.cycle_label.now;
  cycle = words.cycle.now;
  unit_label = words.unit_label.now;
  unit = words.unit.now;
}

-- the word has no sign in front, and no zero before other digits
pub record IsPlain (word : List ℕ) : Type 0 where
  pub unsigned : slice_index word 0 ≢ 43
  pub plain : slice_index word 0 ≡ 48 → length word ≡ 1

-- the words behind the number of the node say the place
pub record IsSaidPlace (d : Datapath) (said : Said) (place : Place) : Type 0 where
  pub cycle_label : said.cycle_label ≡ codes "cycle"
  pub cycle : IsNumber (2 ^ 16) said.cycle place.cycle
  pub unit_label : said.unit_label ≡ codes "unit"
  pub unit : IsUnitNamed d said.unit place.unit

module _ (d : Datapath) (said : Said) (number : ℕ) where
  -- what a line of this number says, if it begins with `node`
  abbrev pub IsReadAs : Option Entry → Type 0
  IsReadAs None = IsNodeLine said → ⊥
  IsReadAs (Some e) = (e.line ≡ number) × IsPlaceLine d said e.node e.place

  -- why it says nothing
  abbrev pub IsUnread : GivenFault → Type 0
  IsUnread (Line line cause) = (line ≡ number) × IsNodeLine said × IsBadLine d said cause
  IsUnread _ = ⊥
