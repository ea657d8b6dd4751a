-- What the lines of a text say, as entries in their order.
use Rattle.std.specs.Prelude.{◌≡◌, ℕ, ◌+◌, ◌*◌, ◌%◌, ◌<◌, List, length, slice_index_or}
use Rattle.std.specs.List.{AllPairs}
use Rattle.datapath.specs.declared.types.Datapath.{Datapath}
use Rattle.placed_plan.specs.Places.{no_place, place_of}
use Rattle.placed_plan.specs.declared.place.Place.{Place}
use Rattle.place_file.specs.Given.{HasNodeLine, Gives}
use Rattle.place_file.specs.Faults.{HasBadLine}
use Rattle.place_file.specs.declared.given.Given.{Given}
use Rattle.place_file.specs.declared.fault.GivenFault.{GivenFault}
use Rattle.place_file.specs.declared.fault.GivenFault.TheVariants.{Line, Missing}
use Rattle.place_file.specs.declared.fault.LineCause.TheVariants.{Twice}
use Rattle.place_file.specs.declared.entry.Entry.{Entry}

abbrev pub nth : List ℕ → ℕ → ℕ
nth keys p = slice_index_or keys p 0

abbrev pub no_entry : Entry
no_entry = record { node = 0; place = no_place; line = 0 }

abbrev pub entry_at : List Entry → ℕ → Entry
entry_at entries k = slice_index_or entries k no_entry

module _ (d : Datapath) (text : List ℕ) where
  -- the entry is what line i says
  pub record IsEntryOf (i : ℕ) (e : Entry) : Type 0 where
    pub line : e.line ≡ i + 1
    pub gives : Gives d text i e.node e.place

  -- these are the entries of the first n lines, in their order
  pub record AreEntries (n : ℕ) (entries : List Entry) : Type 0 where
    pub each : (k : ℕ) → k < length entries → (i : ℕ) × (i < n) × IsEntryOf i (entry_at entries k)
    pub all : (i : ℕ)
        → i < n
        → HasNodeLine d text i
        → (k : ℕ) × (k < length entries) × ((entry_at entries k).line ≡ i + 1)
    pub order : AllPairs (λ (x y : Entry). x.line < y.line) entries

-- The key of an entry is its node, and then its place among the entries.
abbrev pub key_limit : ℕ
key_limit = 4294967296

-- the entry of a key
abbrev pub entry_of_key : List Entry → (key : ℕ) → Entry
entry_of_key entries key = entry_at entries (key % key_limit)

module _ (entries : List Entry) (keys : List ℕ) where
  -- key p is that of entry k
  pub record IsKeyOf (p k : ℕ) : Type 0 where
    pub there : p < length keys
    pub entry : k < length entries
    pub is : nth keys p ≡ key_limit * (entry_at entries k).node + k

  -- the keys of the entries, in order
  pub record AreKeys : Type 0 where
    pub few : length entries < key_limit
    pub each : (p : ℕ) → p < length keys → (k : ℕ) × IsKeyOf p k
    pub all : (k : ℕ) → k < length entries → (p : ℕ) × IsKeyOf p k
    pub order : (p q : ℕ) → p < q → q < length keys → nth keys p < nth keys q

  -- the entry of key v
  abbrev pub entry_by : (v : ℕ) → Entry
  entry_by v = entry_of_key entries (nth keys v)

  -- the first n keys are those of nodes from 0 on, and these are their places and lines
  pub record AreFirst (n : ℕ) (places : List Place) (lines : List ℕ) : Type 0 where
    pub place_count : length places ≡ n
    pub line_count : length lines ≡ n
    pub node : (v : ℕ) → v < n → (entry_by v).node ≡ v
    pub place : (v : ℕ) → v < n → place_of places v ≡ (entry_by v).place
    pub line : (v : ℕ) → v < n → slice_index_or lines v 0 ≡ (entry_by v).line

  abbrev pub AreGiven : Given → Type 0
  AreGiven given = AreFirst (length keys) given.places given.lines

  -- key v is the first that is not that of its node
  pub record IsFirstOther (v : ℕ) : Type 0 where
    pub there : v < length keys
    pub before : (u : ℕ) → u < v → (entry_by u).node ≡ u

  abbrev pub IsMiscounted : GivenFault → Type 0
  IsMiscounted (Missing v) = IsFirstOther v × (v < (entry_by v).node)
  IsMiscounted (Line line Twice) =
      (v : ℕ) × IsFirstOther v × ((entry_by v).node < v) × (line ≡ (entry_by v).line)
  IsMiscounted _ = ⊥

-- the first line that begins with `node` and gives no place
abbrev pub IsFirstBad : Datapath → (text : List ℕ) → GivenFault → Type 0
IsFirstBad d text (Line line cause) = HasBadLine d text line cause
IsFirstBad d text _ = ⊥
