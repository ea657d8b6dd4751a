-- The format: the keys of each table of the file, a row a key.
use Rattle.std.specs.Prelude.{ℕ, zero, suc, List, [], ◌∷◌, codes, Bool, true, false, Option, Some, None}
use Rattle.toml.specs.Data.{Members}
use Rattle.operations.specs.declared.units.Kind.{Kind}
use Rattle.operations.specs.declared.units.Kind.TheVariants.{Ram, Acu}
pub use Rattle.operations.specs.Units.{ports}
use Rattle.datapath.specs.Values.{Judge, whole, text, name as a_name, kind as a_kind, a_table, array_of, array_within}

-- a key, what its value may be, and what stands for it where it is missing
pub record Row (A : Type 0) : Type 0 where
  pub key : List ℕ
  pub value : Judge A
  pub default : Option A

abbrev pub row : {A : Type 0} → List ℕ → Judge A → Option A → Row A
row key value default = record { key = key; value = value; default = default }

-- nothing stands for it
abbrev pub required : {A : Type 0} → Option A
required = None

-- The top table.

abbrev pub period : Row ℕ
period = row (codes "period") (whole 1 4096) required

abbrev pub word : Row ℕ
word = row (codes "word") (whole 8 40) required

abbrev pub hold : Row ℕ
hold = row (codes "hold") (whole 0 3) (Some 0)

abbrev pub unit : Row (List Members)
unit = row (codes "unit") (array_within 1 32 a_table) required

abbrev pub bus : Row (List Members)
bus = row (codes "bus") (array_within 1 32 a_table) required

-- The table of a unit. `name` is a row of a bus too; `cells` is one of a ram alone, and `ram` of an acu alone.

abbrev pub name : Row (List ℕ)
name = row (codes "name") a_name required

abbrev pub kind : Row Kind
kind = row (codes "kind") a_kind required

abbrev pub latency : Row ℕ
latency = row (codes "latency") (whole 1 8) (Some 1)

abbrev pub gap : (latency : ℕ) → Row ℕ
gap latency = row (codes "gap") (whole 1 latency) (Some 1)

-- a unit without ports needs no files
abbrev pub no_files : (ports : ℕ) → Option (List ℕ)
no_files zero = Some []
no_files (suc n) = required

-- the registers of each port's file
abbrev pub files : (ports : ℕ) → Row (List ℕ)
files ports = row (codes "files") (array_within ports ports (whole 1 256)) (no_files ports)

abbrev pub cells : Row ℕ
cells = row (codes "cells") (whole 1 65536) required

abbrev pub ram : Row (List ℕ)
ram = row (codes "ram") text required

-- The table of a bus.

abbrev pub from : Row (List (List ℕ))
from = row (codes "from") (array_of text) required

-- where so many entries may still come
abbrev pub to : (room : ℕ) → Row (List (List ℕ))
to room = row (codes "to") (array_within 0 room text) required

-- How many `to` entries all buses may have.
abbrev pub most_entries : ℕ
most_entries = 256

-- Which keys each table may have.

abbrev pub top_keys : List (List ℕ)
top_keys = codes "period" ∷ codes "word" ∷ codes "hold" ∷ codes "unit" ∷ codes "bus" ∷ []

abbrev pub bus_keys : List (List ℕ)
bus_keys = codes "name" ∷ codes "from" ∷ codes "to" ∷ []

-- those of every unit, and more
abbrev pub unit_keys_and : List (List ℕ) → List (List ℕ)
unit_keys_and more = codes "name" ∷ codes "kind" ∷ codes "latency" ∷ codes "gap" ∷ codes "files" ∷ more

-- where no kind is known, neither `cells` nor `ram` is judged
abbrev pub unit_keys : Option Kind → List (List ℕ)
unit_keys None = unit_keys_and (codes "cells" ∷ codes "ram" ∷ [])
unit_keys (Some Ram) = unit_keys_and (codes "cells" ∷ [])
unit_keys (Some Acu) = unit_keys_and (codes "ram" ∷ [])
unit_keys (Some _) = unit_keys_and []

abbrev pub is_ram : Kind → Bool
is_ram Ram = true
is_ram _ = false

abbrev pub is_acu : Kind → Bool
is_acu Acu = true
is_acu _ = false
