-- The format: the keys of each table of the file, a row a key.
use Rattle.std.specs.Prelude.{ℕ, List, [], ◌∷◌, codes, Some, Ok, Err}
use Rattle.std.specs.Option.{ok_or}
use Rattle.toml.specs.Data.{Members, string}
use Rattle.toml_rows.specs.declared.misfit.Misfit.TheVariants.{WrongKind, Range}
use Rattle.toml_rows.specs.Values.{Judge, whole, a_table, array_within}
use Rattle.toml_rows.specs.Rows.{Row, row, required}
use Rattle.net_core.specs.Allowed.{most_words}
use Rattle.net_core.specs.declared.types.Wire.{Wire}
use Rattle.net_file.specs.Spelling.{wire_spelled}

-- a text that isn't empty: the name of a file
abbrev pub file_name : Judge (List ℕ)
file_name (string []) = Err Range
file_name (string s) = Ok s
file_name _ = Err WrongKind

-- a text that is a wire to processor p, in a net whose row has so many words
abbrev pub wire : (inputs p : ℕ) → Judge Wire
wire inputs p (string s) = ok_or (wire_spelled inputs p s) Range
wire inputs p _ = Err WrongKind

-- The top table.

abbrev pub inputs : Row ℕ
inputs = row (codes "inputs") (whole 1 most_words) required

abbrev pub capacity : Row ℕ
capacity = row (codes "capacity") (whole 1 64) (Some 1)

abbrev pub proc : Row (List Members)
proc = row (codes "proc") (array_within 1 8 a_table) required

-- The table of processor p, in a net whose row has so many words.

abbrev pub src : Row (List ℕ)
src = row (codes "src") file_name required

abbrev pub dp : Row (List ℕ)
dp = row (codes "dp") file_name required

abbrev pub feed : (inputs p : ℕ) → Row (List Wire)
feed inputs p = row (codes "feed") (array_within 1 most_words (wire inputs p)) required

-- Which keys each table may have.

abbrev pub top_keys : List (List ℕ)
top_keys = codes "inputs" ∷ codes "capacity" ∷ codes "proc" ∷ []

abbrev pub proc_keys : List (List ℕ)
proc_keys = codes "src" ∷ codes "dp" ∷ codes "feed" ∷ []
