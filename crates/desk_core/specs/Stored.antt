-- Files in memory, as a list in which the first of a name counts.
use Rattle.std.specs.Prelude.{◌≡◌, ◌≢◌, ℕ, zero, suc, ◌<◌, ◌≤◌, List, [], ◌∷◌, ◌++◌, length, take, Option, Some, None}
use Rattle.std.specs.Prelude.{nat_eq, bytes_eq, if◌then◌else◌}
use Rattle.desk_core.specs.View.{Name, Content}
use Rattle.desk_core.specs.Desk.{IsPut, content_of}
use Rattle.desk_core.specs.declared.stored.OpenInput.{OpenInput}
use Rattle.desk_core.specs.declared.stored.Stored.{Stored}

-- the bytes of the first file of that name
abbrev pub lookup : List Stored → Name → Option Content
lookup [] s = None
lookup (file ∷ files) s = if bytes_eq file.name s then Some file.bytes else lookup files s

-- the name of the file at that position
abbrev pub name_at : List Stored → ℕ → Name
name_at [] i = []
name_at (file ∷ files) zero = file.name
name_at (file ∷ files) (suc i) = name_at files i

-- the bytes of the file at that position
abbrev pub bytes_at : List Stored → ℕ → Content
bytes_at [] i = []
bytes_at (file ∷ files) zero = file.bytes
bytes_at (file ∷ files) (suc i) = bytes_at files i

-- the file at that position has the name, and is the first that has it
pub record IsFound (files : List Stored) (s : Name) (i : ℕ) : Type 0 where
  pub inside : i < length files
  pub named : name_at files i ≡ s
  pub first : (k : ℕ) → k < i → name_at files k ≢ s

-- the file at that position is the first of its name
abbrev pub IsFirst : List Stored → ℕ → Type 0
IsFirst files i = IsFound files (name_at files i) i

-- the input is the first file of its name, and the bytes that it had when it was opened are there
pub record IsOpen (files : List Stored) (input : OpenInput) : Type 0 where
  pub first : IsFirst files input.file
  pub within : input.len ≤ length (bytes_at files input.file)

-- the name and the bytes of the input
abbrev pub input_name : List Stored → Option OpenInput → Option Name
input_name files None = None
input_name files (Some input) = Some (name_at files input.file)

abbrev pub input_bytes : List Stored → Option OpenInput → Option Content
input_bytes files None = None
input_bytes files (Some input) = Some (take input.len (bytes_at files input.file))

-- the input, unless it is the file at that position
abbrev pub other_than : Option OpenInput → ℕ → Option OpenInput
other_than None file = None
other_than (Some input) file = if nat_eq input.file file then None else Some input

-- the name of the output
abbrev pub output_name : List Stored → Option ℕ → Option Name
output_name files None = None
output_name files (Some output) = Some (name_at files output)

-- each file is at its position, with its name; of another name it has its bytes too
pub record KeepsPositions (name : Name) (old new : List Stored) : Type 0 where
  pub longer : length old ≤ length new
  pub names : (k : ℕ) → k < length old → name_at new k ≡ name_at old k
  pub others : (k : ℕ) → k < length old → name_at old k ≢ name → bytes_at new k ≡ bytes_at old k

-- the file at that position got the piece at its end, and each other file is as it was
pub record IsAppended (old new : List Stored) (file : ℕ) (piece : Content) : Type 0 where
  pub same_length : length new ≡ length old
  pub names : (k : ℕ) → name_at new k ≡ name_at old k
  pub put : IsPut (name_at old file) (content_of (lookup old (name_at old file)) ++ piece)
      (lookup old) (lookup new)
  pub prefixes : (k : ℕ) (n : ℕ)
      → n ≤ length (bytes_at old k)
      → (n ≤ length (bytes_at new k)) × (take n (bytes_at new k) ≡ take n (bytes_at old k))
