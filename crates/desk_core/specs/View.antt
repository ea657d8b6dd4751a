-- What a desk means: its files, its input and output, what it printed, and its counts of faults.
use Rattle.std.specs.Prelude.{ℕ, List, Option, Bool}

abbrev pub Name : Type 0
Name = List ℕ

abbrev pub Content : Type 0
Content = List ℕ

-- the bytes of each file, by its name
abbrev pub Files : Type 0
Files = Name → Option Content

-- A desk may leave parts unspecified: these are an `Option`, which is `None` where the part is unspecified.
pub record View : Type 0 where
  pub files : Option Files
  -- how far the current input was read, or the last one where there is none
  pub place : ℕ
  -- the current input, or `Some None` where there is none
  pub input_name : Option (Option Name)
  pub input_bytes : Option (Option Content)
  -- the name of the current output, or `Some None` where there is none
  pub output : Option (Option Name)
  pub printed : Option Content
  -- which names the desk reads and writes at present
  pub reads : Name → Bool
  pub writes : Name → Bool
  -- how many faults of reading and of writing each name there were, and how many of printing
  pub read_faults : Name → ℕ
  pub write_faults : Name → ℕ
  pub print_faults : ℕ
