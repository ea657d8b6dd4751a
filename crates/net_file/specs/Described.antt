-- Which net a file describes: each field is what the file has at its key, or the key's default.
use Rattle.std.specs.Prelude.{IsUtf8, true, ◌≡◌, ℕ, ◌+◌, ◌≤◌, ◌^◌, List, [], ◌∷◌, length, Some}
use Rattle.std.specs.Str.{is_utf8}
use Rattle.toml.specs.Data.{Members}
use Rattle.toml.specs.Parse.{parse_document}
use Rattle.toml_rows.specs.Rows.{IsValue, HasOnly}
use Rattle.net_core.specs.declared.types.NetFile.{NetFile}
use Rattle.net_core.specs.declared.types.NetProc.{NetProc}
use Rattle.net_file.specs.Table as row
use Rattle.net_file.specs.Table.{top_keys, proc_keys}

-- the table describes processor p of a net whose row has so many words
pub record IsProcIn (inputs p : ℕ) (t : Members) (proc : NetProc) : Type 0 where
  pub keys : HasOnly proc_keys t
  pub src : IsValue row.src t proc.src
  pub dp : IsValue row.dp t proc.dp
  pub feed : IsValue (row.feed inputs p) t proc.feed

-- the tables describe the processors, a table each, from number p on
abbrev pub AreProcsIn : (inputs p : ℕ) → List Members → List NetProc → Type 0
AreProcsIn inputs p [] [] = Unit {0}
AreProcsIn inputs p (t ∷ ts) (proc ∷ procs) = IsProcIn inputs p t proc × AreProcsIn inputs (p + 1) ts procs
AreProcsIn inputs p _ _ = ⊥

-- the top table describes the net
pub record IsNetIn (t : Members) (net : NetFile) : Type 0 where
  pub keys : HasOnly top_keys t
  pub inputs : IsValue row.inputs t net.inputs
  pub capacity : IsValue row.capacity t net.capacity
  pub proc : List Members
  pub proc_is : IsValue row.proc t proc
  pub procs : AreProcsIn net.inputs 0 proc net.procs

-- the bytes are a file of the net
pub record IsNetOf (bytes : List ℕ) (net : NetFile) : Type 0 where
  pub short : length bytes ≤ 2 ^ 20
  pub text : is_utf8 bytes ≡ true
  pub table : Members
  pub toml : parse_document bytes ≡ Some table
  pub net_in : IsNetIn table net

-- the names of its files are texts, as the strings of a file of TOML are
abbrev pub HasTexts : NetProc → Type 0
HasTexts proc = IsUtf8 proc.src × IsUtf8 proc.dp
