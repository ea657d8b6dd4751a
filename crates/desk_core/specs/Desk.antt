-- What the calls of a desk do.
use Rattle.std.specs.Prelude.{◌≡◌, ◌≢◌, ◌⊎◌, ℕ, ◌+◌, ◌-◌, ◌<◌, ◌≤◌, ◌^◌, List, [], ◌++◌, length, take, drop, Option}
use Rattle.std.specs.Prelude.{Some, None, Bool, true}
use Rattle.desk_core.specs.View.{Name, Content, Files, View}

-- the faults rose: there are more, or the count is the last value of a u64
abbrev pub Rose : ℕ → ℕ → Type 0
Rose before after = (before < after) ⊎ (after ≡ 2 ^ 64 - 1)

-- no count of faults falls
pub record FaultsNeverFall (old new : View) : Type 0 where
  pub reading : (s : Name) → old.read_faults s ≤ new.read_faults s
  pub writing : (s : Name) → old.write_faults s ≤ new.write_faults s
  pub printing : old.print_faults ≤ new.print_faults

-- the faults rose of reading this name, of writing it, and of printing
abbrev pub ReadFaultsRose : Name → View → View → Type 0
ReadFaultsRose name old new = Rose (old.read_faults name) (new.read_faults name)

abbrev pub WriteFaultsRose : Name → View → View → Type 0
WriteFaultsRose name old new = Rose (old.write_faults name) (new.write_faults name)

abbrev pub PrintFaultsRose : View → View → Type 0
PrintFaultsRose old new = Rose old.print_faults new.print_faults

-- the faults rose of reading each name that the desk reads
abbrev pub ReadFailed : View → View → Type 0
ReadFailed old new = (s : Name) → old.reads s ≡ true → ReadFaultsRose s old new

-- the faults rose of writing each name that the desk writes
abbrev pub WriteFailed : View → View → Type 0
WriteFailed old new = (s : Name) → old.writes s ≡ true → WriteFaultsRose s old new

-- where the new value is specified, so was the old one, and they are related like this
abbrev pub IfSpecified : {A : Type 0} → (A → A → Type 0) → Option A → Option A → Type 0
IfSpecified {A} R old new =
    (after : A) → new ≡ Some after → (before : A) × (old ≡ Some before) × R before after

-- where the desk specifies its files, they are so
abbrev pub WhereSpecified : View → (Files → Type 0) → Type 0
WhereSpecified desk P = (files : Files) → desk.files ≡ Some files → P files

-- the file has these bytes, and every other file is as it was
pub record IsPut (name : Name) (bytes : Content) (old new : Files) : Type 0 where
  pub here : new name ≡ Some bytes
  pub others : (s : Name) → s ≢ name → new s ≡ old s

-- the bytes of a file; a name without a file counts as a file of no bytes
abbrev pub content_of : Option Content → Content
content_of None = []
content_of (Some bytes) = bytes

-- the output is specified where the files are
abbrev pub IsOutputSpecified : View → Type 0
IsOutputSpecified desk = WhereSpecified desk (λ files. desk.output ≢ None)

-- the output is this one: it is specified where the files are, and may be no other
pub record HasOutput (output : Option Name) (desk : View) : Type 0 where
  pub only : (known : Option Name) → desk.output ≡ Some known → known ≡ output
  pub specified : WhereSpecified desk (λ files. desk.output ≡ Some output)

-- the input is the same
pub record IsSameInput (old new : View) : Type 0 where
  pub named : new.input_name ≡ old.input_name
  pub bytes : new.input_bytes ≡ old.input_bytes

-- there is no input
pub record HasNoInput (desk : View) : Type 0 where
  pub named : desk.input_name ≡ Some None
  pub bytes : desk.input_bytes ≡ Some None

-- the desk reads, or writes, no name that it did not read, or write, before
abbrev pub NoneBegins : (Name → Bool) → (Name → Bool) → Type 0
NoneBegins old new = (s : Name) → new s ≡ true → old s ≡ true

-- the desk reads, or writes, no other name that it did not read, or write, before
abbrev pub NoOtherBegins : Name → (Name → Bool) → (Name → Bool) → Type 0
NoOtherBegins name old new = (s : Name) → s ≢ name → new s ≡ true → old s ≡ true

-- all but the faults is as it was
pub record IsUnchanged (old new : View) : Type 0 where
  pub files : new.files ≡ old.files
  pub input : IsSameInput old new
  pub place : new.place ≡ old.place
  pub output : new.output ≡ old.output
  pub printed : new.printed ≡ old.printed
  pub reads : new.reads ≡ old.reads
  pub writes : new.writes ≡ old.writes

-- all but the faults is as it was, and the output at most ended
pub record IsUnchangedButOutput (old new : View) : Type 0 where
  pub files : new.files ≡ old.files
  pub input : IsSameInput old new
  pub place : new.place ≡ old.place
  pub output : (known : Option Name) → new.output ≡ Some known → (known ≡ None) ⊎ (old.output ≡ Some known)
  pub printed : new.printed ≡ old.printed
  pub reads : new.reads ≡ old.reads
  pub no_new_output : NoneBegins old.writes new.writes

-- the input is the named file, with the bytes that the file had
pub record HasInput (name : Name) (old new : View) : Type 0 where
  -- the name may be unspecified where there was no such file
  pub only : (known : Option Name) → new.input_name ≡ Some known → known ≡ Some name
  pub named : WhereSpecified old (λ files. files name ≢ None → new.input_name ≡ Some (Some name))
  pub bytes : WhereSpecified old (λ files. new.input_bytes ≡ Some (Some (content_of (files name))))
  pub opened : new.input_bytes ≢ Some None
  pub reads : new.reads name ≡ true

-- the named file is the input, at this place; all else but the faults is as it was
pub record IsReading (name : Name) (at : ℕ) (old new : View) : Type 0 where
  pub place : new.place ≡ at
  pub input : HasInput name old new
  pub no_other : NoOtherBegins name old.reads new.reads
  pub files : new.files ≡ old.files
  pub output : new.output ≡ old.output
  pub printed : new.printed ≡ old.printed
  pub writes : new.writes ≡ old.writes

-- n bytes from that place on came to the front of the buffer; 0 means the end, or a buffer without room
pub record IsTaken (bytes : Content) (place n : ℕ) (old_buf new_buf : List ℕ) : Type 0 where
  pub within : 0 < n → place + n ≤ length bytes
  pub front : take n new_buf ≡ take n (drop place bytes)
  pub rest : drop n new_buf ≡ drop n old_buf
  pub ends : n ≡ 0 → 0 < length old_buf → length bytes ≤ place

-- n bytes of the input were read; all else but the faults is as it was
pub record IsRead (n : ℕ) (old_buf new_buf : List ℕ) (old new : View) : Type 0 where
  pub room : n ≤ length old_buf
  pub place : new.place ≡ old.place + n
  pub taken : (bytes : Content) → old.input_bytes ≡ Some (Some bytes)
      → IsTaken bytes old.place n old_buf new_buf
  pub nameless : old.input_name ≡ Some None → n ≡ 0
  pub closed : old.input_bytes ≡ Some None → n ≡ 0
  pub input : IsSameInput old new
  pub files : new.files ≡ old.files
  pub output : new.output ≡ old.output
  pub printed : new.printed ≡ old.printed
  pub reads : new.reads ≡ old.reads
  pub writes : new.writes ≡ old.writes

-- The named file was made anew, is the output and has these bytes so far. All else but the faults is as it
-- was, and the file is no input any more.
pub record IsWriting (name : Name) (bytes : Content) (old new : View) : Type 0 where
  pub files : IfSpecified (IsPut name bytes) old.files new.files
  pub output : HasOutput (Some name) new
  pub input_ends : old.input_name ≡ Some (Some name) → HasNoInput new
  pub other_input : old.input_name ≢ Some (Some name) → IsSameInput old new
  pub place : new.place ≡ old.place
  pub printed : new.printed ≡ old.printed
  pub writes : new.writes name ≡ true
  pub no_other : NoOtherBegins name old.writes new.writes
  pub other_reads : (s : Name) → s ≢ name → new.reads s ≡ old.reads s
  pub no_new_input : NoneBegins old.reads new.reads

-- the output has these bytes more at its end
abbrev pub AddsTo : Option (Option Name) → Content → Files → Files → Type 0
AddsTo output bytes old new =
    (name : Name) → output ≡ Some (Some name) → IsPut name (content_of (old name) ++ bytes) old new

-- n bytes of the piece were added to the output, or dropped where there is none; all else but the faults is
-- as it was
pub record IsWritten (n : ℕ) (piece : List ℕ) (old new : View) : Type 0 where
  pub room : n ≤ length piece
  pub some : 0 < length piece → 0 < n
  pub files : IfSpecified (AddsTo old.output (take n piece)) old.files new.files
  pub dropped : old.output ≡ Some None → new.files ≡ old.files
  pub output : new.output ≡ old.output
  pub input : IsSameInput old new
  pub place : new.place ≡ old.place
  pub printed : new.printed ≡ old.printed
  pub reads : new.reads ≡ old.reads
  pub writes : new.writes ≡ old.writes

-- the output ended; all else but the faults is as it was
pub record IsClosed (old new : View) : Type 0 where
  pub output : HasOutput None new
  pub no_new_output : NoneBegins old.writes new.writes
  pub files : new.files ≡ old.files
  pub input : IsSameInput old new
  pub place : new.place ≡ old.place
  pub printed : new.printed ≡ old.printed
  pub reads : new.reads ≡ old.reads

-- n bytes of the piece were printed; all else but the faults is as it was
pub record IsPrinted (n : ℕ) (piece : List ℕ) (old new : View) : Type 0 where
  pub room : n ≤ length piece
  pub some : 0 < length piece → 0 < n
  pub printed : IfSpecified (λ before after. after ≡ before ++ take n piece) old.printed new.printed
  pub files : new.files ≡ old.files
  pub input : IsSameInput old new
  pub place : new.place ≡ old.place
  pub output : new.output ≡ old.output
  pub reads : new.reads ≡ old.reads
  pub writes : new.writes ≡ old.writes
