-- What a desk in memory holds, and what its calls do besides what they do to any desk.
use Rattle.std.specs.Prelude.{◌≡◌, ◌≢◌, ◌⊎◌, ◌↔◌, ℕ, ◌+◌, ◌-◌, ◌<◌, ◌^◌, min, List, [], ◌∷◌, ◌++◌, Option, Some, None}
use Rattle.std.specs.Prelude.{Bool, false, bytes_eq, Contains, Result, IsErr, OnOk, OnErr}
use Rattle.desk_core.specs.View.{Name, Content, Files, View}
use Rattle.desk_core.specs.Desk.{IsPut, IsOutputSpecified}
use Rattle.desk_core.specs.Stored.{lookup, input_name, input_bytes, output_name}
use Rattle.desk_core.specs.declared.desk.Failed.{Failed}
use Rattle.desk_core.specs.declared.memory.MemDesk.{MemDesk}

pub record MemState : Type 0 where
  -- how many bytes one call moves at most
  pub piece : ℕ
  pub files : Files
  pub place : ℕ
  -- the current input, which has the bytes of its file as it was opened
  pub input_name : Option Name
  pub input_bytes : Option Content
  pub output : Option Name
  pub printed : Content
  -- how many trait calls other than `complain` were made, up to the last value of a u64
  pub calls : ℕ
  -- the numbers of those calls that are to fail
  pub fails : List ℕ
  pub faults : ℕ
  -- how many allocations failed
  pub wants : ℕ

abbrev pub state : MemDesk → MemState
state desk = record {
  piece = desk.piece;
  files = lookup desk.files;
  place = desk.place;
  input_name = input_name desk.files desk.input;
  input_bytes = input_bytes desk.files desk.input;
  output = output_name desk.files desk.output;
  printed = desk.printed;
  calls = desk.calls;
  fails = desk.fails;
  faults = desk.faults;
  wants = desk.wants;
}

-- the name is this one
abbrev pub is_named : Option Name → Name → Bool
is_named None s = false
is_named (Some name) s = bytes_eq name s

-- All is specified. The desk reads its input's name and writes its output's. One counter is all counts of faults.
abbrev pub view_of_state : MemState → View
view_of_state desk = record {
  files = Some desk.files;
  place = desk.place;
  input_name = Some desk.input_name;
  input_bytes = Some desk.input_bytes;
  output = Some desk.output;
  printed = Some desk.printed;
  reads = is_named desk.input_name;
  writes = is_named desk.output;
  read_faults = λ s. desk.faults;
  write_faults = λ s. desk.faults;
  print_faults = desk.faults;
}

abbrev pub view_of : MemDesk → View
view_of desk = view_of_state (state desk)

-- the bytes of a file
abbrev pub file_of : MemDesk → Name → Option Content
file_of desk name = (state desk).files name

-- a desk that holds nothing
abbrev pub empty_state : ℕ → MemState
empty_state piece = record {
  piece = piece;
  files = λ s. None;
  place = 0;
  input_name = None;
  input_bytes = None;
  output = None;
  printed = [];
  calls = 0;
  fails = [];
  faults = 0;
  wants = 0;
}

-- one more call is to fail
abbrev pub failing_at : MemState → ℕ → MemState
failing_at desk call = record desk { fails = desk.fails ++ call ∷ [] }

-- the input is the same
pub record KeepsInput (old new : MemState) : Type 0 where
  pub named : new.input_name ≡ old.input_name
  pub bytes : new.input_bytes ≡ old.input_bytes

-- there is no input
pub record LacksInput (desk : MemState) : Type 0 where
  pub named : desk.input_name ≡ None
  pub bytes : desk.input_bytes ≡ None

-- The file has these bytes. It is no input any more; another input, and all else, is as it was.
pub record HasPut (name : Name) (bytes : Content) (old new : MemState) : Type 0 where
  pub files : IsPut name bytes old.files new.files
  pub input_ends : old.input_name ≡ Some name → LacksInput new
  pub other_input : old.input_name ≢ Some name → KeepsInput old new
  pub piece : new.piece ≡ old.piece
  pub place : new.place ≡ old.place
  pub output : new.output ≡ old.output
  pub printed : new.printed ≡ old.printed
  pub calls : new.calls ≡ old.calls
  pub fails : new.fails ≡ old.fails
  pub faults : new.faults ≡ old.faults
  pub wants : new.wants ≡ old.wants

-- the next trait call is one that is to fail
abbrev pub IsDue : MemState → Type 0
IsDue desk = Contains desk.fails desk.calls

-- While a u64 counts the trait calls, the call fails exactly where it is to fail or for this reason.
abbrev pub FailsExactly : {T : Type 0} → MemState → Result T Failed → Type 0 → Type 0
FailsExactly old result reason = old.calls < 2 ^ 64 - 1 → (IsErr result ↔ (IsDue old ⊎ reason))

-- an allocation failed
abbrev pub WantsRose : MemState → MemState → Type 0
WantsRose old new = old.wants < new.wants

-- one more, up to the last value of a u64
abbrev pub counted : ℕ → ℕ
counted n = min (n + 1) (2 ^ 64 - 1)

-- One more trait call was made. Where it failed there is one more fault. No allocation failed.
pub record IsCounted {T : Type 0} (result : Result T Failed) (old new : MemState) : Type 0 where
  pub calls : new.calls ≡ counted old.calls
  pub fails : new.fails ≡ old.fails
  pub piece : new.piece ≡ old.piece
  pub no_fault : OnOk result (new.faults ≡ old.faults)
  pub fault : OnErr result (new.faults ≡ counted old.faults)
  pub wants : new.wants ≡ old.wants

-- One more trait call was made. Where it failed there is one more fault, and perhaps one more failed allocation.
pub record IsGrowthCounted {T : Type 0} (result : Result T Failed) (old new : MemState) : Type 0 where
  pub calls : new.calls ≡ counted old.calls
  pub fails : new.fails ≡ old.fails
  pub piece : new.piece ≡ old.piece
  pub no_fault : OnOk result (new.faults ≡ old.faults)
  pub fault : OnErr result (new.faults ≡ counted old.faults)
  pub no_want : OnOk result (new.wants ≡ old.wants)
  pub want : OnErr result ((new.wants ≡ old.wants) ⊎ (new.wants ≡ counted old.wants))

pub output_always_specified : (desk : MemDesk) → IsOutputSpecified (view_of desk)
output_always_specified desk files is unspecified = cc
