-- What the trace of a run rests on.
use Rattle.std.specs.Prelude.{◌≡◌, ℕ, List, length, ℤ, slice_get, IsSomeAnd}
use Rattle.std.specs.List.{All, range_with_len}
use Rattle.std.specs.List.Sorted.{IsPermutation}
use Rattle.lists.specs.Rows.{Rows}
use Rattle.operations.specs.declared.units.Kind.{Kind}
use Rattle.operations.specs.Operations.{IsOperand}
use Rattle.micro_image.specs.declared.image.Image.{Image}
use Rattle.micro_image.specs.Spells.{Spells}
use Rattle.cycle_sim.specs.Machine.{Snapshot}
use Rattle.cycle_sim.specs.Microcode.{code_of, IsSound}

-- the unit is there, and of the kind
abbrev pub IsOfKind : Image → Kind → ℕ → Type 0
IsOfKind image kind unit = IsSomeAnd (slice_get image.units unit) (λ found. found.kind ≡ kind)

-- a row has a word for each of these widths, of magnitude at most 2 ^ 39
pub record IsInputRow (widths : List ℕ) (row : List ℤ) : Type 0 where
  pub count : length row ≡ length widths
  pub words : All IsOperand row

abbrev pub AreInputRows : List ℕ → Rows → Type 0
AreInputRows widths rows = All (IsInputRow widths) rows

-- the machine is one of the image that the bytes spell
pub record IsMachineOf (bytes : List ℕ) (machine : Snapshot) : Type 0 where
  pub image : Image
  pub spelled : Spells bytes image
  pub code : machine.code ≡ code_of image

-- the machine obeys sound microcode and is at this cycle, and its units are in some order
pub record IsRunAt (order : List ℕ) (machine : Snapshot) (cycle : ℕ) : Type 0 where
  pub sound : IsSound machine.code
  pub all_units : IsPermutation (range_with_len 0 (length machine.code.image.units)) order
  pub time : machine.cycle ≡ cycle
