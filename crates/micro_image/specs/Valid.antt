-- A valid image: each field is allowed, one fact for each row of a microcode file's table.
use Rattle.std.specs.Prelude.{◌≡◌, ◌≢◌, ℕ, ◌*◌, ◌<◌, ◌≤◌, ◌⊎◌, List, [], length, ℤ, pos, map, slice_get, IsSomeAnd}
use Rattle.std.specs.List.{All, AllAdjacentBelow}
use Rattle.std.specs.List.Sorted.{IsStrictlyIncreasing}
use Rattle.fix_word.specs.Words.{IsMachineWord}
use Rattle.fix_word.specs.declared.types.Format.{Format}
use Rattle.fix_word.specs.declared.operation.Op.{Op}
use Rattle.operations.specs.declared.units.Kind.TheVariants as kind
use Rattle.operations.specs.declared.units.PortRef.{PortRef}
pub use Rattle.operations.specs.Ranges.{IsWithin, IsBelow}
pub use Rattle.operations.specs.Units.{ports}
pub use Rattle.operations.specs.Operations.{IsNoFormat, IsFormatWhere}
use Rattle.micro_image.specs.declared.image.Enable.{Enable}
use Rattle.micro_image.specs.declared.image.Image.{Image}
use Rattle.micro_image.specs.declared.image.Issue.{Issue}
use Rattle.micro_image.specs.declared.image.Take.{Take}
use Rattle.micro_image.specs.declared.image.UnitDesc.{UnitDesc}
use Rattle.micro_image.specs.declared.image.Word.{Word}
use Rattle.micro_image.specs.Fields.{nth}
use Rattle.micro_image.specs.Operations.{Argument, nothing, input_word, output_word, raw_word, offset, operation}
use Rattle.micro_image.specs.Operations.{kind_of, reads, is_formatted}

-- the format of an issue: the formatted operations have one
abbrev pub IsFormatFor : Op → Format → Type 0
IsFormatFor op = IsFormatWhere (is_formatted op)

-- one more than the greatest offset of an address
abbrev pub offsets : ℕ
offsets = 65536

-- an argument of the kind, where there are so many input and output words
abbrev pub IsArgumentOf : Argument → (inputs outs : ℕ) → ℤ → Type 0
IsArgumentOf nothing inputs outs argument = argument ≡ pos 0
IsArgumentOf input_word inputs outs argument = IsBelow inputs argument
IsArgumentOf output_word inputs outs argument = IsBelow outs argument
IsArgumentOf raw_word inputs outs argument = IsMachineWord argument
IsArgumentOf offset inputs outs argument = IsBelow offsets argument

abbrev pub IsArgument : Op → (inputs outs : ℕ) → ℤ → Type 0
IsArgument o = IsArgumentOf (operation o).argument

-- a register file: 1 to 256 raw words
pub record IsFile (file : List ℤ) : Type 0 where
  pub size : IsWithin 1 256 (length file)
  pub words : All IsMachineWord file

-- a unit among the units: an operation takes 1 to 8 cycles, the next may begin after 1 to as many, each port has its
-- register file, only a ram has cells, and only an acu names a ram
pub record IsUnit (units : List UnitDesc) (unit : UnitDesc) : Type 0 where
  pub latency : IsWithin 1 8 unit.latency
  pub gap : IsWithin 1 unit.latency unit.gap
  pub file_count : length unit.files ≡ ports unit.kind
  pub files : All IsFile unit.files
  pub cells : All IsMachineWord unit.cells
  pub cell_count : unit.kind ≡ kind.Ram → IsWithin 1 65536 (length unit.cells)
  pub no_cells : unit.kind ≢ kind.Ram → unit.cells ≡ []
  pub ram : unit.kind ≡ kind.Acu → IsSomeAnd (slice_get units unit.ram) (λ other. other.kind ≡ kind.Ram)
  pub no_ram : unit.kind ≢ kind.Acu → unit.ram ≡ 0

-- a register for each port of the unit: one of its file, and 0 where the operation doesn't read the port
pub record AreRegisters (files : List (List ℤ)) (read : ℕ) (regs : List ℕ) : Type 0 where
  pub count : length regs ≡ length files
  pub there : (port : ℕ) → port < length files → nth regs port 0 < length (nth files port [])
  pub unread : (port : ℕ) → read ≤ port → port < length files → nth regs port 0 ≡ 0

-- an issue that the unit can do, where there are so many input and output words
pub record IsIssueOn (inputs outs : ℕ) (issue : Issue) (unit : UnitDesc) : Type 0 where
  pub does : kind_of issue.op ≡ unit.kind
  pub fmt : IsFormatFor issue.op issue.fmt
  pub arg : IsArgument issue.op inputs outs issue.arg
  pub regs : AreRegisters unit.files (reads issue.op) issue.regs

-- the issue's unit is there and can do it
abbrev pub IsIssue : Image → Issue → Type 0
IsIssue image issue = IsSomeAnd (slice_get image.units issue.unit) (IsIssueOn (length image.inputs) image.outs issue)

-- the unit and the bus are there
pub record IsEnable (image : Image) (enable : Enable) : Type 0 where
  pub unit : enable.unit < length image.units
  pub bus : enable.bus < image.buses

-- the unit has the port, and the port's file the register
abbrev pub HasRegister : UnitDesc → ℕ → ℕ → Type 0
HasRegister unit port reg = IsSomeAnd (slice_get unit.files port) (λ file. reg < length file)

-- the unit is there, its port, and the register
abbrev pub IsRegister : Image → PortRef → ℕ → Type 0
IsRegister image port reg = IsSomeAnd (slice_get image.units port.unit) (λ unit. HasRegister unit port.port reg)

-- the register and the bus are there
pub record IsTake (image : Image) (take : Take) : Type 0 where
  pub register : IsRegister image take.port take.reg
  pub bus : take.bus < image.buses

-- in lexicographic order: m is below n, or they are equal and the rest decides
abbrev pub LexBelow : ℕ → ℕ → Type 0 → Type 0
LexBelow m n Rest = (m < n) ⊎ ((m ≡ n) × Rest)

-- by unit, then bus
abbrev pub EnableBefore : Enable → Enable → Type 0
EnableBefore a b = LexBelow a.unit b.unit (a.bus < b.bus)

-- by unit, port, bus, then register
abbrev pub TakeBefore : Take → Take → Type 0
TakeBefore a b =
    LexBelow a.port.unit b.port.unit (LexBelow a.port.port b.port.port (LexBelow a.bus b.bus (a.reg < b.reg)))

-- a microword: its lists rise strictly, so that a unit has one issue and nothing occurs twice
pub record IsWordOf (image : Image) (word : Word) : Type 0 where
  pub issues : All (IsIssue image) word.issues
  pub issues_rise : IsStrictlyIncreasing (map (λ issue. issue.unit) word.issues)
  pub enable_count : length word.enables ≤ 1024
  pub enables : All (IsEnable image) word.enables
  pub enables_rise : AllAdjacentBelow EnableBefore word.enables (length word.enables)
  pub take_count : length word.takes ≤ 1024
  pub takes : All (IsTake image) word.takes
  pub takes_rise : AllAdjacentBelow TakeBefore word.takes (length word.takes)

-- an image that a microcode file can hold
pub record IsValid (image : Image) : Type 0 where
  pub period : IsWithin 1 4096 image.period
  pub unroll : (image.unroll ≡ 1) ⊎ (image.unroll ≡ 2) ⊎ (image.unroll ≡ 4)
  pub input_count : IsWithin 1 16 (length image.inputs)
  pub inputs : All (λ width. width ≤ 40) image.inputs
  pub outs : IsWithin 1 16 image.outs
  pub unit_count : IsWithin 1 32 (length image.units)
  pub units : All (IsUnit image.units) image.units
  pub buses : IsWithin 1 32 image.buses
  pub word_count : length image.words ≡ image.period * image.unroll
  pub words : All (IsWordOf image) image.words
