-- The fields of a file, in either version: all but its words, and what an issue does.
use Rattle.std.specs.Prelude.{◌≡◌, ◌⊎◌, ℕ, ◌*◌, ◌+◌, List, [], ◌∷◌, ◌++◌, length, ℤ, Ok, Err, IsSomeAnd, slice_get}
use Rattle.std.specs.List.{All, flat_map}
use Rattle.fix_word.specs.declared.operation.Op.{Op}
use Rattle.fix_word.specs.declared.types.Format.{Format}
use Rattle.operations.specs.declared.units.Kind.{Kind}
use Rattle.operations.specs.declared.units.Kind.TheVariants as kind
use Rattle.micro_image.specs.declared.image.Image.{Image}
use Rattle.micro_image.specs.declared.image.Issue.{Issue}
use Rattle.micro_image.specs.declared.image.UnitDesc.{UnitDesc}
use Rattle.micro_image.specs.declared.image.Word.{Word}
use Rattle.micro_image.specs.Form.{Form, spelled_unit}
use Rattle.micro_image.specs.Operations.{kind_of, reads}
use Rattle.micro_image.specs.Valid.{IsWithin, IsArgument, ports}
use Rattle.micro_file.specs.declared.misread.Misread.{Misread}
use Rattle.micro_file.specs.declared.misread.Misread.TheVariants.{Field}
use Rattle.micro_file.specs.Layout.{Layout, ◌>>=◌, field, given, placed, many}

-- every value
abbrev pub Any : {A : Type 0} → A → Type 0
Any x = Unit {0}

-- what a version has of its own
pub record Own : Type 1 where
  -- so many words that registers or cells start with
  pub initial : (count : ℕ) → Layout (List ℤ)
  -- the numbers that the field of a ram has
  pub Ram : ℕ → Type 0
  -- the operations of a kind
  pub operation : Kind → Op → List ℕ
  pub format : Op → Layout Format
  -- the registers that an issue names, of which its operation reads so many
  pub named : (files : List (List ℤ)) → (reads : ℕ) → Layout (List ℕ)

-- an acu has a ram among the units
abbrev pub IsTied : List UnitDesc → UnitDesc → Type 0
IsTied units unit = unit.kind ≡ kind.Acu → IsSomeAnd (slice_get units unit.ram) (λ other. other.kind ≡ kind.Ram)

abbrev pub IsUnroll : ℕ → Type 0
IsUnroll unroll = (unroll ≡ 1) ⊎ (unroll ≡ 2) ⊎ (unroll ≡ 4)

module _ (form : Form) (own : Own) where
  -- a register file
  abbrev pub file : Layout (List ℤ)
  file = field form.registers (IsWithin 1 256) >>= own.initial

  -- the cells of a ram, and none of another unit
  abbrev pub cells_of : Kind → Layout (List ℤ)
  cells_of kind.Ram = field form.cells (IsWithin 1 65536) >>= own.initial
  cells_of _ = given []

  -- the number of an acu's ram, and 0 at another unit
  abbrev pub ram_of : Kind → Layout ℕ
  ram_of kind.Acu = field form.ram own.Ram
  ram_of _ = given 0

  -- a unit; which ram an acu has is judged when all units are there
  unfoldable pub unit : Layout UnitDesc
  unit = do
    kind ← field form.kind Any
    latency ← field form.cycles (IsWithin 1 8)
    gap ← field form.cycles (IsWithin 1 latency)
    files ← many (λ _. file) [] (ports kind)
    cells ← cells_of kind
    ram ← ram_of kind
    given (record { kind = kind; latency = latency; gap = gap; files = files; cells = cells; ram = ram })

  -- the first unit that is not tied; its last field, the number of its ram, is not allowed
  pub record IsUntied (units : List UnitDesc) (place : List ℕ) (misread : Misread) : Type 0 where
    pub before : List UnitDesc
    pub acu : UnitDesc
    pub behind : List UnitDesc
    pub units_are : units ≡ before ++ acu ∷ behind
    pub tied : All (IsTied units) before
    pub untied : ¬ IsTied units acu
    pub rest : List ℕ
    pub text : place ≡ flat_map (spelled_unit form) (before ++ acu ∷ []) ++ rest
    pub is : misread ≡ Field (length (form.ram acu.ram) + length rest)

  -- the units, which begin at the place, if each is tied
  abbrev pub tied : (place : List ℕ) → List UnitDesc → Layout (List UnitDesc)
  tied place units left (Ok x) = (x ≡ (units, left)) × All (IsTied units) units
  tied place units left (Err misread) = IsUntied units place misread

  -- so many units
  abbrev pub some_units : ℕ → Layout (List UnitDesc)
  some_units count = placed (λ place. many (λ _. unit) [] count >>= tied place)

  -- all but the words
  unfoldable pub hardware : Layout Image
  hardware = do
    period ← field form.period (IsWithin 1 4096)
    unroll ← field form.unroll IsUnroll
    inputs ← field form.channels (IsWithin 1 16) >>= many (λ _. field form.width (IsWithin 0 40)) []
    outs ← field form.channels (IsWithin 1 16)
    units ← field form.units (IsWithin 1 32) >>= some_units
    buses ← field form.buses (IsWithin 1 32)
    given (record {
      period = period;
      unroll = unroll;
      inputs = inputs;
      outs = outs;
      units = units;
      buses = buses;
      words = [];
    })

  -- an image behind the version, whose words are laid out so
  unfoldable pub image : (Image → Layout Word) → Layout Image
  image word = do
    hardware ← hardware
    words ← many (λ _. word hardware) [] (hardware.period * hardware.unroll)
    given (record hardware { words = words })

  -- an issue on a unit: all but the unit's number
  unfoldable pub issue_on : Image → ℕ → UnitDesc → Layout Issue
  issue_on image number unit = do
    op ← field (own.operation unit.kind) (λ op. kind_of op ≡ unit.kind)
    fmt ← own.format op
    arg ← field (form.argument op) (IsArgument op (length image.inputs) image.outs)
    regs ← own.named unit.files (reads op)
    given (record { unit = number; op = op; fmt = fmt; arg = arg; regs = regs })
