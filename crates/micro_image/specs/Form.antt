-- Which fields of an image a microcode file has, and in which order: all but its words, and what an issue does. How a
-- field is spelled is a form, a row a field.
use Rattle.std.specs.Prelude.{ℕ, List, [], ◌++◌, length, ℤ}
use Rattle.std.specs.List.{flat_map}
use Rattle.fix_word.specs.declared.operation.Op.{Op}
use Rattle.fix_word.specs.declared.types.Format.{Format}
use Rattle.operations.specs.declared.units.Kind.{Kind}
use Rattle.operations.specs.declared.units.Kind.TheVariants as kind
use Rattle.micro_image.specs.declared.image.Image.{Image}
use Rattle.micro_image.specs.declared.image.Issue.{Issue}
use Rattle.micro_image.specs.declared.image.UnitDesc.{UnitDesc}

-- how the fields are spelled, each as a list
pub record Form : Type 0 where
  pub period : ℕ → List ℕ
  pub unroll : ℕ → List ℕ
  -- how many input or output words there are
  pub channels : ℕ → List ℕ
  -- of an input word
  pub width : ℕ → List ℕ
  -- how many units there are
  pub units : ℕ → List ℕ
  pub kind : Kind → List ℕ
  -- a latency or a gap
  pub cycles : ℕ → List ℕ
  -- how many registers a file has
  pub registers : ℕ → List ℕ
  -- how many cells a ram has
  pub cells : ℕ → List ℕ
  -- initial words of registers or cells
  pub initial : List ℤ → List ℕ
  -- the number of an acu's ram
  pub ram : ℕ → List ℕ
  -- how many buses there are
  pub buses : ℕ → List ℕ
  pub operation : Op → List ℕ
  pub format : Op → Format → List ℕ
  pub argument : Op → ℤ → List ℕ
  -- the registers that an issue names, of which its operation reads the first ports'
  pub named : Op → List ℕ → List ℕ

module _ (form : Form) where
  -- a register file: its size, and the initial words of its registers
  unfoldable pub spelled_file : List ℤ → List ℕ
  spelled_file file = form.registers (length file) ++ form.initial file

  -- the cells of a ram, the number of an acu's ram, and nothing of the other kinds
  unfoldable pub spelled_memory : Kind → UnitDesc → List ℕ
  spelled_memory kind.Ram unit = form.cells (length unit.cells) ++ form.initial unit.cells
  spelled_memory kind.Acu unit = form.ram unit.ram
  spelled_memory _ unit = []

  -- kind, latency, gap, a register file for each port, the memory
  unfoldable pub spelled_unit : UnitDesc → List ℕ
  spelled_unit unit =
      form.kind unit.kind ++ form.cycles unit.latency ++ form.cycles unit.gap
      ++ flat_map spelled_file unit.files ++ spelled_memory unit.kind unit

  -- what an issue has but for its unit: operation, format, argument, registers
  unfoldable pub spelled_operation : Issue → List ℕ
  spelled_operation issue =
      form.operation issue.op ++ form.format issue.op issue.fmt
      ++ form.argument issue.op issue.arg ++ form.named issue.op issue.regs

  -- all but the words
  unfoldable pub spelled_hardware : Image → List ℕ
  spelled_hardware image =
      form.period image.period ++ form.unroll image.unroll
      ++ form.channels (length image.inputs) ++ flat_map form.width image.inputs
      ++ form.channels image.outs
      ++ form.units (length image.units) ++ flat_map spelled_unit image.units
      ++ form.buses image.buses
