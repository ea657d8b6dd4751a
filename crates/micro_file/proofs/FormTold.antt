-- What is proved of the fields of a form: each is read as it is laid out.
use Rattle.std.proofs.Common.{◌≡◌, ℕ, ◌≤◌, List, length, ℤ}
use Rattle.fix_word.specs.declared.operation.Op.{Op}
use Rattle.operations.specs.declared.units.Kind.{Kind}
use Rattle.micro_image.specs.Form.{Form}
use Rattle.micro_image.specs.Operations.{kind_of, reads}
use Rattle.micro_image.specs.Valid.{IsWithin, IsArgument}
use Rattle.micro_file.specs.Hardware.{Any, Own, IsUnroll}
use Rattle.micro_file.specs.Layout.{field}
use Rattle.micro_file.specs.Private.FormAt.{FormAt}
use Rattle.micro_file.proofs.FormReader.{HaveRegisters}
use Rattle.micro_file.proofs.Layouts.{Is}

pub record TellsForm (base : ℕ) (spell : Form) (own : Own) (form : FormAt) : Type 0 where
  pub period : Is base (field spell.period (IsWithin 1 4096)) form.period
  pub unroll : Is base (field spell.unroll IsUnroll) form.unroll
  pub channels : Is base (field spell.channels (IsWithin 1 16)) form.channels
  pub width : Is base (field spell.width (IsWithin 0 40)) form.width
  pub units : Is base (field spell.units (IsWithin 1 32)) form.units
  pub kind : Is base (field spell.kind Any) form.kind
  pub latency : Is base (field spell.cycles (IsWithin 1 8)) form.latency
  pub gap : (latency : ℕ) → IsWithin 1 8 latency → Is base (field spell.cycles (IsWithin 1 latency)) (form.gap latency)
  pub registers : Is base (field spell.registers (IsWithin 1 256)) form.registers
  pub cells : Is base (field spell.cells (IsWithin 1 65536)) form.cells
  pub initial : (count : ℕ) → Is base (own.initial count) (form.initial count)
  pub ram : Is base (field spell.ram own.Ram) form.ram
  pub ram_length : (n : ℕ) → length (spell.ram n) ≡ form.ram_length
  pub buses : Is base (field spell.buses (IsWithin 1 32)) form.buses
  pub operation : (k : Kind) → Is base (field (own.operation k) (λ op. kind_of op ≡ k)) (form.operation k)
  pub format : (op : Op) → Is base (own.format op) (form.format op)
  pub argument : (op : Op) (inputs outs : ℕ)
      → inputs ≤ 16
      → outs ≤ 16
      → Is base (field (spell.argument op) (IsArgument op inputs outs)) (form.argument op inputs outs)
  pub named : (op : Op) (files : List (List ℤ))
      → HaveRegisters files
      → reads op ≤ length files
      → Is base (own.named files (reads op)) (form.named files (reads op))
