-- The operations, a row each: which kind of functional unit does one, how many operands it has, and what it gives.
use Rattle.std.specs.Prelude.{◌≡◌, ℕ, ◌≤◌, ◌^◌, ℤ, pos, unsigned_abs, Bool, true, false}
use Rattle.fix_word.specs.Words.{IsFormat}
use Rattle.fix_word.specs.declared.types.Format.{Format}
use Rattle.fix_word.specs.declared.types.Mode.TheVariants.{Trunc}
use Rattle.fix_word.specs.declared.operation.Op.{Op}
use Rattle.fix_word.specs.declared.operation.Op.TheVariants as op
use Rattle.operations.specs.declared.units.Kind.{Kind}
use Rattle.operations.specs.declared.units.Kind.TheVariants as kind

pub data Class : Type 0 where
  -- a word of the input row, a word of the output row, and the same word at each sample
  input output constant : Class
  -- its exact result, quantised by its format
  quantised : Class
  -- 1 for true or 0 for false
  truth : Class
  -- one of its last two operands
  choice : Class
  -- an access to memory, or an address for one
  memory : Class

pub record Operation : Type 0 where
  -- the kind of the units that do it
  pub kind : Kind
  -- how many operands it has, one for each port that its unit reads, from port 0 on
  pub operands : ℕ
  pub class : Class

abbrev pub row : Kind → ℕ → Class → Operation
row kind operands class = record { kind = kind; operands = operands; class = class }

abbrev pub operation : Op → Operation
operation op.Input = row kind.Input 0 input
operation op.Output = row kind.Output 1 output
operation op.Const = row kind.Rom 0 constant
operation op.Add = row kind.Alu 2 quantised
operation op.Sub = row kind.Alu 2 quantised
operation op.Neg = row kind.Alu 1 quantised
operation op.Pass = row kind.Alu 1 quantised
operation op.Lt = row kind.Alu 2 truth
operation op.Le = row kind.Alu 2 truth
operation op.Eq = row kind.Alu 2 truth
operation op.Ne = row kind.Alu 2 truth
operation op.And = row kind.Alu 2 truth
operation op.Or = row kind.Alu 2 truth
operation op.Not = row kind.Alu 1 truth
operation op.Mul = row kind.Mul 2 quantised
operation op.Sel = row kind.Sel 3 choice
operation op.Load = row kind.Ram 1 memory
operation op.Store = row kind.Ram 2 memory
operation op.Addr = row kind.Acu 0 memory

abbrev pub kind_of : Op → Kind
kind_of o = (operation o).kind

abbrev pub operands : Op → ℕ
operands o = (operation o).operands

abbrev pub class_of : Op → Class
class_of o = (operation o).class

abbrev pub is_quantised : Class → Bool
is_quantised quantised = true
is_quantised _ = false

-- whether it brings its exact result to a word by a format
abbrev pub is_formatted : Op → Bool
is_formatted o = is_quantised (class_of o)

-- shift 0, trunc and this width
abbrev pub plain : ℕ → Format
plain width = record { shift = pos 0; mode = Trunc; width = width }

-- shift 0, trunc and width 0
abbrev pub IsNoFormat : Format → Type 0
IsNoFormat fmt = fmt ≡ plain 0

-- a format where there is to be one, and else none
abbrev pub IsFormatWhere : Bool → Format → Type 0
IsFormatWhere true = IsFormat
IsFormatWhere false = IsNoFormat

-- a raw word of magnitude at most 2 ^ 39
abbrev pub IsOperand : ℤ → Type 0
IsOperand z = unsigned_abs z ≤ 2 ^ 39
