-- What an issue of each operation has in a microcode file, and whether it gives a result, a row each.
use Rattle.std.specs.Prelude.{ℕ, Bool, true, false}
use Rattle.fix_word.specs.declared.operation.Op.{Op}
use Rattle.fix_word.specs.declared.operation.Op.TheVariants as op
pub use Rattle.operations.specs.Operations.{kind_of, operands as reads, is_formatted}

-- What the argument of an issue is: nothing, the number of an input or of an output word, a raw word, or the offset of
-- an address.
pub data Argument : Type 0 where
  nothing input_word output_word raw_word offset : Argument

pub record Operation : Type 0 where
  -- its opcode, its number in a microcode file of version 1
  pub opcode : ℕ
  pub argument : Argument
  -- it gives a result; else it writes a cell or a latch
  pub gives : Bool

abbrev pub row : ℕ → Argument → Bool → Operation
row opcode argument gives = record { opcode = opcode; argument = argument; gives = gives }

abbrev pub result : Bool
result = true

abbrev pub write : Bool
write = false

abbrev pub operation : Op → Operation
operation op.Input = row 0 input_word result
operation op.Output = row 1 output_word write
operation op.Const = row 2 raw_word result
operation op.Add = row 3 nothing result
operation op.Sub = row 4 nothing result
operation op.Neg = row 5 nothing result
operation op.Pass = row 6 nothing result
operation op.Lt = row 7 nothing result
operation op.Le = row 8 nothing result
operation op.Eq = row 9 nothing result
operation op.Ne = row 10 nothing result
operation op.And = row 11 nothing result
operation op.Or = row 12 nothing result
operation op.Not = row 13 nothing result
operation op.Mul = row 14 nothing result
operation op.Sel = row 15 nothing result
operation op.Load = row 16 nothing result
operation op.Store = row 17 nothing write
operation op.Addr = row 18 offset result

abbrev pub opcode : Op → ℕ
opcode o = (operation o).opcode

abbrev pub gives : Op → Bool
gives o = (operation o).gives
