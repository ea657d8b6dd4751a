-- The names of the operations in the texts of schedules and images, and those of the kinds of units in datapath files.
use Rattle.std.specs.Prelude.{ℕ, List, codes}
use Rattle.fix_word.specs.declared.operation.Op.{Op}
use Rattle.fix_word.specs.declared.operation.Op.TheVariants as op
use Rattle.operations.specs.declared.units.Kind.{Kind}
use Rattle.operations.specs.declared.units.Kind.TheVariants as kind

abbrev pub operation_name : Op → List ℕ
operation_name op.Input = codes "input"
operation_name op.Output = codes "output"
operation_name op.Const = codes "const"
operation_name op.Add = codes "add"
operation_name op.Sub = codes "sub"
operation_name op.Neg = codes "neg"
operation_name op.Pass = codes "pass"
operation_name op.Lt = codes "lt"
operation_name op.Le = codes "le"
operation_name op.Eq = codes "eq"
operation_name op.Ne = codes "ne"
operation_name op.And = codes "and"
operation_name op.Or = codes "or"
operation_name op.Not = codes "not"
operation_name op.Mul = codes "mul"
operation_name op.Sel = codes "sel"
operation_name op.Load = codes "load"
operation_name op.Store = codes "store"
operation_name op.Addr = codes "addr"

abbrev pub kind_name : Kind → List ℕ
kind_name kind.Input = codes "in"
kind_name kind.Output = codes "out"
kind_name kind.Rom = codes "rom"
kind_name kind.Alu = codes "alu"
kind_name kind.Mul = codes "mul"
kind_name kind.Sel = codes "sel"
kind_name kind.Ram = codes "ram"
kind_name kind.Acu = codes "acu"
