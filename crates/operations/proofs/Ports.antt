-- How many ports and operands there are at most.
use Rattle.std.proofs.Common.{◌≤◌, arith}
use Rattle.fix_word.specs.declared.operation.Op.{Op}
use Rattle.fix_word.specs.declared.operation.Op.TheVariants as op
use Rattle.operations.specs.Operations.{operands, kind_of}
use Rattle.operations.specs.Units.{ports}
use Rattle.operations.specs.declared.units.Kind.{Kind}
use Rattle.operations.specs.declared.units.Kind.TheVariants as kind

pub few_ports : (k : Kind) → ports k ≤ 3
few_ports kind.Input = omega arith
few_ports kind.Output = omega arith
few_ports kind.Rom = omega arith
few_ports kind.Alu = omega arith
few_ports kind.Mul = omega arith
few_ports kind.Sel = omega arith
few_ports kind.Ram = omega arith
few_ports kind.Acu = omega arith

-- the unit of an operation has a port for each operand
pub enough_ports : (o : Op) → operands o ≤ ports (kind_of o)
enough_ports op.Sel = omega arith
enough_ports op.Input = omega arith
enough_ports op.Output = omega arith
enough_ports op.Const = omega arith
enough_ports op.Addr = omega arith
enough_ports _ = omega arith
