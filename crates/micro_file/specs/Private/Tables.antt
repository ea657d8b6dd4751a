-- What a number of a file stands for, by its place: kinds of units, operations, modes.
use Rattle.std.specs.Prelude.{List, [], ◌∷◌}
use Rattle.fix_word.specs.declared.operation.Op.{Op}
use Rattle.fix_word.specs.declared.operation.Op.TheVariants as op
use Rattle.fix_word.specs.declared.types.Mode.{Mode}
use Rattle.fix_word.specs.declared.types.Mode.TheVariants.{Trunc, Round, Sat, RoundSat}
use Rattle.operations.specs.declared.units.Kind.{Kind}
use Rattle.operations.specs.declared.units.Kind.TheVariants as kind

abbrev pub kinds : List Kind
kinds =
    kind.Input ∷ kind.Output ∷ kind.Rom ∷ kind.Alu ∷ kind.Mul ∷ kind.Sel ∷ kind.Ram ∷ kind.Acu ∷ []

abbrev pub operations : List Op
operations =
    op.Input ∷ op.Output ∷ op.Const ∷ op.Add ∷ op.Sub ∷ op.Neg ∷ op.Pass
    ∷ op.Lt ∷ op.Le ∷ op.Eq ∷ op.Ne ∷ op.And ∷ op.Or ∷ op.Not
    ∷ op.Mul ∷ op.Sel ∷ op.Load ∷ op.Store ∷ op.Addr ∷ []

abbrev pub modes : List Mode
modes = Trunc ∷ Round ∷ Sat ∷ RoundSat ∷ []
