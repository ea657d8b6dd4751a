-- Calculations of sound programs and graphs can be applied.
use Rattle.std.specs.Prelude.{◌≡◌, ℤ, List}
use Rattle.std.proofs.Common.{refl, subst}
use Rattle.fix_word.specs.Words.{IsFormat}
use Rattle.fix_word.specs.Operations.{IsReady, IsApply}
use Rattle.fix_word.specs.declared.operation.Op.{Op}
use Rattle.fix_word.specs.declared.operation.Op.TheVariants as op
use Rattle.fix_word.specs.declared.types.Format.{Format}
use Rattle.fix_word.proofs.Operations.{apply_is}
use Rattle.signal_graph.specs.Operations.{Class, quantised, class_of, IsCalculation}
use Rattle.signal_graph.specs.FlatRules.{IsFlatFormat}
use Rattle.signal_graph.specs.GraphRules.{IsNodeFormat}
use Rattle.signal_graph.specs.Values.{operand, result}

ready : (o : Op) (fmt : Format) → IsCalculation (class_of o) → (class_of o ≡ quantised → IsFormat fmt) → IsReady o fmt
ready op.Add fmt is allowed = allowed refl
ready op.Sub fmt is allowed = allowed refl
ready op.Neg fmt is allowed = allowed refl
ready op.Pass fmt is allowed = allowed refl
ready op.Mul fmt is allowed = allowed refl
ready op.Lt fmt is allowed = tt {0}
ready op.Le fmt is allowed = tt {0}
ready op.Eq fmt is allowed = tt {0}
ready op.Ne fmt is allowed = tt {0}
ready op.And fmt is allowed = tt {0}
ready op.Or fmt is allowed = tt {0}
ready op.Not fmt is allowed = tt {0}
ready op.Sel fmt is allowed = tt {0}
ready _ fmt is allowed = absurd is

pub flat_ready : (o : Op) (fmt : Format) → IsCalculation (class_of o) → IsFlatFormat (class_of o) fmt → IsReady o fmt
flat_ready o fmt is h = ready o fmt is (λ same. subst (λ (class : Class). IsFlatFormat class fmt) same h)

pub node_ready : (o : Op) (fmt : Format) → IsCalculation (class_of o) → IsNodeFormat (class_of o) fmt → IsReady o fmt
node_ready o fmt is h = ready o fmt is (λ same. subst (λ (class : Class). IsNodeFormat class fmt) same h)

-- the result is in the relation of the operation
pub result_is : (o : Op) (fmt : Format) (values : List ℤ)
    → IsReady o fmt
    → IsApply o fmt (operand values 0) (operand values 1) (operand values 2) (result o fmt values)
result_is o fmt values ready = apply_is o fmt (operand values 0) (operand values 1) (operand values 2) ready
