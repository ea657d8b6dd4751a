-- The operations by kind: each has a place of its own.
use Rattle.std.proofs.Common.{◌≡◌, ℕ, Some, slice_get, subst, refl, arith}
use Rattle.fix_word.specs.declared.operation.Op.{Op}
use Rattle.fix_word.specs.declared.operation.Op.TheVariants as op
use Rattle.operations.specs.declared.units.Kind.{Kind}
use Rattle.operations.specs.declared.units.Kind.TheVariants as kind
use Rattle.micro_image.specs.Codes.{operations_of, place_of, AreOncePlaced, ArePlacesHeld}
use Rattle.micro_image.specs.Operations.{kind_of}
use Rattle.micro_image.proofs.Tables.{Placed, only_placed}

-- each operation is in its kind's table
pub operation_there : (o : Op) → slice_get (operations_of (kind_of o)) (place_of o) ≡ Some o
operation_there op.Input = refl
operation_there op.Output = refl
operation_there op.Const = refl
operation_there op.Add = refl
operation_there op.Sub = refl
operation_there op.Neg = refl
operation_there op.Pass = refl
operation_there op.Lt = refl
operation_there op.Le = refl
operation_there op.Eq = refl
operation_there op.Ne = refl
operation_there op.And = refl
operation_there op.Or = refl
operation_there op.Not = refl
operation_there op.Mul = refl
operation_there op.Sel = refl
operation_there op.Load = refl
operation_there op.Store = refl
operation_there op.Addr = refl

-- at its place, and of its kind
own : {n : ℕ} {k : Kind} → (n ≡ n) × (k ≡ k)
own = (refl, refl)

operations_placed : (k : Kind) → Placed (λ o. kind_of o ≡ k) place_of 0 (operations_of k)
operations_placed kind.Input = (own, tt)
operations_placed kind.Output = (own, tt)
operations_placed kind.Rom = (own, tt)
operations_placed kind.Alu = (own, (own, (own, (own, (own, (own, (own, (own, (own, (own, (own, tt)))))))))))
operations_placed kind.Mul = (own, tt)
operations_placed kind.Sel = (own, tt)
operations_placed kind.Ram = (own, (own, tt))
operations_placed kind.Acu = (own, tt)

-- what stands in the table of a kind is of it, and at its place
pub operation_only : (k : Kind) (n : ℕ) (o : Op)
    → slice_get (operations_of k) n ≡ Some o
    → (place_of o ≡ n) × (kind_of o ≡ k)
operation_only k n o e = only_placed (λ o. kind_of o ≡ k) place_of (operations_of k) (operations_placed k) n o e

pub once_placed : AreOncePlaced
once_placed o k n = (
  λ e. let is = operation_only k n o e in (is.1, is.0),
  λ is.
      subst (λ (j : Kind). slice_get (operations_of j) n ≡ Some o) is.0
      (subst (λ (m : ℕ). slice_get (operations_of (kind_of o)) m ≡ Some o) is.1 (operation_there o)),
)

pub places_held : ArePlacesHeld
places_held op.Input = omega arith
places_held op.Output = omega arith
places_held op.Const = omega arith
places_held op.Add = omega arith
places_held op.Sub = omega arith
places_held op.Neg = omega arith
places_held op.Pass = omega arith
places_held op.Lt = omega arith
places_held op.Le = omega arith
places_held op.Eq = omega arith
places_held op.Ne = omega arith
places_held op.And = omega arith
places_held op.Or = omega arith
places_held op.Not = omega arith
places_held op.Mul = omega arith
places_held op.Sel = omega arith
places_held op.Load = omega arith
places_held op.Store = omega arith
places_held op.Addr = omega arith
