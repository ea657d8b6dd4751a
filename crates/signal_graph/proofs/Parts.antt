-- What stands at the places of the parts of an expression.
use Rattle.std.proofs.Common.{◌≡◌, refl, subst, arith, ℕ, ◌+◌, ◌-◌, List, [], ◌∷◌, ◌++◌, length}
use Rattle.std.specs.Prelude.{slice_get, Some}
use Rattle.std.proofs.lemmas.List.{length-append}
use Rattle.lists.proofs.Places.{at_left, at_right}
use Rattle.fix_word.specs.declared.operation.Op.{Op}
use Rattle.fix_word.specs.declared.types.Format.{Format}
use Rattle.signal_graph.specs.Flat.{Expr, raw, read, calculation, Parts, no_part, part, size, size_of_parts}
use Rattle.signal_graph.specs.GraphOf.{Made, made_by, made_by_parts, operation, operands_from}

mutual
  pub length_made : (k : ℕ) (x : Expr) → length (made_by k x) ≡ size x
  length_made k (raw m) = omega arith
  length_made k (read e ago) = omega arith
  length_made k (calculation o fmt parts) =
      omega (
        arith,
        length-append (made_by_parts k parts) (operation o fmt (operands_from k parts) ∷ []),
        length_made_parts k parts,
      )

  pub length_made_parts : (k : ℕ) (parts : Parts) → length (made_by_parts k parts) ≡ size_of_parts parts
  length_made_parts k no_part = omega arith
  length_made_parts k (part x rest) =
      omega (
        arith,
        length-append (made_by k x) (made_by_parts (k + size x) rest),
        length_made k x,
        length_made_parts (k + size x) rest,
      )

-- all of the second list is in the first one, from index k on
abbrev pub Stands : (whole : List Made) (k : ℕ) → List Made → Type 0
Stands whole k ms = (i : ℕ) (m : Made) → slice_get ms i ≡ Some m → slice_get whole (k + i) ≡ Some m

pub stands_left : (whole : List Made) (k : ℕ) (xs ys : List Made) → Stands whole k (xs ++ ys) → Stands whole k xs
stands_left whole k xs ys h i m at = h i m (at_left xs ys i m at)

pub stands_right : (whole : List Made) (k : ℕ) (xs ys : List Made) (n : ℕ)
    → length xs ≡ n
    → Stands whole k (xs ++ ys)
    → Stands whole (k + n) ys
stands_right whole k xs ys n count h i m at =
    let place : k + (length xs + i) ≡ k + n + i = omega arith in
    subst (λ (j : ℕ). slice_get whole j ≡ Some m) place
    (h (length xs + i) m (at_right xs ys (length xs + i) i m refl at))

pub stands_first : (whole : List Made) (k : ℕ) (m : Made) → Stands whole k (m ∷ []) → slice_get whole k ≡ Some m
stands_first whole k m h =
    let place : k + 0 ≡ k = omega arith in
    subst (λ (j : ℕ). slice_get whole j ≡ Some m) place (h 0 m refl)

-- the calculation stands behind its parts
pub calculation_stands : (whole : List Made) (k : ℕ) (o : Op) (fmt : Format) (parts : Parts)
    → Stands whole k (made_by k (calculation o fmt parts))
    → slice_get whole (k + size (calculation o fmt parts) - 1) ≡ Some (operation o fmt (operands_from k parts))
calculation_stands whole k o fmt parts h =
    let last = operation o fmt (operands_from k parts) in
    let place : k + size_of_parts parts ≡ k + (1 + size_of_parts parts) - 1 = omega arith in
    subst (λ (j : ℕ). slice_get whole j ≡ Some last) place
    (stands_first whole (k + size_of_parts parts) last
    (stands_right whole k (made_by_parts k parts) (last ∷ []) (size_of_parts parts) (length_made_parts k parts) h))

pub parts_stand : (whole : List Made) (k : ℕ) (o : Op) (fmt : Format) (parts : Parts)
    → Stands whole k (made_by k (calculation o fmt parts))
    → Stands whole k (made_by_parts k parts)
parts_stand whole k o fmt parts h =
    stands_left whole k (made_by_parts k parts) (operation o fmt (operands_from k parts) ∷ []) h

pub first_stands : (whole : List Made) (k : ℕ) (x : Expr) (rest : Parts)
    → Stands whole k (made_by_parts k (part x rest))
    → Stands whole k (made_by k x)
first_stands whole k x rest h = stands_left whole k (made_by k x) (made_by_parts (k + size x) rest) h

pub rest_stands : (whole : List Made) (k : ℕ) (x : Expr) (rest : Parts)
    → Stands whole k (made_by_parts k (part x rest))
    → Stands whole (k + size x) (made_by_parts (k + size x) rest)
rest_stands whole k x rest h =
    stands_right whole k (made_by k x) (made_by_parts (k + size x) rest) (size x) (length_made k x) h
