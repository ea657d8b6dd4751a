-- The instances that calls make.
use Rattle.std.specs.Prelude.{◌≡◌, ◌<◌, ℕ, ◌+◌, ◌&&◌, Bool, nat_eq, true, false, List, [], ◌∷◌, drop, slice_get}
use Rattle.std.specs.Prelude.{if◌then◌else◌, Option, Some, None, ℤ}
use Rattle.std.specs.Ordering.{int_eq}
use Rattle.element_rules.specs.declared.elements.Instance.{Instance}

abbrev pub same_turns : List ℤ → List ℤ → Bool
same_turns [] [] = true
same_turns (x ∷ xs) (y ∷ ys) = int_eq x y && same_turns xs ys
same_turns _ _ = false

-- the instance is made by the call at this position, in these turns of the loops, in the instance with this number
abbrev pub is_child : (parent at : ℕ) → List ℤ → Instance → Bool
is_child parent at turns i = nat_eq i.parent parent && (nat_eq i.site at && same_turns i.turns turns)

-- the number of the first such instance, where the first of the list has number k
abbrev pub child_from : (k parent at : ℕ) → List ℤ → List Instance → Option ℕ
child_from k parent at turns [] = None
child_from k parent at turns (i ∷ is) =
    if is_child parent at turns i then Some k else child_from (k + 1) parent at turns is

-- main's instance is the first, and no call makes it
abbrev pub child_of : (parent at : ℕ) → List ℤ → List Instance → Option ℕ
child_of parent at turns instances = child_from 1 parent at turns (drop 1 instances)

-- a call makes one instance in a turn of the loops around it
pub record AreApart (instances : List Instance) : Type 0 where
  pub apart : (i j : ℕ) (x y : Instance)
      → 0 < i
      → 0 < j
      → slice_get instances i ≡ Some x
      → slice_get instances j ≡ Some y
      → x.parent ≡ y.parent
      → x.site ≡ y.site
      → x.turns ≡ y.turns
      → i ≡ j
