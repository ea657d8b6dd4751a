-- Values of a manifest constant in turns, by those of its parts.
use Rattle.std.proofs.Common.{◌≡◌, ◌<◌, ◌+◌, ℕ, ℤ, pos, neg_ℤ, Option, Some, None, refl, sym, subst}
use Rattle.std.specs.Prelude.{◌-ℤ◌, IsSome, option_and_then}
use Rattle.silage_syntax.specs.declared.tree.MOp.{MOp}
use Rattle.silage_syntax.specs.Tree.{Manifest, whole, counter, minus, both}
use Rattle.silage_syntax.specs.Manifests.{in_range, combined, manifest_value}
use Rattle.loop_expand.specs.declared.columns.Turns.{Turns}
use Rattle.loop_expand.specs.declared.values.Values.{Values}
use Rattle.loop_expand.specs.Private.Turns.{indices_at, value_in, HasValues, AreValues}
use Rattle.loop_expand.proofs.ValueRows.{from_0}

some_first : (o : Option ℤ) (F : ℤ → Option ℤ) → IsSome (option_and_then F o) → IsSome o
some_first (Some a) F e = refl
some_first None F e = e

some_second : (l r : Option ℤ) (F : ℤ → ℤ → Option ℤ)
    → IsSome (option_and_then (λ a. option_and_then (F a) r) l)
    → IsSome r
some_second (Some a) r F e = some_first r (F a) e
some_second None r F e = absurd (cc e)

-- how many numbers, indices and operators it has
abbrev pub size : Manifest → ℕ
size (whole n at) = 1
size (counter name at) = 1
size (minus at m) = 1 + size m
size (both at op l r) = 1 + size l + size r

module _ (turns : Turns) (x : Manifest) (all : HasValues turns x) where
  abbrev At : ℕ → Manifest → Option ℤ
  At k m = manifest_value (indices_at turns k) m

  module _ (at : ℕ) (m : Manifest) (is : x ≡ minus at m) where
    some_minus : (k : ℕ) → k < turns.count → IsSome (At k (minus at m))
    some_minus k less = subst (λ y. IsSome (At k y)) is (all k less)

    pub minus_values : HasValues turns m
    minus_values k less = some_first (At k m) (λ a. in_range (neg_ℤ a)) (some_minus k less)

    pub minus_in_range : (v : Values)
        → AreValues turns m v
        → (k : ℕ)
        → k < turns.count
        → IsSome (in_range (pos 0 -ℤ value_in v k))
    minus_in_range v are k less =
        subst (λ z. IsSome (in_range z)) (sym (from_0 (value_in v k)))
        (subst (λ o. IsSome (option_and_then (λ a. in_range (neg_ℤ a)) o)) (are k less) (some_minus k less))

  module _ (at : ℕ) (op : MOp) (l r : Manifest) (is : x ≡ both at op l r) where
    some_both : (k : ℕ) → k < turns.count → IsSome (At k (both at op l r))
    some_both k less = subst (λ y. IsSome (At k y)) is (all k less)

    pub left_values : HasValues turns l
    left_values k less =
        some_first (At k l) (λ a. option_and_then (λ b. in_range (combined op a b)) (At k r)) (some_both k less)

    pub right_values : HasValues turns r
    right_values k less = some_second (At k l) (At k r) (λ a b. in_range (combined op a b)) (some_both k less)

    pub both_in_range : (v w : Values)
        → AreValues turns l v
        → AreValues turns r w
        → (k : ℕ)
        → k < turns.count
        → IsSome (in_range (combined op (value_in v k) (value_in w k)))
    both_in_range v w left right k less =
        subst (λ o. IsSome (option_and_then (λ b. in_range (combined op (value_in v k) b)) o)) (right k less)
        (subst (λ o. IsSome (option_and_then (λ a. option_and_then (λ b. in_range (combined op a b)) (At k r)) o))
        (left k less) (some_both k less))
