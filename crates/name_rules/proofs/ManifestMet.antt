-- A manifest constant has a value, or one fault is met first, and not both.
use Rattle.std.proofs.Common.{◌≡◌, ℕ, List, Option, Some, None, Result, Ok, Err, refl, sym, ap, subst, ◌∙◌, ℤ, pos}
use Rattle.std.specs.Prelude.{◌↔◌, neg_ℤ, option_and_then}
use Rattle.std.specs.Option.{ok_or}
use Rattle.silage_syntax.specs.declared.tree.MOp.{MOp}
use Rattle.silage_syntax.specs.Tree.{Manifest, whole, counter, minus, both}
use Rattle.silage_syntax.specs.Manifests.{Indices, index_value, in_range, combined, manifest_value}
use Rattle.lists.proofs.Places.{some_once}
use Rattle.name_rules.specs.ManifestFaults.{MeetsFirst, too_great, unbound, below_minus, at_minus, in_left, in_right}
use Rattle.name_rules.specs.ManifestFaults.{at_operator}
use Rattle.name_rules.specs.Private.Ranges.{IsRanged}
use Rattle.name_rules.specs.declared.fault.ManifestFault.{ManifestFault}
use Rattle.name_rules.specs.declared.fault.ManifestFault.TheVariants.{Unbound}

some_is_none : {A P : Type 0} {x : A} {o : Option A} → o ≡ Some x → o ≡ None → P
some_is_none e n = cc

ok_once : {A F : Type 0} {v w : A} (r : Result A F) → r ≡ Ok v → r ≡ Ok w → v ≡ w
ok_once r e f = cc

err_once : {A F : Type 0} {f g : F} (r : Result A F) → r ≡ Err f → r ≡ Err g → f ≡ g
err_once r e f = cc

ok_or_err : {P A F : Type 0} {v : A} {f : F} (r : Result A F) → r ≡ Ok v → r ≡ Err f → P
ok_or_err r e f = cc

module _ (indices : Indices) where
  minus_has : (m : Manifest) (at : ℕ) (a : ℤ)
      → manifest_value indices m ≡ Some a
      → manifest_value indices (minus at m) ≡ in_range (neg_ℤ a)
  minus_has m at a e = ap (option_and_then (λ (x : ℤ). in_range (neg_ℤ x))) e

  both_has : (o : MOp) (l r : Manifest) (at : ℕ) (a b : ℤ)
      → manifest_value indices l ≡ Some a
      → manifest_value indices r ≡ Some b
      → manifest_value indices (both at o l r) ≡ in_range (combined o a b)
  both_has o l r at a b e f =
      ap
      (option_and_then (λ (x : ℤ). option_and_then (λ (y : ℤ). in_range (combined o x y)) (manifest_value indices r))) e
      ∙ ap (option_and_then (λ (y : ℤ). in_range (combined o a y))) f

  -- a number in which a fault is met has no value
  pub no_value : (m : Manifest) (f : ManifestFault) → MeetsFirst indices m f → manifest_value indices m ≡ None
  no_value _ _ (too_great e) = e
  no_value _ _ (unbound e) = e
  no_value _ _ (below_minus {m = m} h) = ap (option_and_then (λ (x : ℤ). in_range (neg_ℤ x))) (no_value _ _ h)
  no_value _ _ (at_minus {at = at} {m = m} {a = a} e n) = minus_has m at a e ∙ n
  no_value _ _ (in_left {o = o} {r = r} h) =
      ap
      (option_and_then (λ (x : ℤ). option_and_then (λ (y : ℤ). in_range (combined o x y)) (manifest_value indices r)))
      (no_value _ _ h)
  no_value _ _ (in_right {o = o} {l = l} {r = r} {a = a} e h) =
      ap
      (option_and_then (λ (x : ℤ). option_and_then (λ (y : ℤ). in_range (combined o x y)) (manifest_value indices r))) e
      ∙ ap (option_and_then (λ (y : ℤ). in_range (combined o a y))) (no_value _ _ h)
  no_value _ _ (at_operator {at = at} {o = o} {l = l} {r = r} {a = a} {b = b} e f n) = both_has o l r at a b e f ∙ n

  -- one fault is met first
  pub first_once : (m : Manifest) (f g : ManifestFault) → MeetsFirst indices m f → MeetsFirst indices m g → f ≡ g
  first_once _ _ _ (too_great e) (too_great e') = refl
  first_once _ _ _ (unbound e) (unbound e') = refl
  first_once _ _ _ (below_minus h) (below_minus k) = first_once _ _ _ h k
  first_once _ _ _ (below_minus h) (at_minus e n) = some_is_none e (no_value _ _ h)
  first_once _ _ _ (at_minus e n) (below_minus k) = some_is_none e (no_value _ _ k)
  first_once _ _ _ (at_minus e n) (at_minus e' n') = refl
  first_once _ _ _ (in_left h) (in_left k) = first_once _ _ _ h k
  first_once _ _ _ (in_left h) (in_right e k) = some_is_none e (no_value _ _ h)
  first_once _ _ _ (in_left h) (at_operator e e' n) = some_is_none e (no_value _ _ h)
  first_once _ _ _ (in_right e h) (in_left k) = some_is_none e (no_value _ _ k)
  first_once _ _ _ (in_right e h) (in_right e' k) = first_once _ _ _ h k
  first_once _ _ _ (in_right e h) (at_operator d d' n) = some_is_none d' (no_value _ _ h)
  first_once _ _ _ (at_operator d d' n) (in_left k) = some_is_none d (no_value _ _ k)
  first_once _ _ _ (at_operator d d' n) (in_right e k) = some_is_none d' (no_value _ _ k)
  first_once _ _ _ (at_operator d d' n) (at_operator e e' n') = refl

  -- what the two clauses of the call say
  pub record IsExact (m : Manifest) (r : Result ℤ ManifestFault) : Type 0 where
    pub value : (v : ℤ) → (r ≡ Ok v) ↔ (manifest_value indices m ≡ Some v)
    pub fault : (f : ManifestFault) → (r ≡ Err f) ↔ MeetsFirst indices m f

  pub valued : {m : Manifest} {v : ℤ} → manifest_value indices m ≡ Some v → IsExact m (Ok v)
  valued {m} {v} e = record {
    value = λ w. ((λ h. e ∙ ap Some (ok_once (Ok v) refl h)), (λ h. ap Ok (some_once e h)));
    fault = λ f. ((λ h. ok_or_err (Ok v) refl h), (λ h. some_is_none e (no_value m f h)));
  }

  pub stopped : {m : Manifest} {f : ManifestFault} → MeetsFirst indices m f → IsExact m (Err f)
  stopped {m} {f} h = record {
    value = λ v. ((λ e. ok_or_err (Err f) e refl), (λ e. some_is_none e (no_value m f h)));
    fault = λ g. (
      (λ e. subst (MeetsFirst indices m) (err_once (Err f) refl e) h),
      (λ k. ap Err (first_once m f g h k)),
    );
  }

  pub whole_exact : (m : Manifest) (n at : ℕ) (r : Result ℤ ManifestFault)
      → m ≡ whole n at
      → IsRanged (pos n) r
      → IsExact m r
  whole_exact m n at (Ok v) is h = subst (λ x. IsExact x (Ok v)) (sym is) (valued h)
  whole_exact m n at (Err f) is h =
      subst (λ x. IsExact x (Err f)) (sym is)
      (subst (λ g. IsExact (whole n at) (Err g)) (sym h.0) (stopped (too_great h.1)))

  pub counter_exact : (m : Manifest) (name : List ℕ) (at : ℕ) (o : Option ℤ) (r : Result ℤ ManifestFault)
      → m ≡ counter name at
      → o ≡ index_value indices name
      → r ≡ ok_or o Unbound
      → IsExact m r
  counter_exact m name at (Some v) r is e h =
      subst (IsExact m) (sym h) (subst (λ x. IsExact x (Ok v)) (sym is) (valued (sym e)))
  counter_exact m name at None r is e h =
      subst (IsExact m) (sym h) (subst (λ x. IsExact x (Err Unbound)) (sym is) (stopped (unbound (sym e))))

  pub minus_stops : (m x : Manifest) (at : ℕ) (f : ManifestFault) (r : Result ℤ ManifestFault)
      → m ≡ minus at x
      → r ≡ Err f
      → MeetsFirst indices x f
      → IsExact m r
  minus_stops m x at f r is e h =
      subst (IsExact m) (sym e) (subst (λ y. IsExact y (Err f)) (sym is) (stopped (below_minus h)))

  pub minus_exact : (m x : Manifest) (at : ℕ) (a z : ℤ) (r : Result ℤ ManifestFault)
      → m ≡ minus at x
      → manifest_value indices x ≡ Some a
      → z ≡ neg_ℤ a
      → IsRanged z r
      → IsExact m r
  minus_exact m x at a z (Ok v) is e same h =
      subst (λ y. IsExact y (Ok v)) (sym is) (valued (minus_has x at a e ∙ ap in_range (sym same) ∙ h))
  minus_exact m x at a z (Err f) is e same h =
      subst (λ y. IsExact y (Err f)) (sym is)
      (subst (λ g. IsExact (minus at x) (Err g)) (sym h.0) (stopped (at_minus e (ap in_range (sym same) ∙ h.1))))

  pub left_stops : (m x y : Manifest) (at : ℕ) (o : MOp) (f : ManifestFault) (r : Result ℤ ManifestFault)
      → m ≡ both at o x y
      → r ≡ Err f
      → MeetsFirst indices x f
      → IsExact m r
  left_stops m x y at o f r is e h =
      subst (IsExact m) (sym e) (subst (λ z. IsExact z (Err f)) (sym is) (stopped (in_left h)))

  pub right_stops : (m x y : Manifest) (at : ℕ) (o : MOp) (a : ℤ) (f : ManifestFault) (r : Result ℤ ManifestFault)
      → m ≡ both at o x y
      → manifest_value indices x ≡ Some a
      → r ≡ Err f
      → MeetsFirst indices y f
      → IsExact m r
  right_stops m x y at o a f r is d e h =
      subst (IsExact m) (sym e) (subst (λ z. IsExact z (Err f)) (sym is) (stopped (in_right d h)))

  pub both_exact : (m x y : Manifest) (at : ℕ) (o : MOp) (a b z : ℤ) (r : Result ℤ ManifestFault)
      → m ≡ both at o x y
      → manifest_value indices x ≡ Some a
      → manifest_value indices y ≡ Some b
      → z ≡ combined o a b
      → IsRanged z r
      → IsExact m r
  both_exact m x y at o a b z (Ok v) is d e sum h =
      subst (λ z. IsExact z (Ok v)) (sym is) (valued (both_has o x y at a b d e ∙ ap in_range (sym sum) ∙ h))
  both_exact m x y at o a b z (Err f) is d e sum h =
      subst (λ z. IsExact z (Err f)) (sym is)
      (subst (λ g. IsExact (both at o x y) (Err g)) (sym h.0) (stopped (at_operator d e (ap in_range (sym sum) ∙ h.1))))
