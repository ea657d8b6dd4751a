-- Counting in lists.
use Rattle.std.proofs.Common.{◌≡◌, ◌<◌, ◌≤◌, ◌∙◌, refl, sym, arith, suc, ◌+◌, Bool, true, false, cond, List, [], ◌∷◌}
use Rattle.std.proofs.Common.{count_by}
use Rattle.std.proofs.lemmas.List.Sums.{sum_by-cons}
use Rattle.micro_image.proofs.Each.{In, here, there, Each, none, more}

module _ {A : Type 0} (test : A → Bool) where
  -- one more, or as many
  pub count_by-cons : (x : A) (xs : List A) → count_by test (x ∷ xs) ≡ cond (test x) 1 0 + count_by test xs
  count_by-cons x xs = sum_by-cons (λ y. cond (test y) 1 0) x xs

  pub count_by-yes : (x : A) (xs : List A) → test x ≡ true → count_by test (x ∷ xs) ≡ suc (count_by test xs)
  count_by-yes x xs is = count_by-cons x xs ∙ rw is (omega arith)

  pub count_by-no : (x : A) (xs : List A) → test x ≡ false → count_by test (x ∷ xs) ≡ count_by test xs
  count_by-no x xs is = count_by-cons x xs ∙ rw is (omega arith)

  none_by : (x : A) (xs : List A) (b : Bool)
      → test x ≡ b
      → count_by test (x ∷ xs) ≡ 0
      → (test x ≡ false) × (count_by test xs ≡ 0)
  none_by x xs true is h = absurd (omega (arith, h, count_by-yes x xs is))
  none_by x xs false is h = (is, sym (count_by-no x xs is) ∙ h)

  -- where none is counted, each fails the test
  pub Each-uncounted : (xs : List A) → count_by test xs ≡ 0 → Each (λ x. test x ≡ false) xs
  Each-uncounted [] h = none
  Each-uncounted (x ∷ xs) h =
      let both : (test x ≡ false) × (count_by test xs ≡ 0) = none_by x xs (test x) refl h in
      more both.0 (Each-uncounted xs both.1)

  counted_by : (x y : A) (xs : List A) (b : Bool) → test y ≡ b → 0 < count_by test xs → 0 < count_by test (y ∷ xs)
  counted_by x y xs true is h = omega (arith, count_by-yes y xs is)
  counted_by x y xs false is h = omega (arith, h, count_by-no y xs is)

  -- an element that passes is counted
  pub counted : (x : A) {xs : List A} → In x xs → test x ≡ true → 0 < count_by test xs
  counted x (here {xs = xs}) is = omega (arith, count_by-yes x xs is)
  counted x (there {y = y} {xs = xs} k) is = counted_by x y xs (test y) refl (counted x k is)

  fewer_by : (x : A) (xs : List A) (b : Bool) → test x ≡ b → count_by test xs ≤ count_by test (x ∷ xs)
  fewer_by x xs true is = omega (arith, count_by-yes x xs is)
  fewer_by x xs false is = omega (arith, count_by-no x xs is)

  pub count_by-less : (x : A) (xs : List A) → count_by test xs ≤ count_by test (x ∷ xs)
  count_by-less x xs = fewer_by x xs (test x) refl
