-- What holds of each element of a list.
use Rattle.std.proofs.Common.{◌≡◌, ◌&&◌, ℕ, zero, suc, List, [], ◌∷◌, slice_get, Some, IsTrue, Bool, true, false, subst}
use Rattle.std.proofs.Common.{refl}
use Rattle.std.specs.List.{list_all}

first_true : (a b : Bool) → IsTrue (a && b) → IsTrue a
first_true true b h = refl
first_true false b h = h

second_true : (a b : Bool) → IsTrue (a && b) → IsTrue b
second_true true b h = h
second_true false b h = absurd (cc)

-- one of those that all pass passes
pub all_pass : {A : Type 0} (test : A → Bool) (xs : List A) (k : ℕ) (x : A)
    → IsTrue (list_all test xs)
    → slice_get xs k ≡ Some x
    → IsTrue (test x)
all_pass test [] k x all e = absurd (cc)
all_pass test (y ∷ ys) zero x all e =
    let same : y ≡ x = cc in subst (λ z. IsTrue (test z)) same (first_true (test y) (list_all test ys) all)
all_pass test (y ∷ ys) (suc k) x all e = all_pass test ys k x (second_true (test y) (list_all test ys) all) e
