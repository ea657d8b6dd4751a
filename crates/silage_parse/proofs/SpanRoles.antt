-- The roles of the tokens inside an expression, and outside of any: one token more, and two stretches in a row.
use Rattle.std.proofs.Common.{◌≡◌, ℕ, zero, suc, ◌+◌, ◌-◌, ◌≤◌, List, [], ◌∷◌, ◌++◌, map, drop, Some, slice_get, refl}
use Rattle.std.proofs.Common.{ap, ◌∙◌, arith, drop-drop, take-add}
use Rattle.std.specs.List.{range_with_len}
use Rattle.silage_lex.specs.declared.Token.{Token}
use Rattle.silage_syntax.specs.Grammar.{Role, Plain, weight_role, weights, plain}

map_append : {A B : Type 0} (f : A → B) (xs ys : List A) → map f (xs ++ ys) ≡ map f xs ++ map f ys
map_append f [] ys = refl
map_append f (x ∷ xs) ys = ap (λ zs. f x ∷ zs) (map_append f xs ys)

pub weights_none : (ts : List Token) (i : ℕ) → weights ts i i ≡ []
weights_none ts i = let e : i - i ≡ 0 = omega arith in rw e refl

-- what is at i begins what is dropped there
drop_first : (ts : List Token) (i : ℕ) {t : Token} → slice_get ts i ≡ Some t → drop i ts ≡ t ∷ drop (i + 1) ts
drop_first [] i h = cc
drop_first (x ∷ xs) zero h = cc
drop_first (x ∷ xs) (suc i) {t = t} h =
    let e : suc (i + 1) ≡ suc i + 1 = omega arith in drop_first xs i h ∙ ap (λ (n : ℕ). t ∷ drop n (x ∷ xs)) e

pub weights_more : (ts : List Token) (i j : ℕ) {t : Token}
    → slice_get ts i ≡ Some t
    → i + 1 ≤ j
    → weights ts i j ≡ weight_role t ∷ weights ts (i + 1) j
weights_more ts i j {t} h w =
    let e : j - i ≡ suc (j - (i + 1)) = omega arith in
    rw (drop_first ts i h, e) refl

pub weights_both : (ts : List Token) {i j k : ℕ} → i ≤ j → j ≤ k → weights ts i k ≡ weights ts i j ++ weights ts j k
weights_both ts {i} {j} {k} h w =
    let e : k - i ≡ (j - i) + (k - j) = omega arith in
    let f : i + (j - i) ≡ j = omega arith in
    let d : drop (j - i) (drop i ts) ≡ drop j ts = drop-drop (j - i) i ts ∙ ap (λ (n : ℕ). drop n ts) f in
    rw (e, take-add, map_append, d) refl

plains : ℕ → List Role
plains zero = []
plains (suc n) = Plain ∷ plains n

plain_is : (i n : ℕ) → map (λ _. Plain) (range_with_len i n) ≡ plains n
unfolding plains
plain_is i zero = refl
plain_is i (suc n) = ap (λ zs. Plain ∷ zs) (plain_is (i + 1) n)

plains_add : (n m : ℕ) → plains (n + m) ≡ plains n ++ plains m
unfolding plains
plains_add zero m = ap plains (omega arith)
plains_add (suc n) m = let e : suc n + m ≡ suc (n + m) = omega arith in rw e (ap (λ zs. Plain ∷ zs) (plains_add n m))

pub plain_none : (i : ℕ) → plain i i ≡ []
plain_none i = let e : i - i ≡ 0 = omega arith in rw e refl

pub plain_more : (i j : ℕ) → i + 1 ≤ j → plain i j ≡ Plain ∷ plain (i + 1) j
plain_more i j w = let e : j - i ≡ suc (j - (i + 1)) = omega arith in rw e refl

pub plain_both : {i j k : ℕ} → i ≤ j → j ≤ k → plain i k ≡ plain i j ++ plain j k
plain_both {i} {j} {k} h w =
    let e : k - i ≡ (j - i) + (k - j) = omega arith in
    rw (plain_is i (k - i), plain_is i (j - i), plain_is j (k - j), e, plains_add) refl
