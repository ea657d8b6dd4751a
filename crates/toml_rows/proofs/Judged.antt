-- What is known of a value that its key may have.
use Rattle.std.proofs.Common.{◌≡◌, ℕ, zero, suc, ◌+◌, ◌≤◌, ◌<◌, Bool, true, false, nat_le, List, [], ◌∷◌, length}
use Rattle.std.proofs.Common.{get_or}
use Rattle.std.proofs.Common.{pos, negsuc, Option, Some, None, Result, Ok, Err, if◌then◌else◌, refl, ap, arith, subst}
use Rattle.std.proofs.Common.{sym}
use Rattle.std.specs.Prelude.{MatchOption}
use Rattle.std.specs.List.{All}
use Rattle.std.proofs.lemmas.Bool.{cases_Bool, and_parts}
use Rattle.std.proofs.lemmas.Bool.Decides.{nat_tests}
use Rattle.toml.specs.Data.{Data, Items, no_items, item, Members, string, integer, float, boolean, datetime, array}
use Rattle.toml.specs.Data.{table}
use Rattle.toml.specs.Data.{get_member}
use Rattle.toml_rows.specs.declared.misfit.Misfit.{Misfit}
use Rattle.toml_rows.specs.declared.misfit.Misfit.TheVariants.{WrongKind, Range}
use Rattle.toml_rows.specs.Rows.{Row, IsValue}
use Rattle.toml_rows.specs.Values.{Judge, is_within, whole, join, entries, array_of, counted, array_within}

pub within_is : (least most n : ℕ) → is_within least most n ≡ true → (least ≤ n) × (n ≤ most)
within_is least most n h =
    let (low, high) = and_parts (nat_le least n) (nat_le n most) h in
    (grind (arith, nat_tests), grind (arith, nat_tests))

if_ok : {A : Type 0} (b : Bool) (x y : A) (e : Misfit)
    → ◌≡◌ {A = Result A Misfit} (if b then Ok x else Err e) (Ok y)
    → (b ≡ true) × (x ≡ y)
if_ok true x y e h = (refl, cc)
if_ok false x y e h = absurd (cc)

-- a value of a row is its default, or what the row takes a member of the table for
pub value_is : {A : Type 0} (P : A → Type 0) (r : Row A) (t : Members) (x : A)
    → IsValue r t x
    → (r.default ≡ Some x → P x)
    → ((d : Data) → r.value d ≡ Ok x → P x)
    → P x
value_is P r t x is default value = by (get_member r.key t) is
  where
    by : (o : Option Data) → MatchOption o (r.default ≡ Some x) (λ d. r.value d ≡ Ok x) → P x
    by None h = default h
    by (Some d) h = value d h

pub whole_within : (least most : ℕ) (d : Data) (n : ℕ) → whole least most d ≡ Ok n → (least ≤ n) × (n ≤ most)
whole_within least most (integer (pos m)) n h =
    let (test, same) = if_ok (is_within least most m) m n Range h in
    subst (λ (k : ℕ). (least ≤ k) × (k ≤ most)) same (within_is least most m test)
whole_within least most (integer (negsuc m)) n h = absurd (cc)
whole_within least most (string s) n h = absurd (cc)
whole_within least most (float x) n h = absurd (cc)
whole_within least most (boolean b) n h = absurd (cc)
whole_within least most (datetime t) n h = absurd (cc)
whole_within least most (array ds) n h = absurd (cc)
whole_within least most (table t) n h = absurd (cc)

module _ {A : Type 0} (P : A → Type 0) (judge : Judge A) (each : (d : Data) (x : A) → judge d ≡ Ok x → P x) where
  all_more : (x : A) (xs : List A) → P x → All P xs → All P (x ∷ xs)
  all_more x xs here all zero d h = here
  all_more x xs here all (suc k) d h = all k d (omega arith)

  joined : (r : Result A Misfit) (rest : Result (List A) Misfit) (xs : List A)
      → join r rest ≡ Ok xs
      → (x : A) × (ys : List A) × (r ≡ Ok x) × (rest ≡ Ok ys) × (x ∷ ys ≡ xs)
  joined (Err WrongKind) rest xs h = absurd (cc)
  joined (Ok x) (Ok ys) xs h = (x, ys, refl, refl, cc)
  joined (Ok x) (Err e) xs h = absurd (cc)
  joined (Err Range) (Err e) xs h = absurd (cc)
  joined (Err Range) (Ok ys) xs h = absurd (cc)

  pub entries_each : (ds : Items) (xs : List A) → entries judge ds ≡ Ok xs → All P xs
  entries_each no_items xs h =
      let same : [] ≡ xs = cc in
      subst (All P) same (λ k d low. absurd (omega arith))
  entries_each (item d ds) xs h =
      let (x, ys, is, rest, same) = joined (judge d) (entries judge ds) xs h in
      subst (All P) same (all_more x ys (each d x is) (entries_each ds ys rest))

  counted_is : (least most : ℕ) (r : Result (List A) Misfit) (xs : List A)
      → counted least most r ≡ Ok xs
      → (r ≡ Ok xs) × (least ≤ length xs) × (length xs ≤ most)
  counted_is least most (Err e) xs h = absurd (cc)
  counted_is least most (Ok ys) xs h =
      let (test, same) = if_ok (is_within least most (length ys)) ys xs Range h in
      let (low, high) = within_is least most (length ys) test in
      subst
      (λ (zs : List A). (◌≡◌ {A = Result (List A) Misfit} (Ok ys) (Ok zs)) × (least ≤ length zs) × (length zs ≤ most))
      same (refl, low, high)

  array_is : (d : Data) (xs : List A) → array_of judge d ≡ Ok xs → All P xs
  array_is (array ds) xs h = entries_each ds xs h
  array_is (integer n) xs h = absurd (cc)
  array_is (string s) xs h = absurd (cc)
  array_is (float x) xs h = absurd (cc)
  array_is (boolean b) xs h = absurd (cc)
  array_is (datetime t) xs h = absurd (cc)
  array_is (table t) xs h = absurd (cc)

  -- an array of so many, of which each is one
  pub array_each : (least most : ℕ) (d : Data) (xs : List A)
      → array_within least most judge d ≡ Ok xs
      → (least ≤ length xs) × (length xs ≤ most) × All P xs
  array_each least most d xs h =
      let (is, low, high) = counted_is least most (array_of judge d) xs h in
      (low, high, array_is d xs is)
