-- A key is read as the value that the table has for it, and lists are read element by element.
use Rattle.std.proofs.Common.{◌≡◌, ℕ, suc, zero, ◌<◌, Bool, true, false, List, [], ◌∷◌, ◌++◌, length, length-append}
use Rattle.std.proofs.Common.{map, get_or, Option, Some, None, option_map, Ok, Err, if◌then◌else◌, refl, ap, sym, ◌∙◌}
use Rattle.std.proofs.Common.{append_assoc, inl, inr, arith}
use Rattle.std.specs.Prelude.{slice_get, IsSomeAnd, MatchOption, position}
use Rattle.std.specs.List.{AllZip, list_any}
use Rattle.std.proofs.lemmas.Bool.{cases_Bool}
use Rattle.std.proofs.lemmas.Bool.Decides.{nat_tests}
use Rattle.std.proofs.lemmas.List.{append-nil, get_or_append_left, get_or_at}
use Rattle.std.proofs.lemmas.List.Folds.{list_any_none}
use Rattle.std.proofs.lemmas.List.Sums.{position_or_len_is}
use Rattle.toml.specs.Data.{Data, Members, get_member}
use Rattle.datapath.specs.declared.fault.Section.{Section}
use Rattle.datapath.specs.declared.fault.PathFault.{PathFault}
use Rattle.datapath.specs.Values.{Judge}
use Rattle.datapath.specs.Table.{Row}
use Rattle.datapath.specs.Reading.{Read, ◌>>=◌, found, keys_among, key, only, where_has, in_turn}
use Rattle.datapath.specs.Allowed.{IsDistinct}
use Rattle.datapath.specs.Described.{IsValue, HasOnly}
use Rattle.datapath.proofs.Kept.{absent_ok, judged_ok}

module _ {A : Type 0} (s : Section) where
  value_found : (default : Option A) (judge : Judge A) (o : Option Data) (x : A)
      → found s default (option_map judge o) ≡ Ok x
      → MatchOption o (default ≡ Some x) (λ d. judge d ≡ Ok x)
  value_found default judge None x h = absent_ok s default x h
  value_found default judge (Some d) x h = judged_ok s (judge d) x h

  found_value : (default : Option A) (judge : Judge A) (o : Option Data) (x : A)
      → MatchOption o (default ≡ Some x) (λ d. judge d ≡ Ok x)
      → found s default (option_map judge o) ≡ Ok x
  found_value default judge None x h = rw h refl
  found_value default judge (Some d) x h = rw h refl

  pub value_of_key : (t : Members) (r : Row A) (x : A) → key s t r ≡ Ok x → IsValue r t x
  unfolding key
  value_of_key t r x h = value_found r.default r.value (get_member r.key t) x h

  pub key_of_value : (t : Members) (r : Row A) (x : A) → IsValue r t x → key s t r ≡ Ok x
  unfolding key
  key_of_value t r x h = found_value r.default r.value (get_member r.key t) x h

if_ok : (b : Bool) (e : PathFault) (u : Unit {0})
    → ◌≡◌ {A = Read (Unit {0})} (if b then Ok tt else Err e) (Ok u)
    → b ≡ true
if_ok true e u h = refl
if_ok false e u h = absurd (cc)

pub has_only : (s : Section) (t : Members) (names : List (List ℕ)) (u : Unit {0})
    → only s t names ≡ Ok u
    → HasOnly names t
unfolding only
has_only s t names u h = if_ok (keys_among names t) _ u h

pub only_has : (s : Section) (t : Members) (names : List (List ℕ)) → HasOnly names t → only s t names ≡ Ok tt
unfolding only
only_has s t names h = rw h refl

pub bind_to : {A B : Type 0} (r : Read A) (f : A → Read B) (x : A) (out : Read B)
    → r ≡ Ok x
    → f x ≡ out
    → (r >>= f) ≡ out
bind_to r f x out is rest = rw is rest

pub row_has : {A : Type 0} (b : Bool) (row : Read A) (none x : A)
    → (b ≡ true → row ≡ Ok x)
    → (b ≡ false → x ≡ none)
    → where_has b row none ≡ Ok x
row_has true row none x here other = here refl
row_has false row none x here other = ap Ok (sym (other refl))

-- what is described element by element is read in turn
module _ {A B : Type 0} (one : List B → A → Read B) (R : A → B → Type 0) (all : List B)
    (reads : (before rest : List B) (x : A) (y : B) → all ≡ before ++ y ∷ rest → R x y → one before x ≡ Ok y) where
  turns_from : (xs : List A) (before ys : List B) → all ≡ before ++ ys → AllZip R xs ys → in_turn one before xs ≡ Ok all
  unfolding in_turn
  turns_from [] before [] is zips = ap Ok (sym (is ∙ append-nil before))
  turns_from [] before (y ∷ ys) is zips = absurd zips
  turns_from (x ∷ xs) before [] is zips = absurd zips
  turns_from (x ∷ xs) before (y ∷ ys) is zips =
      bind_to (one before x) _ y _ (reads before ys x y is zips.0)
      (turns_from xs (before ++ y ∷ []) ys (is ∙ sym (append_assoc before (y ∷ []) ys)) zips.1)

  pub turns_read : (xs : List A) → AllZip R xs all → in_turn one [] xs ≡ Ok all
  turns_read xs zips = turns_from xs [] all refl zips

pub zip_map : {A B C : Type 0} (R : A → B → Type 0) (S : A → C → Type 0) (f : B → C)
    → ((x : A) (y : B) → R x y → S x (f y))
    → (xs : List A) (ys : List B)
    → AllZip R xs ys
    → AllZip S xs (map f ys)
zip_map R S f each [] [] zips = tt
zip_map R S f each [] (y ∷ ys) zips = absurd zips
zip_map R S f each (x ∷ xs) [] zips = absurd zips
zip_map R S f each (x ∷ xs) (y ∷ ys) zips = (each x y zips.0, zip_map R S f each xs ys zips.1)

pub zip_refl : {A : Type 0} (xs : List A) → AllZip (λ x y. x ≡ y) xs xs
zip_refl [] = tt
zip_refl (x ∷ xs) = (refl, zip_refl xs)

-- among elements that differ, none before this one passes a test that it alone can pass
pub none_earlier : {A : Type 0} (p : A → Bool) (before rest : List A) (y : A)
    → ((x : A) → p x ≡ true → x ≡ y)
    → IsDistinct (before ++ y ∷ rest)
    → list_any p before ≡ false
none_earlier p before rest y alone apart = list_any_none p before fails
  where
    fails : (k : ℕ) (d : _) → k < length before → p (get_or before k d) ≡ false
    fails k d within =
        elim (cases_Bool (p (get_or before k d))) [
          | inl passed ↦ absurd (apart k (length before) d within (rw (length-append before (y ∷ rest)) (omega arith))
              (get_or_append_left before (y ∷ rest) d k within ∙ alone _ passed
              ∙ sym (get_or_at before y rest d (length before) refl)))
          | inr failed ↦ failed
        ]

-- the element at a place that the test says
pub some_at : {A : Type 0} (P : A → Type 0) (xs : List A) (i : ℕ) (d : A)
    → IsSomeAnd (slice_get xs i) P
    → (i < length xs) × P (get_or xs i d)
some_at P [] i d h = absurd h
some_at P (x ∷ xs) zero d h = (omega arith, h)
some_at P (x ∷ xs) (suc i) d h = let rest = some_at P xs i d h in (omega (arith, rest.0), rest.1)

pub position_is : {A : Type 0} (p : A → Bool) (xs : List A) (i : ℕ) (d : A)
    → i < length xs
    → p (get_or xs i d) ≡ true
    → ((k : ℕ) → k < i → p (get_or xs k d) ≡ false)
    → position p xs ≡ Some i
position_is p xs i d within here before =
    let first = position_or_len_is p xs i d (omega arith) before (λ _. here) in
    rw first (grind (arith, nat_tests))
