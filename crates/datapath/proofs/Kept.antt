-- What is known of a datapath's parts where reading them found no fault.
use Rattle.std.proofs.Common.{◌≡◌, ◌≢◌, ℕ, suc, zero, Bool, true, false, List, [], ◌∷◌, ◌++◌, length, Option, Some}
use Rattle.std.proofs.Common.{None, option_map, Result, Ok, Err, if◌then◌else◌, refl, ap, sym, ◌∙◌, subst, append_assoc}
use Rattle.std.proofs.Common.{arith}
use Rattle.std.specs.List.{All, AllZip, list_any}
use Rattle.std.specs.Option.{ok_or}
use Rattle.std.proofs.lemmas.Bool.{false≢true}
use Rattle.std.proofs.lemmas.Bool.Decides.{nat_tests}
use Rattle.std.proofs.lemmas.List.{append-nil}
use Rattle.std.proofs.lemmas.List.Folds.{list_any_at}
use Rattle.std.proofs.lemmas.List.Quantifiers.{all_pairs_push}
use Rattle.toml.specs.Data.{Data, Items, no_items, item, Members, string, integer, float, boolean, datetime, array}
use Rattle.toml.specs.Data.{table, get_member}
use Rattle.datapath.specs.declared.fault.Section.{Section}
use Rattle.datapath.specs.declared.fault.Misfit.{Misfit}
use Rattle.datapath.specs.declared.fault.Misfit.TheVariants as misfit
use Rattle.datapath.specs.declared.fault.PathFault.{PathFault}
use Rattle.datapath.specs.Values.{Judge, is_within, join, entries, array_of, counted, array_within}
use Rattle.datapath.specs.Table.{Row}
use Rattle.datapath.specs.Reading.{Read, ◌>>=◌, judged, absent, found, key, where_has, in_turn}
use Rattle.datapath.specs.Allowed.{IsWithin, IsDistinct}

pub bind_ok : {A B : Type 0} (r : Read A) (f : A → Read B) (y : B)
    → (r >>= f) ≡ Ok y
    → (x : A) × (r ≡ Ok x) × (f x ≡ Ok y)
bind_ok (Ok x) f y h = (x, refl, h)
bind_ok (Err e) f y h = absurd (cc)

pub same_Ok : {A : Type 0} (x y : A) → ◌≡◌ {A = Read A} (Ok x) (Ok y) → x ≡ y
same_Ok x y h = cc

pub passes : {A : Type 0} (b : Bool) (x y : A) (e : PathFault)
    → ◌≡◌ {A = Read A} (if b then Err e else Ok x) (Ok y)
    → (b ≡ false) × (x ≡ y)
passes true x y e h = absurd (cc)
passes false x y e h = (refl, same_Ok x y h)

pub some_of : {A : Type 0} (o : Option A) (e : PathFault) (x : A) → ◌≡◌ {A = Read A} (ok_or o e) (Ok x) → o ≡ Some x
some_of (Some y) e x h = ap Some (same_Ok y x h)
some_of None e x h = absurd (cc)

pub has_row : {A : Type 0} (b : Bool) (row : Read A) (none x : A)
    → where_has b row none ≡ Ok x
    → (b ≡ true → row ≡ Ok x) × (b ≡ false → x ≡ none)
has_row true row none x h = (λ _. h, λ e. absurd (cc))
has_row false row none x h = (λ e. absurd (cc), λ _. sym (same_Ok none x h))

module _ {A B : Type 0} (one : List B → A → Read B) where
  -- what each step keeps holds at the end
  pub turn_keeps : (P : List B → Type 0)
      → ((before : List B) (x : A) (y : B) → P before → one before x ≡ Ok y → P (before ++ y ∷ []))
      → (xs : List A) (before out : List B)
      → P before
      → in_turn one before xs ≡ Ok out
      → P out
  unfolding in_turn
  turn_keeps P step [] before out p h = subst P (same_Ok before out h) p
  turn_keeps P step (x ∷ xs) before out p h =
      let (y, e, h1) = bind_ok (one before x) _ out h in
      turn_keeps P step xs (before ++ y ∷ []) out (step before x y p e) h1

  zips_from : (R : A → B → Type 0)
      → ((before : List B) (x : A) (y : B) → one before x ≡ Ok y → R x y)
      → (xs : List A) (before out : List B)
      → in_turn one before xs ≡ Ok out
      → (new : List B) × (out ≡ before ++ new) × AllZip R xs new
  unfolding in_turn
  zips_from R each [] before out h = ([], sym (same_Ok before out h) ∙ sym (append-nil before), tt)
  zips_from R each (x ∷ xs) before out h =
      let (y, e, h1) = bind_ok (one before x) _ out h in
      let (new, is, all) = zips_from R each xs (before ++ y ∷ []) out h1 in
      (y ∷ new, is ∙ append_assoc before (y ∷ []) new, (each before x y e, all))

  -- place by place
  pub turn_zips : (R : A → B → Type 0)
      → ((before : List B) (x : A) (y : B) → one before x ≡ Ok y → R x y)
      → (xs : List A) (out : List B)
      → in_turn one [] xs ≡ Ok out
      → AllZip R xs out
  turn_zips R each xs out h = let (new, is, all) = zips_from R each xs [] out h in subst (AllZip R xs) (sym is) all

pub zip_same : {A : Type 0} (xs ys : List A) → AllZip (λ x y. x ≡ y) xs ys → ys ≡ xs
zip_same [] [] all = refl
zip_same [] (y ∷ ys) all = absurd all
zip_same (x ∷ xs) [] all = absurd all
zip_same (x ∷ xs) (y ∷ ys) all = let here = all.0 in let rest = zip_same xs ys all.1 in cc

pub distinct_none : {A : Type 0} → IsDistinct {A = A} []
distinct_none i j d below within = absurd (omega arith)

-- one more that a test does not find among them
pub distinct_push : {A : Type 0} (p : A → Bool) (xs : List A) (y : A)
    → ((x : A) → x ≡ y → p x ≡ true)
    → list_any p xs ≡ false
    → IsDistinct xs
    → IsDistinct (xs ++ y ∷ [])
distinct_push p xs y finds none pairs =
    all_pairs_push (λ a b. a ≢ b) xs y pairs
    (λ k d within same. false≢true (sym none ∙ list_any_at p xs k d within (finds _ same)))

pub All-cons : {A : Type 0} (P : A → Type 0) (x : A) (xs : List A) → P x → All P xs → All P (x ∷ xs)
All-cons P x xs here rest zero d within = here
All-cons P x xs here rest (suc k) d within = rest k d (omega arith)

pub within : (least most n : ℕ) → is_within least most n ≡ true → IsWithin least most n
within least most n h = (grind (arith, nat_tests), grind (arith, nat_tests))

pub if_within : {A : Type 0} (b : Bool) (x y : A)
    → ◌≡◌ {A = Result A Misfit} (if b then Ok x else Err misfit.Range) (Ok y)
    → (b ≡ true) × (x ≡ y)
if_within true x y h = (refl, (cc))
if_within false x y h = absurd (cc)

pub absent_ok : {A : Type 0} (s : Section) (o : Option A) (x : A) → absent s o ≡ Ok x → o ≡ Some x
absent_ok s (Some y) x h = ap Some (same_Ok y x h)
absent_ok s None x h = absurd (cc)

pub judged_ok : {A : Type 0} (s : Section) (r : Result A Misfit) (x : A) → judged s r ≡ Ok x → r ≡ Ok x
judged_ok s (Ok y) x h = cc
judged_ok s (Err misfit.WrongKind) x h = absurd (cc)
judged_ok s (Err misfit.Range) x h = absurd (cc)

found_ok : {A : Type 0} (s : Section) (default : Option A) (judge : Judge A) (o : Option Data) (x : A)
    → found s default (option_map judge o) ≡ Ok x
    → (P : A → Type 0)
    → ((d : Data) (y : A) → judge d ≡ Ok y → P y)
    → ((y : A) → default ≡ Some y → P y)
    → P x
found_ok s default judge None x h P value none = none x (absent_ok s default x h)
found_ok s default judge (Some d) x h P value none = value d x (judged_ok s (judge d) x h)

-- what holds of each value of a row and of its default holds of what is read
pub key_ok : {A : Type 0} (s : Section) (t : Members) (r : Row A) (x : A)
    → key s t r ≡ Ok x
    → (P : A → Type 0)
    → ((d : Data) (y : A) → r.value d ≡ Ok y → P y)
    → ((y : A) → r.default ≡ Some y → P y)
    → P x
unfolding key
key_ok s t r x h P value none = found_ok s r.default r.value (get_member r.key t) x h P value none

join_ok : {A : Type 0} (r : Result A Misfit) (rest : Result (List A) Misfit) (xs : List A)
    → join r rest ≡ Ok xs
    → (y : A) × (ys : List A) × (r ≡ Ok y) × (rest ≡ Ok ys) × (y ∷ ys ≡ xs)
join_ok (Ok x) (Ok ys) xs h = (x, ys, refl, refl, (cc))
join_ok (Ok x) (Err e) xs h = absurd (cc)
join_ok (Err misfit.WrongKind) rest xs h = absurd (cc)
join_ok (Err misfit.Range) (Ok ys) xs h = absurd (cc)
join_ok (Err misfit.Range) (Err e) xs h = absurd (cc)

entries_ok : {A : Type 0} (judge : Judge A) (P : A → Type 0)
    → ((d : Data) (x : A) → judge d ≡ Ok x → P x)
    → (ds : Items) (xs : List A)
    → entries judge ds ≡ Ok xs
    → All P xs
entries_ok judge P each no_items xs h =
    let none : [] ≡ xs = cc in subst (All P) none (λ k d within. absurd (omega arith))
entries_ok judge P each (item d ds) xs h =
    let (y, ys, here, rest, is) = join_ok (judge d) (entries judge ds) xs h in
    subst (All P) is (All-cons P y ys (each d y here) (entries_ok judge P each ds ys rest))

pub array_ok : {A : Type 0} (judge : Judge A) (P : A → Type 0)
    → ((d : Data) (x : A) → judge d ≡ Ok x → P x)
    → (d : Data) (xs : List A)
    → array_of judge d ≡ Ok xs
    → All P xs
array_ok judge P each (array ds) xs h = entries_ok judge P each ds xs h
array_ok judge P each (string s) xs h = absurd (cc)
array_ok judge P each (integer z) xs h = absurd (cc)
array_ok judge P each (float f) xs h = absurd (cc)
array_ok judge P each (boolean b) xs h = absurd (cc)
array_ok judge P each (datetime t) xs h = absurd (cc)
array_ok judge P each (table ms) xs h = absurd (cc)

pub counted_ok : {A : Type 0} (least most : ℕ) (r : Result (List A) Misfit) (xs : List A)
    → counted least most r ≡ Ok xs
    → IsWithin least most (length xs) × (r ≡ Ok xs)
counted_ok least most (Err e) xs h = absurd (cc)
counted_ok least most (Ok ys) xs h =
    let (holds, is) = if_within (is_within least most (length ys)) ys xs h in
    (subst (λ (zs : List _). IsWithin least most (length zs)) is (within least most (length ys) holds), (cc))

pub within_ok : {A : Type 0} (least most : ℕ) (judge : Judge A) (d : Data) (xs : List A)
    → array_within least most judge d ≡ Ok xs
    → IsWithin least most (length xs) × (array_of judge d ≡ Ok xs)
within_ok least most judge d xs h = counted_ok least most (array_of judge d) xs h
