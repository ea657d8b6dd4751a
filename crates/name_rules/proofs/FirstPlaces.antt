-- The place of a name in a list of names, and duplicate names.
use Rattle.std.proofs.Common.{◌≡◌, ℕ, ◌+◌, ◌<◌, ◌≤◌, Bool, true, false, cond, List, [], ◌∷◌, ◌++◌, Option, Some, None}
use Rattle.std.proofs.Common.{length, get_or, take, refl, sym, ap, subst, ◌∙◌, arith, inl, inr, map, nat_lt}
use Rattle.std.specs.Prelude.{◌↔◌, ◌⊎◌, Contains, slice_get, bytes_eq, option_map, if◌then◌else◌}
use Rattle.std.specs.List.{position_or_len, list_any}
use Rattle.std.proofs.lemmas.Bool.{cases_lt, cases_eq, ltb-false}
use Rattle.std.proofs.lemmas.List.{length-take, get_or-take, take_more, take_all, length-map}
use Rattle.std.proofs.lemmas.List.Quantifiers.{position-Some}
use Rattle.std.proofs.lemmas.List.Sums.{fails_before_first}
use Rattle.std.proofs.lemmas.Map.Views.{Contains-from_any, list_any-from_Contains}
use Rattle.std.proofs.lemmas.Option.{slice_get-get_or, slice_get_within, get_or_from_slice_get, slice_get-map}
use Rattle.std.proofs.lemmas.Option.{slice_get_read}
use Rattle.std.proofs.lemmas.Slice.Eq.{bytes_eq-Decides}
use Rattle.std.proofs.lemmas.Cmp.{nat_list_eq_equiv}
use Rattle.silage_syntax.specs.declared.tree.Top.{Top as RustTop}
use Rattle.silage_syntax.specs.Tree.{Top, Program, view_top}
use Rattle.name_rules.specs.declared.fault.NameFault.{NameFault}
use Rattle.name_rules.specs.declared.fault.NameFault.TheVariants.{Twice}
use Rattle.name_rules.specs.TopNames.{top_name, top_at, top_names, IsFirstPlace, IsDuplicate}
use Rattle.name_rules.specs.FirstTops.{IsDistinct, IsFirstDuplicate}
use Rattle.name_rules.specs.Private.CallLists.{place}
use Rattle.lists.proofs.Places.{some_once, contains_at}

-- a place in the first i is a place in the list
pub in_front : {A : Type 0} (xs : List A) (i j : ℕ) (x : A) → j < i → slice_get xs j ≡ Some x → Contains (take i xs) x
in_front xs i j x below e =
    let within : j < length xs = slice_get_within xs j x e in
    let size : length (take i xs) ≡ _ = length-take i xs in
    (j, omega arith, get_or-take i xs j x below ∙ get_or_from_slice_get xs j x x e)

pub from_front : {A : Type 0} (xs : List A) (i : ℕ) (x : A)
    → Contains (take i xs) x
    → (j : ℕ) × (j < i) × (slice_get xs j ≡ Some x)
from_front xs i x (j, within, at) =
    let size = length-take i xs in
    let below : j < i = omega (arith, length-take i xs) in
    let inside : j < length xs = omega (arith, length-take i xs) in
    (j, below, slice_get-get_or xs j x inside ∙ ap Some (sym (get_or-take i xs j x below) ∙ at))

passes_itself : (name : List ℕ) → bytes_eq name name ≡ true
passes_itself name = (bytes_eq-Decides name name).1 refl

-- the position that a test finds is the first place
pub first_place : (names : List (List ℕ)) (name : List ℕ) (k : ℕ)
    → place names name ≡ Some k
    → IsFirstPlace names name k
first_place names name k e =
    let found = position-Some (bytes_eq name) names k name e in
    let at : get_or names k name ≡ name = sym ((bytes_eq-Decides name (get_or names k name)).0 found.1) in
    record {
      here = slice_get-get_or names k name found.0 ∙ ap Some at;
      least = λ j there. elim (cases_lt j k) [
        | inl below ↦
            let fails = found.2 j below in
            let same = get_or_from_slice_get names j name name there in
            absurd (contradiction _ (passes_itself name) (ap (bytes_eq name) (sym same) ∙ fails))
        | inr above ↦ above
      ];
    }
  where
    contradiction : (b : Bool) → b ≡ true → b ≡ false → ⊥
    contradiction b t f = cc

-- where the test finds none, the name is not there
pub no_place : (names : List (List ℕ)) (name : List ℕ) → place names name ≡ None → ¬ Contains names name
no_place names name e (k, within, at) =
    let past : length names ≤ position_or_len (bytes_eq name) names =
    ltb-false _ _ (failed _ (nat_lt (position_or_len (bytes_eq name) names) (length names)) e) in
    let fails = fails_before_first (bytes_eq name) names k name (omega arith) in
    contradiction _ (passes_itself name) (ap (bytes_eq name) (sym at) ∙ fails)
  where
    failed : (n : ℕ) (b : Bool) → cond b (Some n) None ≡ None → b ≡ false
    failed n true h = cc
    failed n false h = refl

    contradiction : (b : Bool) → b ≡ true → b ≡ false → ⊥
    contradiction b t f = cc

cases_option : {A : Type 0} (o : Option A) → ((x : A) × (o ≡ Some x)) ⊎ (o ≡ None)
cases_option None = inr refl
cases_option (Some x) = inl (x, refl)

-- and the other way round
pub place_found : (names : List (List ℕ)) (name : List ℕ) (k : ℕ)
    → IsFirstPlace names name k
    → place names name ≡ Some k
place_found names name k h = elim (cases_option (place names name)) [
  | inl found ↦
      let f = first_place names name found.0 found.1 in
      let low : found.0 ≤ k = f.least k h.here in
      let high : k ≤ found.0 = h.least found.0 f.here in
      let same : found.0 ≡ k = omega arith in
      found.1 ∙ ap Some same
  | inr none ↦ absurd (no_place names name none (contains_at names k name h.here))
]

pub place_missing : (names : List (List ℕ)) (name : List ℕ) → ¬ Contains names name → place names name ≡ None
place_missing names name h = elim (cases_option (place names name)) [
  | inl found ↦ absurd (h (contains_at names found.0 name (first_place names name found.0 found.1).here))
  | inr none ↦ none
]

-- what the clauses of the look-up say
pub record IsAnswer (names : List (List ℕ)) (name : List ℕ) (r : Option ℕ) : Type 0 where
  pub some : (k : ℕ) → (r ≡ Some k) ↔ IsFirstPlace names name k
  pub none : (r ≡ None) ↔ ¬ Contains names name

pub answered : (names : List (List ℕ)) (name : List ℕ) (r : Option ℕ) → r ≡ place names name → IsAnswer names name r
answered names name r e = record {
  some = λ k. ((λ h. first_place names name k (sym e ∙ h)), (λ h. e ∙ place_found names name k h));
  none = ((λ h. no_place names name (sym e ∙ h)), (λ h. e ∙ place_missing names name h));
}

-- the first i names are kept, and none of them stands before itself
pub record IsKept (all : List (List ℕ)) (i : ℕ) (names : List (List ℕ)) : Type 0 where
  pub same : names ≡ take i all
  pub apart : (k : ℕ) → k < i → ¬ IsDuplicate all k

pub none_kept : (all names : List (List ℕ)) → names ≡ [] → IsKept all 0 names
none_kept all names e = record { same = e; apart = λ k below. absurd (omega arith) }

-- a name that is not kept yet is kept behind the others
pub kept_more : (all : List (List ℕ)) (i : ℕ) (name : List ℕ) (names names' : List (List ℕ))
    → slice_get all i ≡ Some name
    → list_any (bytes_eq name) names ≡ false
    → names' ≡ (if list_any (bytes_eq name) names then names else names ++ name ∷ [])
    → IsKept all i names
    → IsKept all (i + 1) names'
kept_more all i name names names' here new is h = record {
  same = is ∙ ap (λ (b : Bool). if b then names else names ++ name ∷ []) new ∙ ap (λ xs. xs ++ name ∷ []) h.same
      ∙ ap (λ x. take i all ++ x ∷ []) (sym (get_or_from_slice_get all i name name here))
      ∙ sym (take_more all i name (slice_get_within all i name here));
  apart = λ k below double. elim (cases_eq k i) [
    | inl same ↦
        let at : slice_get all i ≡ Some double.name = ap (slice_get all) (sym same) ∙ double.here in
        let it : double.name ≡ name = some_once at here in
        let earlier : Contains (take i all) double.name =
        in_front all i double.earlier double.name (let b = double.before in omega arith) double.there in
        let P : List ℕ → Type 0 = λ x. Contains (take i all) x in
        let there : Contains names name = subst (λ xs. Contains xs name) (sym h.same) (subst P it earlier) in
        contradiction _ (list_any-from_Contains nat_list_eq_equiv name names there) new
    | inr other ↦ h.apart k (omega arith) double
  ];
}
  where
    contradiction : (b : Bool) → b ≡ true → b ≡ false → ⊥
    contradiction b t f = cc

-- with all names kept, none stands twice
pub kept_all : (all : List (List ℕ)) (i : ℕ) (names : List (List ℕ))
    → length all ≤ i
    → IsKept all i names
    → (names ≡ all) × IsDistinct all
kept_all all i names past h = (
  h.same ∙ take_all i all past,
  λ k double. h.apart k (let within = slice_get_within all k double.name double.here in omega arith) double,
)

-- a name that is kept already stands twice, and is the first that does
pub kept_twice : (p : Program) (i : ℕ) (top : Top) (names : List (List ℕ)) (fault : NameFault)
    → slice_get p.tops i ≡ Some top
    → list_any (bytes_eq (top_name top)) names ≡ true
    → fault ≡ Twice (top_at top)
    → IsKept (top_names p) i names
    → IsFirstDuplicate p fault
kept_twice p i top names fault stands there told h =
    let all = top_names p in
    let here : slice_get all i ≡ Some (top_name top) =
    slice_get-map top_name p.tops i ∙ ap (option_map top_name) stands in
    let kept : Contains names (top_name top) =
    Contains-from_any (λ x y t. (bytes_eq-Decides x y).0 t) (top_name top) names there in
    let earlier = from_front all i (top_name top) (subst (λ xs. Contains xs (top_name top)) h.same kept) in
    record {
      place = i;
      duplicate =
          record { name = top_name top; here = here; earlier = earlier.0; before = earlier.1; there = earlier.2 };
      first = λ k double. elim (cases_lt k i) [ inl below ↦ absurd (h.apart k below double) | inr above ↦ above ];
      top = top;
      stands = stands;
      told = told;
    }

-- the top at an index, as the tree shows it
pub top_stands : (tops : List RustTop) (i : ℕ) (x : RustTop)
    → i < length tops
    → x ≡ get_or tops i x
    → slice_get (map view_top tops) i ≡ Some (view_top x)
top_stands tops i x within is =
    slice_get-map view_top tops i ∙ ap (option_map view_top) (slice_get_read tops (length tops) i x refl within is)

pub name_stands : (tops : List RustTop) (i : ℕ) (x : RustTop)
    → i < length tops
    → x ≡ get_or tops i x
    → slice_get (map top_name (map view_top tops)) i ≡ Some (top_name (view_top x))
name_stands tops i x within is =
    slice_get-map top_name (map view_top tops) i ∙ ap (option_map top_name) (top_stands tops i x within is)

pub names_length : (tops : List RustTop) → length (map top_name (map view_top tops)) ≡ length tops
names_length tops = length-map (map view_top tops) top_name ∙ length-map tops view_top
