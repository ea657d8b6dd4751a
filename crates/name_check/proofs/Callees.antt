-- The positions of what items call, item by item.
use Rattle.std.proofs.Common.{◌≡◌, ℕ, ◌+◌, ◌<◌, ◌≤◌, List, [], ◌∷◌, ◌++◌, Vec, Option, length, get_or, take, refl, sym}
use Rattle.std.proofs.Common.{ap, subst, ◌∙◌, Result, Ok, Err}
use Rattle.std.specs.Prelude.{Contains, OnOk}
use Rattle.std.specs.Global.{Global}
use Rattle.std.specs.List.{flat_map, cons_option}
use Rattle.std.proofs.lemmas.Grind.{flat_map-append}
use Rattle.std.proofs.lemmas.List.{append-nil, take_more, take_all}
use Rattle.std.proofs.lemmas.List.Elements.{filter_map-append}
use mathlib.Core.List.{append_assoc}
use Rattle.silage_syntax.specs.declared.tree.Manifest.{Manifest as RustManifest}
use Rattle.silage_syntax.specs.declared.tree.Item.{Item as RustItem, Loop}
use Rattle.silage_syntax.specs.Tree.{view_item, view_items}
use Rattle.silage_syntax.proofs.Rows.{view_Loop}
use Rattle.name_rules.specs.TopNames.{IsFirstPlace}
use Rattle.name_rules.specs.Calls.{called, all_called}
use Rattle.name_rules.specs.Private.CallLists.{place, places}
use Rattle.name_rules.proofs.FirstPlaces.{place_found, place_missing}

pub loop_called : (index : List ℕ) (lo hi : RustManifest) (v : Vec RustItem Global) (at : ℕ)
    → called (view_item (Loop index lo hi v at)) ≡ all_called (view_items v.items)
loop_called index lo hi v at = ap called (view_Loop index lo hi v at)

-- what a row of items calls
abbrev pub row_called : List RustItem → List (List ℕ)
row_called xs = flat_map (λ x. called (view_item x)) xs

pub items_called : (xs : List RustItem) → all_called (view_items xs) ≡ row_called xs
items_called [] = refl
items_called (x ∷ xs) = ap (λ ys. called (view_item x) ++ ys) (items_called xs)

places_append : (names xs ys : List (List ℕ)) → places names (xs ++ ys) ≡ places names xs ++ places names ys
places_append names xs ys = filter_map-append (place names) xs ys

-- the list has grown by the places of these names
pub record AddsPlaces (names : List (List ℕ)) (calls : List ℕ) (added : List (List ℕ)) (calls' : List ℕ) : Type 0 where
  pub is : calls' ≡ calls ++ places names added

pub adds_none : (names : List (List ℕ)) (calls : List ℕ) → AddsPlaces names calls [] calls
adds_none names calls = record { is = sym (append-nil calls) }

adds_more : (names : List (List ℕ)) (calls calls' calls'' : List ℕ) (xs ys : List (List ℕ))
    → AddsPlaces names calls xs calls'
    → calls'' ≡ calls' ++ places names ys
    → AddsPlaces names calls (xs ++ ys) calls''
adds_more names calls calls' calls'' xs ys h e = record {
  is =
      e ∙ ap (λ c. c ++ places names ys) h.is ∙ append_assoc calls (places names xs) (places names ys)
      ∙ ap (λ c. calls ++ c) (sym (places_append names xs ys));
}

-- one item more
pub item_added : (names : List (List ℕ)) (calls calls' calls'' : List ℕ) (xs : List RustItem) (i : ℕ) (x : RustItem)
    → i < length xs
    → x ≡ get_or xs i x
    → AddsPlaces names calls (row_called (take i xs)) calls'
    → calls'' ≡ calls' ++ places names (called (view_item x))
    → AddsPlaces names calls (row_called (take (i + 1) xs)) calls''
item_added names calls calls' calls'' xs i x within is h e =
    let one : row_called (take i xs) ++ called (view_item x) ≡ row_called (take (i + 1) xs) =
    ap (λ ys. row_called (take i xs) ++ ys) (sym (append-nil (called (view_item x))))
    ∙ sym (flat_map-append (λ (y : RustItem). called (view_item y)) (take i xs) (x ∷ []))
    ∙ ap (λ y. row_called (take i xs ++ y ∷ [])) is ∙ ap row_called (sym (take_more xs i x within)) in
    let P : List (List ℕ) → Type 0 = λ ys. AddsPlaces names calls ys calls'' in
    subst P one (adds_more names calls calls' calls'' (row_called (take i xs)) (called (view_item x)) h e)

pub items_added : (names : List (List ℕ)) (calls calls' : List ℕ) (xs : List RustItem) (i : ℕ)
    → length xs ≤ i
    → AddsPlaces names calls (row_called (take i xs)) calls'
    → calls' ≡ calls ++ places names (all_called (view_items xs))
items_added names calls calls' xs i past h =
    h.is ∙ ap (λ ys. calls ++ places names (row_called ys)) (take_all i xs past)
    ∙ ap (λ ys. calls ++ places names ys) (sym (items_called xs))

-- a name with a place, and one without
pub has_place : (names : List (List ℕ)) (name : List ℕ) (calls : List ℕ) (k : ℕ)
    → IsFirstPlace names name k
    → calls ++ k ∷ [] ≡ calls ++ places names (name ∷ [])
has_place names name calls k h = ap (λ (o : Option ℕ). calls ++ cons_option o []) (sym (place_found names name k h))

pub has_no_place : (names : List (List ℕ)) (name : List ℕ) (calls : List ℕ)
    → ¬ Contains names name
    → calls ≡ calls ++ places names (name ∷ [])
has_no_place names name calls h =
    sym (append-nil calls) ∙ ap (λ (o : Option ℕ). calls ++ cons_option o []) (sym (place_missing names name h))

-- what the last call added is what the whole has added
pub ends : {T E : Type 0} (P Q : Type 0) (r : Result T E) → (P → Q) → OnOk r P → OnOk r Q
ends P Q (Ok x) f h = f h
ends P Q (Err e) f h = tt
