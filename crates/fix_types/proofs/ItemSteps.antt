-- Items, arguments and places are typed one after another.
use Rattle.std.proofs.Common.{◌≡◌, ◌≢◌, ◌∙◌, ◌+◌, ◌<◌, ◌≤◌, ◌++◌, ◌∷◌, [], ℕ, List, Vec, Result, Ok, Err, IsErrAnd, min}
use Rattle.std.proofs.Common.{map, drop, length, get_or, refl, sym, ap, subst, append-nil, inl, inr, arith}
use Rattle.std.specs.Prelude.{All}
use Rattle.std.specs.Global.{Global}
use Rattle.std.proofs.lemmas.Bool.{cases_lt}
use Rattle.std.proofs.lemmas.List.{drop_more, drop_all, get_or-map, length-map}
use Rattle.fault_order.specs.Rules.{parts, none}
use Rattle.fault_order.specs.Private.FirstMet.{first}
use Rattle.silage_syntax.specs.declared.tree.Decl.{Decl}
use Rattle.silage_syntax.specs.declared.tree.Expr.{Expr as RustExpr}
use Rattle.silage_syntax.specs.declared.tree.Item.{Item as RustItem, Loop}
use Rattle.silage_syntax.specs.declared.tree.Manifest.{Manifest as RustManifest}
use Rattle.silage_syntax.specs.declared.tree.Place.{Place as RustPlace}
use Rattle.silage_syntax.specs.Tree.{Items, no_item, item, loop, Place, Expr, Func, Program, view_expr, view_place}
use Rattle.silage_syntax.specs.Tree.{view_manifest, view_item, view_items}
use Rattle.silage_syntax.proofs.Rows.{view_Loop}
use Rattle.type_rules.specs.TypeRules.{item_rules, items_rules, argument_rules, place_rules}
use Rattle.type_rules.specs.TypedTree.{TypedItem, TypedExpr, items_of, view_expr as view_typed}
use Rattle.type_rules.specs.TypedTree.{view_item as view_typed_item, view_items as view_typed_items}
use Rattle.type_rules.specs.TypedTree as typed
use Rattle.type_rules.specs.Translation.{typed_item, typed_items, typed_arguments}
use Rattle.type_rules.specs.declared.fault.TypeFault.{TypeFault}
use Rattle.type_rules.specs.declared.fault.TypeFault.TheVariants.{Memory}
use Rattle.type_rules.specs.declared.typed.TypedItem.{TypedItem as RustTypedItem}
use Rattle.fix_types.specs.Private.Answers.{GivesItem, GivesItems}
use Rattle.fix_types.specs.Private.ItemLists.{typed_list}
use Rattle.type_rules.specs.Private.Sound.{IsSoundItem, AreSoundItems, HasTypedNames, HaveTypedNames}
use Rattle.fix_types.proofs.Given.{first_fails, fault_given}

loop_is : (x : RustItem) (index : List ℕ) (lo hi : RustManifest) (v : Vec RustItem Global) (at : ℕ)
    → x ≡ Loop index lo hi v at
    → view_item x ≡ loop index (view_manifest lo) (view_manifest hi) (view_items v.items) at
loop_is x index lo hi v at is = ap view_item is ∙ view_Loop index lo hi v at

module _ (p : Program) (f : Func) where
  list_is : (xs : Items) → items_of (typed_list p f xs) ≡ typed_items p f xs
  list_is no_item = refl
  list_is (item x rest) = ap (λ ys. typed.item (typed_item p f x) ys) (list_is rest)

  abbrev met : List RustItem → Result (Unit {0}) TypeFault
  met xs = first (parts (items_rules p f (view_items xs)))

  module _ (xs : List RustItem) (i : ℕ) (left : met (drop i xs) ≡ met xs) where
    item_fails : (x : RustItem)
        → i < length xs
        → x ≡ get_or xs i x
        → (e : TypeFault)
        → first (item_rules p f (view_item x)) ≡ Err e
        → met xs ≡ Err e
    item_fails x within is e h =
        let here : drop i xs ≡ x ∷ drop (i + 1) xs =
        drop_more xs i x within ∙ ap (λ (y : RustItem). y ∷ drop (i + 1) xs) (sym is) in
        sym left ∙ ap met here ∙ first_fails (first (item_rules p f (view_item x))) (met (drop (i + 1) xs)) e h

    pub items_typed : (all : Vec RustTypedItem Global)
        → length xs ≤ i
        → map view_typed_item all.items ++ typed_list p f (view_items (drop i xs)) ≡ typed_list p f (view_items xs)
        → GivesItems p f (view_items xs) (Ok all)
    items_typed all past h =
        let none : drop i xs ≡ [] = drop_all i xs past in (
          sym left ∙ ap met none,
          ap items_of
              (sym (append-nil (map view_typed_item all.items))
              ∙ ap (λ (ys : List RustItem). map view_typed_item all.items ++ typed_list p f (view_items ys)) (sym none)
              ∙ h) ∙ list_is (view_items xs),
        )

  -- the items of a loop
  module _ (x : RustItem) (index : List ℕ) (lo hi : RustManifest) (v : Vec RustItem Global) (at : ℕ)
      (is : x ≡ Loop index lo hi v at) where
    pub inner_fails : (xs : List RustItem)
        → xs ≡ v.items
        → (i : ℕ)
        → met (drop i xs) ≡ met xs
        → (y : RustItem)
        → i < length xs
        → y ≡ get_or xs i y
        → (r : Result RustTypedItem TypeFault) (e : TypeFault)
        → IsErrAnd r (λ g. g ≡ e)
        → (e ≢ Memory → first (item_rules p f (view_item y)) ≡ Err e)
        → GivesItem p f (view_item x) r
    inner_fails xs a i left y within here r e fails h =
        fault_given view_typed_item (item_rules p f (view_item x)) (typed_item p f (view_item x)) r e fails
        (λ n.
        ap (λ z. first (item_rules p f z)) (loop_is x index lo hi v at is) ∙ ap met (sym a)
        ∙ item_fails xs i left y within here e (h n))

    pub loop_typed : (xs : List RustItem)
        → xs ≡ v.items
        → (all : List RustTypedItem) (whole : RustTypedItem)
        → first (parts (items_rules p f (view_items xs))) ≡ Ok tt
        → view_typed_items all ≡ typed_items p f (view_items xs)
        → view_typed_item whole ≡ typed.loop index (view_manifest lo) (view_manifest hi) (view_typed_items all)
        → GivesItem p f (view_item x) (Ok whole)
    loop_typed xs a all whole passes t w = (
      ap (λ y. first (item_rules p f y)) (loop_is x index lo hi v at is)
          ∙ ap (λ (ys : List RustItem). first (parts (items_rules p f (view_items ys)))) (sym a) ∙ passes,
      w
          ∙ ap (λ ys. typed.loop index (view_manifest lo) (view_manifest hi) ys)
          (t ∙ ap (λ (ys : List RustItem). typed_items p f (view_items ys)) a)
          ∙ sym (ap (typed_item p f) (loop_is x index lo hi v at is)),
    )

  no_argument : (ds : List Decl) → argument_rules p f ds [] ≡ none
  no_argument [] = refl
  no_argument (d ∷ ds) = refl

  nothing_typed : (ds : List Decl) → typed_arguments p f ds [] ≡ []
  nothing_typed [] = refl
  nothing_typed (d ∷ ds) = refl

  no_place : (ds : List Decl) → place_rules p f ds [] ≡ none
  no_place [] = refl
  no_place (d ∷ ds) = refl

  -- behind the last argument, or the last parameter
  pub arguments_end : (ds : List Decl) (xs : List RustExpr) (i : ℕ)
      → min (length ds) (length xs) ≤ i
      → (argument_rules p f (drop i ds) (map view_expr (drop i xs)) ≡ none)
      × (typed_arguments p f (drop i ds) (map view_expr (drop i xs)) ≡ [])
  arguments_end ds xs i past = elim (cases_lt i (length ds)) [
    | inl below ↦
        let all : drop i xs ≡ [] = drop_all i xs (omega arith) in (
          ap (λ (ys : List RustExpr). argument_rules p f (drop i ds) (map view_expr ys)) all ∙ no_argument (drop i ds),
          ap (λ (ys : List RustExpr). typed_arguments p f (drop i ds) (map view_expr ys)) all
              ∙ nothing_typed (drop i ds),
        )
    | inr over ↦
        let all : drop i ds ≡ [] = drop_all i ds over in (
          ap (λ (cs : List Decl). argument_rules p f cs (map view_expr (drop i xs))) all,
          ap (λ (cs : List Decl). typed_arguments p f cs (map view_expr (drop i xs))) all,
        )
  ]

  pub places_end : (ds : List Decl) (xs : List RustPlace) (i : ℕ)
      → min (length ds) (length xs) ≤ i
      → place_rules p f (drop i ds) (map view_place (drop i xs)) ≡ none
  places_end ds xs i past = elim (cases_lt i (length ds)) [
    | inl below ↦
        let all : drop i xs ≡ [] = drop_all i xs (omega arith) in
        ap (λ (ys : List RustPlace). place_rules p f (drop i ds) (map view_place ys)) all ∙ no_place (drop i ds)
    | inr over ↦ ap (λ (cs : List Decl). place_rules p f cs (map view_place (drop i xs))) (drop_all i ds over)
  ]

-- the items of a loop are as the loop
pub items_sound : (x : RustItem)
    → IsSoundItem (view_item x)
    → (index : List ℕ) (lo hi : RustManifest) (v : Vec RustItem Global) (at : ℕ)
    → x ≡ Loop index lo hi v at
    → (xs : List RustItem)
    → xs ≡ v.items
    → AreSoundItems (view_items xs)
items_sound x h index lo hi v at is xs a =
    subst (λ (ys : List RustItem). AreSoundItems (view_items ys)) (sym a)
    (subst IsSoundItem (loop_is x index lo hi v at is) h)

pub items_named : (p : Program) (f : Func) (x : RustItem)
    → HasTypedNames p f (view_item x)
    → (index : List ℕ) (lo hi : RustManifest) (v : Vec RustItem Global) (at : ℕ)
    → x ≡ Loop index lo hi v at
    → (xs : List RustItem)
    → xs ≡ v.items
    → HaveTypedNames p f (view_items xs)
items_named p f x h index lo hi v at is xs a =
    subst (λ (ys : List RustItem). HaveTypedNames p f (view_items ys)) (sym a)
    (subst (HasTypedNames p f) (loop_is x index lo hi v at is) h)

-- what holds of all expressions, and of all places, holds of one of them
pub expr_of_all : (P : Expr → Type 0) (xs : List RustExpr) (i : ℕ) (x : RustExpr)
    → All P (map view_expr xs)
    → i < length xs
    → x ≡ get_or xs i x
    → P (view_expr x)
expr_of_all P xs i x all within is =
    subst P (get_or-map view_expr xs i x (view_expr x) within ∙ ap view_expr (sym is))
    (all i (view_expr x) (omega (arith, within, length-map xs view_expr)))

pub place_of_all : (P : Place → Type 0) (xs : List RustPlace) (i : ℕ) (x : RustPlace)
    → All P (map view_place xs)
    → i < length xs
    → x ≡ get_or xs i x
    → P (view_place x)
place_of_all P xs i x all within is =
    subst P (get_or-map view_place xs i x (view_place x) within ∙ ap view_place (sym is))
    (all i (view_place x) (omega (arith, within, length-map xs view_place)))
