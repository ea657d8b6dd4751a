-- What look-ups find.
use Rattle.std.proofs.Common.{◌≡◌, ◌≢◌, ◌≤◌, ◌⊎◌, ◌↔◌, ◌∙◌, ℕ, zero, suc, ◌+◌, List, [], ◌∷◌, Option, Some, None, Bool}
use Rattle.std.proofs.Common.{true, false, cond, map, find, option_map, slice_get, refl, sym, ap, inl, inr, arith}
use Rattle.std.proofs.Common.{bytes_eq, is_some, Bor}
use Rattle.std.specs.Prelude.{Contains, position}
use Rattle.std.specs.List.{enumerate_from}
use Rattle.std.specs.Option.{option_copied}
use Rattle.std.proofs.lemmas.Bool.{true≢false}
use Rattle.std.proofs.lemmas.Cmp.{nat_list_eq_equiv}
use Rattle.std.proofs.lemmas.Map.Views.{Contains-from_any, list_any-from_Contains}
use Rattle.std.proofs.lemmas.Option.{slice_get-map}
use Rattle.std.proofs.lemmas.Slice.Eq.{bytes_eq-Decides}
use Rattle.silage_syntax.specs.declared.tree.Decl.{Decl}
use Rattle.silage_syntax.specs.declared.tree.Top.{Top as RustTop}
use Rattle.silage_syntax.specs.Tree.{Func, view_top}
use Rattle.silage_syntax.specs.Names.{declared, decls}
use Rattle.name_rules.specs.Meanings.{is_among, names_of}
use Rattle.name_rules.specs.TopNames.{top_name, IsFirstPlace}
use Rattle.name_rules.proofs.FirstPlaces.{answered}
use Rattle.lists.proofs.Places.{contains_at}

find_numbered : (q : Decl → Bool) (k : ℕ) (ds : List Decl)
    → option_map (λ (d : ℕ × Decl). d.1) (find (λ (d : ℕ × Decl). q d.1) (enumerate_from k ds)) ≡ find q ds
find_numbered q k [] = refl
find_numbered q k (d ∷ ds) = by (q d) (find_numbered q (k + 1) ds)
  where
    by : (b : Bool)
        → option_map (λ (d : ℕ × Decl). d.1) (find (λ (d : ℕ × Decl). q d.1) (enumerate_from (k + 1) ds)) ≡ find q ds
        → option_map (λ (d : ℕ × Decl). d.1)
        (cond b (Some (k, d)) (find (λ (d : ℕ × Decl). q d.1) (enumerate_from (k + 1) ds)))
        ≡ cond b (Some d) (find q ds)
    by true e = refl
    by false e = e

-- things with names, and the first of them that has a name
module _ {A : Type 0} (named : A → List ℕ) where
  abbrev pub first_named : List A → List ℕ → Option A
  first_named xs name = find (λ x. bytes_eq (named x) name) xs

  abbrev pub at_place : List A → Option ℕ → Option A
  at_place xs None = None
  at_place xs (Some k) = slice_get xs k

  abbrev Found : List A → List ℕ → Type 0
  Found xs name =
      ((first_named xs name ≡ None) × ((j : ℕ) → slice_get (map named xs) j ≢ Some name))
      ⊎ ((k : ℕ) × IsFirstPlace (map named xs) name k × (slice_get xs k ≡ first_named xs name))

  found : (xs : List A) (name : List ℕ) → Found xs name
  found [] name = inl (refl, λ j e. absurd (cc))
  found (x ∷ xs) name = by (bytes_eq (named x) name) (bytes_eq-Decides (named x) name) (found xs name)
    where
      by : (b : Bool)
          → (b ≡ true → named x ≡ name) × (named x ≡ name → b ≡ true)
          → Found xs name
          → ((cond b (Some x) (first_named xs name) ≡ None) × ((j : ℕ) → slice_get (map named (x ∷ xs)) j ≢ Some name))
          ⊎ ((k : ℕ)
          × IsFirstPlace (map named (x ∷ xs)) name k
          × (slice_get (x ∷ xs) k ≡ cond b (Some x) (first_named xs name)))
      by true d other = inr (0, record { here = ap Some (d.0 refl); least = λ j e. omega arith }, refl)
      by false d (inl other) = inl (other.0, none)
        where
          none : (j : ℕ) → slice_get (map named (x ∷ xs)) j ≢ Some name
          none zero e = true≢false (sym (d.1 (cc)))
          none (suc j) e = other.1 j e
      by false d (inr other) = inr (suc other.0, record { here = other.1.here; least = front }, other.2)
        where
          front : (j : ℕ) → slice_get (map named (x ∷ xs)) j ≡ Some name → suc other.0 ≤ j
          front zero e = absurd (true≢false (sym (d.1 (cc))))
          front (suc j) e = let later = other.1.least j e in omega arith

  -- what is at the first place of a name is the first that has it
  pub found_at : (xs : List A) (name : List ℕ) (o : Option ℕ)
      → ((k : ℕ) → (o ≡ Some k) ↔ IsFirstPlace (map named xs) name k)
      → at_place xs o ≡ first_named xs name
  found_at xs name o at = by o at (found xs name)
    where
      by : (o : Option ℕ)
          → ((k : ℕ) → (o ≡ Some k) ↔ IsFirstPlace (map named xs) name k)
          → Found xs name
          → at_place xs o ≡ first_named xs name
      by None at (inl f) = sym f.0
      by (Some k) at (inl f) = absurd (f.1 k ((at k).0 refl).here)
      by o at (inr f) = let e : o ≡ Some f.0 = (at f.0).1 f.1 in rw e f.2

module _ (rs : List RustTop) (names : List (List ℕ)) (name : List ℕ) (is : names ≡ map top_name (map view_top rs)) where
  pub no_top : ((k : ℕ) → (None ≡ Some k) ↔ IsFirstPlace names name k)
      → None ≡ first_named top_name (map view_top rs) name
  no_top at = found_at top_name (map view_top rs) name None (rw is at at)

  pub some_top : (position : ℕ) (o : Option RustTop)
      → ((k : ℕ) → (Some position ≡ Some k) ↔ IsFirstPlace names name k)
      → o ≡ slice_get rs position
      → option_map view_top o ≡ first_named top_name (map view_top rs) name
  some_top position o at e =
      ap (option_map view_top) e ∙ sym (slice_get-map view_top rs position)
      ∙ found_at top_name (map view_top rs) name (Some position) (rw is at at)

module _ (f : Func) (names : List (List ℕ)) (name : List ℕ) (is : names ≡ names_of (decls f)) where
  -- the declaration at the place of a name is that of the signal
  pub signal_is : (o : Option ℕ)
      → o ≡ position (bytes_eq name) names
      → at_place (λ (d : Decl). d.name) (decls f) o ≡ option_map (λ (d : ℕ × Decl). d.1) (declared f name)
  signal_is o e =
      let at : (k : ℕ) → (o ≡ Some k) ↔ IsFirstPlace (names_of (decls f)) name k =
      (answered (names_of (decls f)) name o (e ∙ ap (position (bytes_eq name)) is)).some in
      found_at (λ (d : Decl). d.name) (decls f) name o at
      ∙ sym (find_numbered (λ (d : Decl). bytes_eq d.name name) 0 (decls f))

-- a name has a place where it is among the names
pub is_there : (names : List (List ℕ)) (name : List ℕ) (o : Option ℕ)
    → ((k : ℕ) → (o ≡ Some k) ↔ IsFirstPlace names name k)
    → (o ≡ None) ↔ ¬ Contains names name
    → is_some o ≡ is_among names name
is_there names name (Some k) some none =
    sym (list_any-from_Contains nat_list_eq_equiv name names (contains_at names k name ((some k).0 refl).here))
is_there names name None some none = by (is_among names name) refl
  where
    by : (b : Bool) → is_among names name ≡ b → false ≡ b
    by true e = absurd (none.0 refl (Contains-from_any (λ x y t. (bytes_eq-Decides x y).0 t) name names e))
    by false e = refl

pub is_some-map : {A B : Type 0} (f : A → B) (o : Option A) → is_some (option_map f o) ≡ is_some o
is_some-map f None = refl
is_some-map f (Some x) = refl

pub is_some-copied : {A : Type 0} (o : Option (Bor A)) → is_some (option_copied o) ≡ is_some o
is_some-copied None = refl
is_some-copied (Some x) = refl
