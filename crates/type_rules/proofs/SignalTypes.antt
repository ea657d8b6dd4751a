-- The types of signals, from their declarations one after another and in three parts.
use Rattle.std.proofs.Common.{◌≡◌, ◌∙◌, ℕ, ◌+◌, ◌<◌, ◌≤◌, List, [], ◌∷◌, ◌++◌, Bool, true, false, cond, Option, Some}
use Rattle.std.proofs.Common.{None, option_map, find, length, get_or, drop, refl, sym, ap, bytes_eq}
use Rattle.std.specs.List.{enumerate_from}
use Rattle.std.specs.Option.{option_or}
use Rattle.std.proofs.lemmas.Cmp.{nat_list_eq_equiv}
use Rattle.std.proofs.lemmas.List.{drop_more, drop_all}
use Rattle.std.proofs.lemmas.Slice.Eq.{bytes_eq-Decides}
use Rattle.fix_word.specs.declared.types.SigType.{SigType}
use Rattle.silage_syntax.specs.declared.tree.Decl.{Decl}
use Rattle.silage_syntax.specs.Tree.{Func}
use Rattle.silage_syntax.specs.Names.{decls}
use Rattle.type_rules.specs.Private.Signals.{type_in, decl_type, signal_type, gives_type}

abbrev Entries : Type 0
Entries = List (List ℕ × SigType)

-- an entry at the end counts where no other does
appended : (es : Entries) (k : List ℕ) (t : SigType) (q : List ℕ)
    → type_in (es ++ (k, t) ∷ []) q ≡ option_or (type_in es q) (cond (bytes_eq q k) (Some t) None)
appended [] k t q = refl
appended (e ∷ es) k t q = by (bytes_eq q e.0) (appended es k t q)
  where
    by : (b : Bool)
        → type_in (es ++ (k, t) ∷ []) q ≡ option_or (type_in es q) (cond (bytes_eq q k) (Some t) None)
        → cond b (Some e.1) (type_in (es ++ (k, t) ∷ []) q)
        ≡ option_or (cond b (Some e.1) (type_in es q)) (cond (bytes_eq q k) (Some t) None)
    by true h = refl
    by false h = h

module _ (es : Entries) (d : Decl) (q : List ℕ) where
  pub added : (new : Entries)
      → new ≡ es ++ (d.name, d.ty) ∷ []
      → type_in new q ≡ option_or (type_in es q) (gives_type d q)
  added new is =
      ap (λ (xs : Entries). type_in xs q) is ∙ appended es d.name d.ty q
      ∙ ap (λ (b : Bool). option_or (type_in es q) (cond b (Some d.ty) None)) (nat_list_eq_equiv.symm q d.name)

  pub kept : (x : SigType) → type_in es d.name ≡ Some x → type_in es q ≡ option_or (type_in es q) (gives_type d q)
  kept x is = by (bytes_eq d.name q) (λ e. (bytes_eq-Decides d.name q).0 e)
    where
      nothing : (o : Option SigType) → o ≡ option_or o None
      nothing None = refl
      nothing (Some y) = refl

      by : (b : Bool) → (b ≡ true → d.name ≡ q) → type_in es q ≡ option_or (type_in es q) (cond b (Some d.ty) None)
      by true same =
          let e : type_in es q ≡ Some x = ap (type_in es) (sym (same refl)) ∙ is in
          e ∙ sym (ap (λ (o : Option SigType). option_or o (Some d.ty)) e)
      by false same = nothing (type_in es q)

pub declared_head : (d : Decl) (ds : List Decl) (q : List ℕ)
    → decl_type (d ∷ ds) q ≡ option_or (gives_type d q) (decl_type ds q)
declared_head d ds q = by (bytes_eq d.name q)
  where
    by : (b : Bool)
        → option_map (λ (x : Decl). x.ty) (cond b (Some d) (find (λ (x : Decl). bytes_eq x.name q) ds))
        ≡ option_or (cond b (Some d.ty) None) (decl_type ds q)
    by true = refl
    by false = refl

either_assoc : (a b c : Option SigType) → option_or (option_or a b) c ≡ option_or a (option_or b c)
either_assoc None b c = refl
either_assoc (Some x) b c = refl

-- the first i declarations are added
abbrev pub HasAdded : (start : Entries) (ds : List Decl) (i : ℕ) (now : Entries) → Type 0
HasAdded start ds i now =
    (q : List ℕ) → option_or (type_in now q) (decl_type (drop i ds) q) ≡ option_or (type_in start q) (decl_type ds q)

pub next_added : (start now new : Entries) (ds : List Decl) (i : ℕ) (d : Decl)
    → i < length ds
    → d ≡ get_or ds i d
    → ((q : List ℕ) → type_in new q ≡ option_or (type_in now q) (gives_type d q))
    → HasAdded start ds i now
    → HasAdded start ds (i + 1) new
next_added start now new ds i d within is new_is h q =
    let rest = drop (i + 1) ds in
    let here : drop i ds ≡ d ∷ rest = drop_more ds i d within ∙ ap (λ (x : Decl). x ∷ rest) (sym is) in
    ap (λ (o : Option SigType). option_or o (decl_type rest q)) (new_is q)
    ∙ either_assoc (type_in now q) (gives_type d q) (decl_type rest q)
    ∙ ap (option_or (type_in now q)) (sym (declared_head d rest q))
    ∙ ap (λ (xs : List Decl). option_or (type_in now q) (decl_type xs q)) (sym here) ∙ h q

pub all_added : (start now : Entries) (ds : List Decl) (i : ℕ)
    → length ds ≤ i
    → HasAdded start ds i now
    → (q : List ℕ)
    → type_in now q ≡ option_or (type_in start q) (decl_type ds q)
all_added start now ds i past h q =
    sym (nothing (type_in now q))
    ∙ ap (λ (xs : List Decl). option_or (type_in now q) (decl_type xs q)) (sym (drop_all i ds past)) ∙ h q
  where
    nothing : (o : Option SigType) → option_or o None ≡ o
    nothing None = refl
    nothing (Some y) = refl

declared-append : (xs ys : List Decl) (q : List ℕ)
    → decl_type (xs ++ ys) q ≡ option_or (decl_type xs q) (decl_type ys q)
declared-append [] ys q = refl
declared-append (x ∷ xs) ys q =
    declared_head x (xs ++ ys) q ∙ ap (option_or (gives_type x q)) (declared-append xs ys q)
    ∙ sym (either_assoc (gives_type x q) (decl_type xs q) (decl_type ys q))
    ∙ ap (λ (o : Option SigType). option_or o (decl_type ys q)) (sym (declared_head x xs q))

pub numbered : (q : List ℕ) (k : ℕ) (ds : List Decl)
    → option_map (λ (d : ℕ × Decl). d.1.ty) (find (λ (d : ℕ × Decl). bytes_eq d.1.name q) (enumerate_from k ds))
    ≡ decl_type ds q
numbered q k [] = refl
numbered q k (d ∷ ds) = by (bytes_eq d.name q) (numbered q (k + 1) ds)
  where
    by : (b : Bool)
        → option_map (λ (d : ℕ × Decl). d.1.ty)
        (find (λ (d : ℕ × Decl). bytes_eq d.1.name q) (enumerate_from (k + 1) ds)) ≡ decl_type ds q
        → option_map (λ (d : ℕ × Decl). d.1.ty)
        (cond b (Some (k, d)) (find (λ (d : ℕ × Decl). bytes_eq d.1.name q) (enumerate_from (k + 1) ds)))
        ≡ option_map (λ (x : Decl). x.ty) (cond b (Some d) (find (λ (x : Decl). bytes_eq x.name q) ds))
    by true h = refl
    by false h = h

-- parameters, results and locals
module _ (f : Func) (none params results locals : Entries) (is : none ≡ [])
    (one : (q : List ℕ) → type_in params q ≡ option_or (type_in none q) (decl_type f.params q))
    (two : (q : List ℕ) → type_in results q ≡ option_or (type_in params q) (decl_type f.results q))
    (three : (q : List ℕ) → type_in locals q ≡ option_or (type_in results q) (decl_type f.locals q)) where
  pub signals_are : (q : List ℕ) → type_in locals q ≡ signal_type f q
  signals_are q =
      let first : type_in params q ≡ decl_type f.params q =
      one q ∙ ap (λ (es : Entries). option_or (type_in es q) (decl_type f.params q)) is in
      three q
      ∙ ap (λ (o : Option SigType). option_or o (decl_type f.locals q))
      (two q ∙ ap (λ (o : Option SigType). option_or o (decl_type f.results q)) first)
      ∙ either_assoc (decl_type f.params q) (decl_type f.results q) (decl_type f.locals q)
      ∙ ap (option_or (decl_type f.params q)) (sym (declared-append f.results f.locals q))
      ∙ sym (declared-append f.params (f.results ++ f.locals) q) ∙ sym (numbered q 0 (decls f))
