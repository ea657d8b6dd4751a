-- Each element of the program has a number, and each number is that of one element.
use Rattle.std.proofs.Common.{◌≡◌, refl, sym, subst, ◌∙◌, ap, ap₂, arith, ℕ, zero, suc, ◌<◌, inl, inr, Bool, true}
use Rattle.std.proofs.Common.{false, cond, List, [], ◌∷◌, length, slice_get, Option, Some, None, ℤ}
use Rattle.std.specs.Prelude.{◌&&◌, nat_eq}
use Rattle.std.specs.Ordering.{int_eq}
use Rattle.std.specs.Bool.{Decides}
use Rattle.std.proofs.lemmas.Bool.Decides.{Decides-and, Decides-int_eq, eqb_tells}
use Rattle.std.proofs.lemmas.Bool.{cases_lt}
use Rattle.std.proofs.lemmas.Option.{slice_get_within}
use Rattle.lists.proofs.Places.{some_once, contains_at, place_of}
use Rattle.silage_syntax.specs.Tree.{Program}
use Rattle.silage_meaning.specs.Instances.{Step, Instance as Path, main, inside, Element, element, IsElement}
use Rattle.element_rules.specs.declared.elements.Instance.{Instance}
use Rattle.element_rules.specs.declared.elements.Element.{Element as Entry}
use Rattle.element_rules.specs.declared.elements.Elements.{Elements}
use Rattle.element_rules.specs.Numbering.{HasPath, of_main, of_call, IsNumbering}
use Rattle.element_rules.specs.Numbers.{IsNumberOf}
use Rattle.loop_expand.specs.Private.Children.{same_turns}

-- the steps that lead to a number are one list
pub path_once : (is : List Instance) (n : ℕ) (a b : Path) → HasPath is n a → HasPath is n b → a ≡ b
path_once is n _ _ (of_main e) (of_main g) = refl
path_once is n _ _ (of_main e) (of_call less g h) = absurd (omega arith)
path_once is n _ _ (of_call less g h) (of_main e) = absurd (omega arith)
path_once is n _ _ (of_call {i = i} {parent = q} less g h) (of_call {i = j} {parent = r} more e k) =
    let same : i ≡ j = some_once g e in
    let parents : q ≡ r = path_once is i.parent q r h (subst (λ (z : Instance). HasPath is z.parent r) (sym same) k) in
    ap₂ (λ (q : Path) (z : Instance). inside q (record { at = z.site; turns = z.turns })) parents same

element_of : (a b : Element) → a.instance ≡ b.instance → a.declaration ≡ b.declaration → a.offset ≡ b.offset → a ≡ b
element_of a b e f g =
    ap (λ (i : Path). element i a.declaration a.offset) e ∙ ap (λ (d : ℕ). element b.instance d a.offset) f
    ∙ ap (λ (k : ℕ). element b.instance b.declaration k) g

pub element_once : (es : Elements) (k : ℕ) (a b : Element) → IsNumberOf es k a → IsNumberOf es k b → a ≡ b
element_once es k a b x y =
    let entries : record { inst = x.instance; decl = a.declaration; place = a.offset }
    ≡ record { inst = y.instance; decl = b.declaration; place = b.offset } = some_once x.listed y.listed in
    let instances : x.instance ≡ y.instance = ap (λ (z : Entry). z.inst) entries in
    let paths : a.instance ≡ b.instance =
    path_once es.instances y.instance a.instance b.instance
    (subst (λ (n : ℕ). HasPath es.instances n a.instance) instances x.leads) y.leads in
    let declarations : a.declaration ≡ b.declaration = ap (λ (z : Entry). z.decl) entries in
    let offsets : a.offset ≡ b.offset = ap (λ (z : Entry). z.place) entries in
    element_of a b paths declarations offsets

abbrev chosen : {A : Type 0} (o : Option A) → ((x : A) → o ≡ Some x → Element) → Element
chosen (Some x) f = f x refl
chosen None f = element main 0 0

chosen_is : {A : Type 0} (o : Option A) (f : (x : A) → o ≡ Some x → Element) (P : Element → Type 0)
    → ((x : A) (e : o ≡ Some x) → P (f x e))
    → (y : A)
    → o ≡ Some y
    → P (chosen o f)
chosen_is (Some x) f P all y e = all x refl
chosen_is None f P all y e = absurd (cc e)

less_or : (k m : ℕ) → k < suc m → (k ≡ m → ⊥) → k < m
less_or k m less other = elim (cases_lt k m) [ inl h ↦ h | inr h ↦ absurd (other (omega arith)) ]

-- Whether two elements are the same.
abbrev same_path : Path → Path → Bool
same_path main main = true
same_path (inside i s) (inside j t) = same_path i j && (nat_eq s.at t.at && same_turns s.turns t.turns)
same_path _ _ = false

abbrev is_same : Element → Element → Bool
is_same a b = same_path a.instance b.instance && (nat_eq a.declaration b.declaration && nat_eq a.offset b.offset)

tells_also : (P Q : Type 0) (b : Bool) → (P → Q) → (Q → P) → Decides b P → Decides b Q
tells_also P Q b to from h = (λ e. to (h.0 e), λ q. h.1 (from q))

eq_tells : (m n : ℕ) → Decides (nat_eq m n) (m ≡ n)
eq_tells m n = elim (eqb_tells m n) [
  | inl same ↦ (λ e. same.1, λ e. same.0)
  | inr other ↦ (λ e. absurd (let no : false ≡ true = sym other.0 ∙ e in cc no), λ e. absurd (other.1 e))
]

turns_tell : (xs ys : List ℤ) → Decides (same_turns xs ys) (xs ≡ ys)
turns_tell [] [] = (λ e. refl, λ e. refl)
turns_tell [] (y ∷ ys) = (λ e. absurd (cc e), λ e. absurd (cc e))
turns_tell (x ∷ xs) [] = (λ e. absurd (cc e), λ e. absurd (cc e))
turns_tell (x ∷ xs) (y ∷ ys) =
    tells_also ((x ≡ y) × (xs ≡ ys)) (x ∷ xs ≡ y ∷ ys) (int_eq x y && same_turns xs ys)
    (λ h. let a = h.0 in let b = h.1 in cc) (λ e. (cc e, cc e))
    (Decides-and (int_eq x y) (same_turns xs ys) (Decides-int_eq x y) (turns_tell xs ys))

abbrev step : ℕ → List ℤ → Step
step at turns = record { at = at; turns = turns }

step_of : (s t : Step) → s.at ≡ t.at → s.turns ≡ t.turns → s ≡ t
step_of s t e g = ap (λ (at : ℕ). step at s.turns) e ∙ ap (λ (turns : List ℤ). step t.at turns) g

paths_tell : (a b : Path) → Decides (same_path a b) (a ≡ b)
paths_tell main main = (λ e. refl, λ e. refl)
paths_tell main (inside j t) = (λ e. absurd (cc e), λ e. absurd (cc e))
paths_tell (inside i s) main = (λ e. absurd (cc e), λ e. absurd (cc e))
paths_tell (inside i s) (inside j t) =
    tells_also ((i ≡ j) × ((s.at ≡ t.at) × (s.turns ≡ t.turns))) (inside i s ≡ inside j t)
    (same_path (inside i s) (inside j t))
    (λ h. ap₂ inside h.0 (step_of s t h.1.0 h.1.1))
    (λ e. let same : s ≡ t = cc e in (cc e, (ap (λ (z : Step). z.at) same, ap (λ (z : Step). z.turns) same)))
    (Decides-and (same_path i j) (nat_eq s.at t.at && same_turns s.turns t.turns) (paths_tell i j)
    (Decides-and (nat_eq s.at t.at) (same_turns s.turns t.turns) (eq_tells s.at t.at) (turns_tell s.turns t.turns)))

same_tells : (a b : Element) → Decides (is_same a b) (a ≡ b)
same_tells a b =
    tells_also ((a.instance ≡ b.instance) × ((a.declaration ≡ b.declaration) × (a.offset ≡ b.offset))) (a ≡ b)
    (is_same a b)
    (λ h. element_of a b h.0 h.1.0 h.1.1) (λ e. (
      ap (λ (z : Element). z.instance) e,
      (ap (λ (z : Element). z.declaration) e, ap (λ (z : Element). z.offset) e),
    ))
    (Decides-and (same_path a.instance b.instance) (nat_eq a.declaration b.declaration && nat_eq a.offset b.offset)
    (paths_tell a.instance b.instance)
    (Decides-and (nat_eq a.declaration b.declaration) (nat_eq a.offset b.offset)
    (eq_tells a.declaration b.declaration) (eq_tells a.offset b.offset)))

module _ (p : Program) (es : Elements) (numbering : IsNumbering p es) where
  -- what an entry of the list stands for
  pub record Stands (k : ℕ) : Type 0 where
    pub of : Element
    pub number : IsNumberOf es k of
    pub is : IsElement p of

  pub entry_stands : (k : ℕ) (x : Entry) → slice_get es.elements k ≡ Some x → Stands k
  entry_stands k x e =
      let l = numbering.elements x (contains_at es.elements k x e) in
      record {
        of = element l.path x.decl x.place;
        number = record { instance = x.inst; leads = l.leads; listed = e };
        is = l.element_is;
      }

  pub stands : (k : ℕ) → k < length es.elements → Stands k
  stands k below = by (slice_get es.elements k) refl
    where
      by : (o : Option Entry) → slice_get es.elements k ≡ o → Stands k
      by (Some x) e = entry_stands k x e
      by None e = absurd (missing es.elements k below e)
        where
          missing : (xs : List Entry) (k : ℕ) → k < length xs → slice_get xs k ≡ None → ⊥
          missing [] k below e = omega arith
          missing (x ∷ xs) zero below e = cc
          missing (x ∷ xs) (suc k) below e = missing xs k (omega arith) e

  pub below : (k : ℕ) (e : Element) → IsNumberOf es k e → k < length es.elements
  below k e is = slice_get_within es.elements k _ is.listed

  -- an element of the program by its number
  pub numbered : (e : Element) → IsElement p e → (k : ℕ) × IsNumberOf es k e
  numbered e is =
      let has = numbering.all_elements e is in
      let at = place_of es.elements _ has.listed in
      (at.0, record { instance = has.number; leads = has.leads; listed = at.1 })

  -- the element with a number; past the list, any
  abbrev its_element : (k : ℕ) (x : Entry) → slice_get es.elements k ≡ Some x → Element
  its_element k x e = (entry_stands k x e).of

  abbrev pub element_at : ℕ → Element
  element_at k = chosen (slice_get es.elements k) (its_element k)

  pub is_element_at : (k : ℕ) (e : Element) → IsNumberOf es k e → element_at k ≡ e
  is_element_at k e is =
      chosen_is (slice_get es.elements k) (its_element k) (λ (z : Element). z ≡ e)
      (λ x g. element_once es k (its_element k x g) e (entry_stands k x g).number is) _ is.listed

  pub number_of_at : (k : ℕ) → k < length es.elements → IsNumberOf es k (element_at k)
  number_of_at k less =
      let s = stands k less in
      subst (IsNumberOf es k) (sym (is_element_at k s.of s.number)) s.number

  -- the greatest number below a count whose element is this one; if there is none, 0
  abbrev pub search : (count : ℕ) → Element → ℕ
  search zero e = 0
  search (suc k) e = cond (is_same (element_at k) e) k (search k e)

  found : (count : ℕ) (e : Element) (k : ℕ)
      → k < count
      → element_at k ≡ e
      → (search count e < count) × (element_at (search count e) ≡ e)
  found zero e k less at = absurd (omega arith)
  found (suc m) e k less at = by (λ h. found m e k h at) (is_same (element_at m) e) (same_tells (element_at m) e)
    where
      by : (k < m → (search m e < m) × (element_at (search m e) ≡ e))
          → (b : Bool)
          → Decides b (element_at m ≡ e)
          → (cond b m (search m e) < suc m) × (element_at (cond b m (search m e)) ≡ e)
      by rest true h = (omega arith, h.0 refl)
      by rest false h =
          let other : k ≡ m → ⊥ = λ g. let no : false ≡ true = h.1 (subst (λ (z : ℕ). element_at z ≡ e) g at) in cc in
          let lower = rest (less_or k m less other) in
          (let first = lower.0 in omega arith, lower.1)

  -- the number of an element
  abbrev pub number_of : Element → ℕ
  number_of e = search (length es.elements) e

  pub is_number_of : (e : Element) → IsElement p e → IsNumberOf es (number_of e) e
  is_number_of e is =
      let n = numbered e is in
      let f = found (length es.elements) e n.0 (below n.0 e n.1) (is_element_at n.0 e n.1) in
      subst (IsNumberOf es (number_of e)) f.1 (number_of_at (number_of e) f.0)
