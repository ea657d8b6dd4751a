-- The number of an element of an instance, by the sizes of the instances and declarations before it.
use Rattle.std.proofs.Common.{◌≡◌, refl, sym, subst, ◌∙◌, ap, ap₂, arith, ℕ, zero, suc, ◌+◌, ◌<◌, ◌≤◌, ◌⊎◌, ◌&&◌, ◌||◌}
use Rattle.std.proofs.Common.{inl, inr, Bool, true, false, List, [], ◌∷◌, map, take, drop, length, slice_get}
use Rattle.std.proofs.Common.{slice_index_or, Option, Some, None, ℤ}
use Rattle.std.specs.Prelude.{nat_eq, MatchOption}
use Rattle.std.specs.List.{range_with_len}
use Rattle.std.specs.Ordering.{int_eq}
use Rattle.std.proofs.lemmas.Bool.Decides.{Decides-int_eq, eqb_tells}
use Rattle.std.proofs.lemmas.List.FromFn.{length-map-range_with_len}
use Rattle.std.proofs.lemmas.List.Sums.{sum_by-cons}
use Rattle.std.proofs.lemmas.Option.{slice_get_within}
use Rattle.lists.proofs.Places.{contains_at, at_left, at_right, some_once}
use Rattle.silage_syntax.specs.declared.tree.Decl.{Decl}
use Rattle.silage_syntax.specs.Tree.{Func, Top, table, function, Program}
use Rattle.silage_syntax.specs.Names.{decls, element_count, main_of}
use Rattle.silage_meaning.specs.Instances.{Instance as Path, element, IsInstance, IsElement}
use Rattle.silage_meaning.proofs.Instances.{instance_once}
use Rattle.element_rules.specs.declared.elements.Instance.{Instance}
use Rattle.element_rules.specs.declared.elements.Element.{Element as Entry}
use Rattle.element_rules.specs.declared.elements.Elements.{Elements}
use Rattle.element_rules.specs.ElementRules.{elements_of}
use Rattle.element_rules.specs.Expansion.{IsExpansion, elements_from, signals_of, elements_in}
use Rattle.element_rules.specs.Numbering.{HasPath, of_main, of_call}
use Rattle.element_rules.specs.Sizes.{first_of}
use Rattle.type_rules.specs.TypedTree as typed
use Rattle.type_rules.specs.Translation.{typed_program, typed_func, typed_funcs}
use Rattle.loop_expand.specs.Checked.{IsChecked}
use Rattle.element_rules.specs.Numbers.{IsNumberOf}
use Rattle.loop_expand.specs.Private.Children.{AreApart, same_turns, is_child, child_from, child_of}
use Rattle.loop_expand.specs.Private.Scopes.{Body, body_of, body_for, has_instance, bodies_for, size_in, firsts_from}
use Rattle.loop_expand.proofs.Expanded.{numbering}
use Rattle.loop_expand.proofs.Numbers.{path_once}
use Rattle.element_rules.proofs.OncePaths.{number_once}
use Rattle.element_rules.proofs.OnceTables.{spread, distinct_numbers}
use Rattle.element_rules.proofs.LoadedElements.{elements_length}

-- A declaration's elements among those of an instance.
abbrev places : (n d a count : ℕ) → List Entry
places n d a count = map (λ k. record { inst = n; decl = d; place = k }) (range_with_len a count)

in_places : (n d a count k : ℕ)
    → k < count
    → slice_get (places n d a count) k ≡ Some (record { inst = n; decl = d; place = a + k })
in_places n d a zero k less = absurd (omega arith)
in_places n d a (suc count) zero less = ap (λ (m : ℕ). Some (record { inst = n; decl = d; place = m })) (omega arith)
in_places n d a (suc count) (suc k) less =
    let same : a + 1 + k ≡ a + suc k = omega arith in
    in_places n d (a + 1) count k (omega arith) ∙ ap (λ (m : ℕ). Some (record { inst = n; decl = d; place = m })) same

in_decls : (n a : ℕ) (ds : List Decl) (d k : ℕ) (decl : Decl)
    → slice_get ds d ≡ Some decl
    → k < element_count decl.dims
    → slice_get (elements_from n a ds) (first_of ds d + k) ≡ Some (record { inst = n; decl = a + d; place = k })
in_decls n a [] d k decl e less = absurd (cc e)
in_decls n a (x ∷ ds) zero k decl e less =
    let same : x ≡ decl = cc e in
    let within : k < element_count x.dims = subst (λ (y : Decl). k < element_count y.dims) (sym same) less in
    let there = in_places n a 0 (element_count x.dims) k within in
    let none : first_of (x ∷ ds) 0 + k ≡ k = omega arith in
    let place : 0 + k ≡ k = omega arith in
    let position : a + 0 ≡ a = omega arith in
    ap (slice_get (elements_from n a (x ∷ ds))) none
    ∙ at_left (places n a 0 (element_count x.dims)) (elements_from n (a + 1) ds) k _ there
    ∙ ap₂ (λ (q m : ℕ). Some (record { inst = n; decl = q; place = m })) (sym position) place
in_decls n a (x ∷ ds) (suc d) k decl e less =
    let rest = in_decls n (a + 1) ds d k decl e less in
    let first = sum_by-cons (λ (d : Decl). element_count d.dims) x (take d ds) in
    let long : length (places n a 0 (element_count x.dims)) ≡ element_count x.dims =
    length-map-range_with_len (λ (k : ℕ). record { inst = n; decl = a; place = k }) 0 (element_count x.dims) in
    let at : first_of (x ∷ ds) (suc d) + k
    ≡ length (places n a 0 (element_count x.dims)) + (first_of ds d + k) = omega arith in
    let next : a + 1 + d ≡ a + suc d = omega arith in
    at_right (places n a 0 (element_count x.dims)) (elements_from n (a + 1) ds) _ _ _ at rest
    ∙ ap (λ (q : ℕ). Some (record { inst = n; decl = q; place = k })) next

-- all elements of declarations
module _ (p : Program) (bodies : List Body) where
  -- the sizes by the bodies are those by the declarations
  abbrev AreSized : List Instance → Type 0
  AreSized is =
      (n : ℕ) (i : Instance)
      → slice_get is n ≡ Some i
      → size_in (body_of bodies i.func) ≡ elements_of (signals_of (slice_get p.tops i.func))

  in_instances : (a b : ℕ) (is : List Instance)
      → AreSized is
      → (n : ℕ) (i : Instance) (j : ℕ) (e : Entry)
      → slice_get is n ≡ Some i
      → slice_get (elements_from (a + n) 0 (signals_of (slice_get p.tops i.func))) j ≡ Some e
      → (m : ℕ)
      × (slice_index_or (firsts_from bodies b is) n 0 ≡ b + m)
      × (slice_get (elements_in p a is) (m + j) ≡ Some e)
  in_instances a b [] all n i j e at there = absurd (cc at)
  in_instances a b (x ∷ is) all zero i j e at there =
      let same : x ≡ i = cc at in
      let number : a + 0 ≡ a = omega arith in
      let here : slice_get (elements_from a 0 (signals_of (slice_get p.tops x.func))) j ≡ Some e =
      subst (λ (y : Instance). slice_get (elements_from a 0 (signals_of (slice_get p.tops y.func))) j ≡ Some e)
      (sym same)
      (subst (λ (q : ℕ). slice_get (elements_from q 0 (signals_of (slice_get p.tops i.func))) j ≡ Some e) number
      there) in
      let start : 0 + j ≡ j = omega arith in (
        0,
        omega arith,
        ap (slice_get (elements_in p a (x ∷ is))) start
            ∙ at_left (elements_from a 0 (signals_of (slice_get p.tops x.func))) (elements_in p (a + 1) is) j e here,
      )
  in_instances a b (x ∷ is) all (suc n) i j e at there =
      let number : a + suc n ≡ a + 1 + n = omega arith in
      let rest = in_instances (a + 1) (b + size_in (body_of bodies x.func)) is (λ n i at. all (suc n) i at) n i j e at
      (subst (λ (q : ℕ). slice_get (elements_from q 0 (signals_of (slice_get p.tops i.func))) j ≡ Some e) number
      there) in
      let size = all 0 x refl in
      let long = elements_length a 0 (signals_of (slice_get p.tops x.func)) in
      let first = rest.1 in
      let m : ℕ = size_in (body_of bodies x.func) + rest.0 in
      let there_at : m + j
      ≡ length (elements_from a 0 (signals_of (slice_get p.tops x.func))) + (rest.0 + j) = omega arith in (
        m,
        omega arith,
        at_right (elements_from a 0 (signals_of (slice_get p.tops x.func))) (elements_in p (a + 1) is) (m + j)
            (rest.0 + j) e there_at rest.2,
      )

-- The body of a function that has an instance, by its position.
module _ (is : List Instance) where
  abbrev HasInstance : ℕ → Type 0
  HasInstance k = has_instance is k ≡ true

  skipped : (b k : ℕ) (f : typed.TypedFunc) (rest : List typed.TypedFunc) (o : Option Body)
      → f.func ≡ b
      → (b ≡ k → ⊥)
      → body_of (bodies_for is rest) k ≡ o
      → body_of (bodies_for is (f ∷ rest)) k ≡ o
  skipped b k f rest o same other e = by (has_instance is f.func) refl (eqb_tells f.func k)
    where
      by : (h : Bool)
          → has_instance is f.func ≡ h
          → ((nat_eq f.func k ≡ true) × (f.func ≡ k)) ⊎ ((nat_eq f.func k ≡ false) × (f.func ≡ k → ⊥))
          → body_of (bodies_for is (f ∷ rest)) k ≡ o
      by true has (inl h) = absurd (other (sym same ∙ h.1))
      by true has (inr h) = rw (has, h.0) e
      by false has h = rw has e

  found_body : (b : ℕ) (p : Program) (ts : List Top) (n k : ℕ) (f : Func)
      → HasInstance k
      → slice_get ts n ≡ Some (function f)
      → k ≡ b + n
      → body_of (bodies_for is (typed_funcs p b ts)) k ≡ Some (body_for (typed_func p k f))
  found_body b p [] n k f has e at = absurd (cc e)
  found_body b p (table c ∷ ts) zero k f has e at = absurd (cc e)
  found_body b p (table c ∷ ts) (suc n) k f has e at = found_body (b + 1) p ts n k f has e (omega arith)
  found_body b p (function g ∷ ts) zero k f has e at = by (eqb_tells b k)
    where
      same : g ≡ f
      same = cc e

      by : ((nat_eq b k ≡ true) × (b ≡ k)) ⊎ ((nat_eq b k ≡ false) × (b ≡ k → ⊥))
          → body_of (bodies_for is (typed_funcs p b (function g ∷ ts))) k ≡ Some (body_for (typed_func p k f))
      by (inl h) =
          rw (subst HasInstance (sym h.1) has, h.0)
          (ap₂ (λ (q : ℕ) (h : Func). Some (body_for (typed_func p q h))) h.1 same)
      by (inr h) = absurd (h.1 (omega arith))
  found_body b p (function g ∷ ts) (suc n) k f has e at =
      skipped b k (typed_func p b g) (typed_funcs p (b + 1) ts) _ refl (λ same. omega (arith, at, same))
      (found_body (b + 1) p ts n k f has e (omega arith))

any_at : (is : List Instance) (n k : ℕ) (i : Instance) → slice_get is n ≡ Some i → i.func ≡ k → has_instance is k ≡ true
any_at [] n k i e same = absurd (cc e)
any_at (x ∷ is) zero k i e same =
    let here : x.func ≡ k = ap (λ (y : Instance). y.func) (some_once refl e) ∙ same in
    elim (eqb_tells x.func k) [ inl h ↦ rw h.0 refl | inr h ↦ absurd (h.1 here) ]
any_at (x ∷ is) (suc n) k i e same = by (nat_eq x.func k) (any_at is n k i e same)
  where
    by : (b : Bool) → has_instance is k ≡ true → b || has_instance is k ≡ true
    by true rest = refl
    by false rest = rest

pub body_at_top : (p : Program) (is : List Instance) (n : ℕ) (i : Instance) (f : Func)
    → slice_get is n ≡ Some i
    → slice_get p.tops i.func ≡ Some (function f)
    → body_of (bodies_for is (typed_program p).funcs) i.func ≡ Some (body_for (typed_func p i.func f))
body_at_top p is n i f there top =
    found_body is 0 p p.tops i.func i.func f (any_at is n i.func i there refl) top (omega arith)

-- Turns.
pub turns_equal : (xs ys : List ℤ) → same_turns xs ys ≡ true → xs ≡ ys
turns_equal [] [] e = refl
turns_equal [] (y ∷ ys) e = absurd (cc e)
turns_equal (x ∷ xs) [] e = absurd (cc e)
turns_equal (x ∷ xs) (y ∷ ys) e =
    let both = both_true (int_eq x y) (same_turns xs ys) e in
    ap₂ ◌∷◌ ((Decides-int_eq x y).0 both.0) (turns_equal xs ys both.1)
  where
    both_true : (a b : Bool) → a && b ≡ true → (a ≡ true) × (b ≡ true)
    both_true true b e = (refl, e)
    both_true false b e = absurd (cc e)

pub turns_same : (xs : List ℤ) → same_turns xs xs ≡ true
turns_same [] = refl
turns_same (x ∷ xs) = rw ((Decides-int_eq x x).1 refl) (turns_same xs)

-- what a child is
pub record IsChildOf (parent at : ℕ) (turns : List ℤ) (i : Instance) : Type 0 where
  pub parent_is : i.parent ≡ parent
  pub at_is : i.site ≡ at
  pub turns_are : i.turns ≡ turns

pub child_tells : (parent at : ℕ) (turns : List ℤ) (i : Instance)
    → is_child parent at turns i ≡ true
    → IsChildOf parent at turns i
child_tells parent at turns i e =
    let one = both_true (nat_eq i.parent parent) (nat_eq i.site at && same_turns i.turns turns) e in
    let two = both_true (nat_eq i.site at) (same_turns i.turns turns) one.1 in
    record {
      parent_is = equal i.parent parent one.0;
      at_is = equal i.site at two.0;
      turns_are = turns_equal i.turns turns two.1;
    }
  where
    both_true : (a b : Bool) → a && b ≡ true → (a ≡ true) × (b ≡ true)
    both_true true b e = (refl, e)
    both_true false b e = absurd (cc e)

    no : (b : Bool) → b ≡ true → b ≡ false → ⊥
    no true e g = absurd (cc g)
    no false e g = absurd (cc e)

    equal : (m n : ℕ) → nat_eq m n ≡ true → m ≡ n
    equal m n e = elim (eqb_tells m n) [ inl same ↦ same.1 | inr other ↦ absurd (no (nat_eq m n) e other.0) ]

pub told_child : (parent at : ℕ) (turns : List ℤ) (i : Instance)
    → IsChildOf parent at turns i
    → is_child parent at turns i ≡ true
told_child parent at turns i h =
    ap (λ (q : ℕ). nat_eq q parent && (nat_eq i.site at && same_turns i.turns turns)) h.parent_is
    ∙ ap (λ (q : ℕ). nat_eq parent parent && (nat_eq q at && same_turns i.turns turns)) h.at_is
    ∙ ap (λ (q : List ℤ). nat_eq parent parent && (nat_eq at at && same_turns q turns)) h.turns_are
    ∙ rw (same parent, same at) (turns_same turns)
  where
    same : (m : ℕ) → nat_eq m m ≡ true
    same m = elim (eqb_tells m m) [ inl h ↦ h.0 | inr h ↦ absurd (h.1 refl) ]

-- the first child is this one, if each child of the list is
first_child : (k parent at : ℕ) (turns : List ℤ) (is : List Instance) (n : ℕ) (i : Instance)
    → slice_get is n ≡ Some i
    → is_child parent at turns i ≡ true
    → ((m : ℕ) (j : Instance) → slice_get is m ≡ Some j → is_child parent at turns j ≡ true → m ≡ n)
    → child_from k parent at turns is ≡ Some (k + n)
first_child k parent at turns [] n i e child only = absurd (cc e)
first_child k parent at turns (x ∷ is) zero i e child only =
    let same : x ≡ i = cc e in
    let here : is_child parent at turns x ≡ true =
    subst (λ (y : Instance). is_child parent at turns y ≡ true) (sym same) child in
    let number : k ≡ k + 0 = omega arith in
    rw here (ap Some number)
first_child k parent at turns (x ∷ is) (suc n) i e child only =
    by (first_child (k + 1) parent at turns is n i e child
    (λ m j at_j is_j. let next = only (suc m) j at_j is_j in omega arith))
    (is_child parent at turns x) refl
  where
    by : child_from (k + 1) parent at turns is ≡ Some (k + 1 + n)
        → (b : Bool)
        → is_child parent at turns x ≡ b
        → child_from k parent at turns (x ∷ is) ≡ Some (k + suc n)
    by rest true h = let no = only 0 x refl h in absurd (omega arith)
    by rest false h = let number : k + 1 + n ≡ k + suc n = omega arith in rw h (rest ∙ ap Some number)

-- no child is found where there is none
pub no_child : (k parent at : ℕ) (turns : List ℤ) (is : List Instance)
    → ((m : ℕ) (j : Instance) → slice_get is m ≡ Some j → is_child parent at turns j ≡ false)
    → child_from k parent at turns is ≡ None
no_child k parent at turns [] none = refl
no_child k parent at turns (x ∷ is) none =
    rw (none 0 x refl) (no_child (k + 1) parent at turns is (λ m j e. none (suc m) j e))

get_drop : (is : List Instance) (m : ℕ) → slice_get (drop 1 is) m ≡ slice_get is (suc m)
get_drop [] m = refl
get_drop (x ∷ is) m = refl

-- a child of instances that are apart is the one that is found
pub child_found : (is : List Instance)
    → AreApart is
    → (parent at : ℕ) (turns : List ℤ) (n : ℕ) (i : Instance)
    → 0 < n
    → slice_get is n ≡ Some i
    → is_child parent at turns i ≡ true
    → child_of parent at turns is ≡ Some n
child_found is apart parent at turns zero i above e child = absurd (omega arith)
child_found is apart parent at turns (suc n) i above e child =
    let it = child_tells parent at turns i child in
    let number : 1 + n ≡ suc n = omega arith in
    first_child 1 parent at turns (drop 1 is) n i (get_drop is n ∙ e) child
    (λ m j at_j is_j.
    let other = child_tells parent at turns j is_j in
    let same =
    apart.apart (suc m) (suc n) j i (omega arith) (omega arith) (sym (get_drop is m) ∙ at_j) e
    (other.parent_is ∙ sym it.parent_is) (other.at_is ∙ sym it.at_is) (other.turns_are ∙ sym it.turns_are) in
    omega arith)
    ∙ ap Some number

pub no_child_of : (is : List Instance) (parent at : ℕ) (turns : List ℤ)
    → ((m : ℕ) (j : Instance) → 1 ≤ m → slice_get is m ≡ Some j → is_child parent at turns j ≡ false)
    → child_of parent at turns is ≡ None
no_child_of is parent at turns none =
    no_child 1 parent at turns (drop 1 is) (λ m j e. none (suc m) j (omega arith) (sym (get_drop is m) ∙ e))

-- what a search from the second instance on finds
pub child_is : (is : List Instance)
    → AreApart is
    → (parent at : ℕ) (turns : List ℤ) (o : Option ℕ)
    → MatchOption o ((k : ℕ) (i : Instance) → 1 ≤ k → slice_get is k ≡ Some i → is_child parent at turns i ≡ false)
    (λ k. (i : Instance) × (1 ≤ k) × (slice_get is k ≡ Some i) × (is_child parent at turns i ≡ true))
    → o ≡ child_of parent at turns is
child_is is apart parent at turns None none = sym (no_child_of is parent at turns none)
child_is is apart parent at turns (Some k) (i, above, e, child) =
    sym (child_found is apart parent at turns k i (omega (arith, above)) e child)

module _ (p : Program) (checked : IsChecked p) (es : Elements) (made : IsExpansion p es) where
  abbrev pub Bodies : List Body
  Bodies = bodies_for es.instances (typed_program p).funcs

  abbrev pub Firsts : List ℕ
  Firsts = firsts_from Bodies 0 es.instances

  -- a call makes one instance in a turn
  pub apart_instances : AreApart es.instances
  apart_instances = record {
    apart = λ i j x y above_i above_j at_i at_j parent site turns.
        (spread p checked.names checked.positions es made (main_of p) refl).once i j x y (omega arith)
        (slice_get_within es.instances i x at_i) (omega arith) (slice_get_within es.instances j y at_j) at_i at_j parent
        (ap₂ (λ (at : ℕ) (ts : List ℤ). record { at = at; turns = ts }) site turns);
  }

  pub number_of_path : (a : Path) (m n : ℕ) → HasPath es.instances m a → HasPath es.instances n a → m ≡ n
  number_of_path = number_once es.instances (spread p checked.names checked.positions es made (main_of p) refl)

  pub instance_body : (n : ℕ) (i : Instance) (path : Path) (f : Func)
      → slice_get es.instances n ≡ Some i
      → HasPath es.instances n path
      → IsInstance p path f
      → slice_get p.tops i.func ≡ Some (function f)
  instance_body n i path f e leads instance =
      let it = (numbering p checked es made).instances n i e in
      let same_path : it.path ≡ path = path_once es.instances n it.path path it.leads leads in
      let same : it.func ≡ f =
      instance_once p checked.calls path it.func f
      (subst (λ (q : Path). IsInstance p q it.func) same_path it.instance) instance in
      it.stands ∙ ap (λ (g : Func). Some (function g)) same

  pub sizes : (n : ℕ) (i : Instance)
      → slice_get es.instances n ≡ Some i
      → size_in (body_of Bodies i.func) ≡ elements_of (signals_of (slice_get p.tops i.func))
  sizes n i e =
      let it = (numbering p checked es made).instances n i e in
      ap size_in (body_at_top p es.instances n i it.func e it.stands)
      ∙ ap (λ (o : Option Top). elements_of (signals_of o)) (sym it.stands)

  -- an element's number
  pub element_number : (n : ℕ) (path : Path) (f : Func)
      → HasPath es.instances n path
      → IsInstance p path f
      → (m d k : ℕ)
      → IsNumberOf es m (element path d k)
      → m ≡ slice_index_or Firsts n 0 + first_of (decls f) d + k
  element_number n path f leads instance m d k number =
      let it = ((numbering p checked es made).elements _ (contains_at es.elements m _ number.listed)) in
      let at_path : it.path ≡ path = path_once es.instances number.instance it.path path it.leads number.leads in
      let is : IsElement p (element path d k) =
      subst (λ (q : Path). IsElement p (element q d k)) at_path it.element_is in
      let same : is.function ≡ f = instance_once p checked.calls path is.function f is.instance instance in
      let declared : slice_get (decls f) d ≡ Some is.decl =
      subst (λ (g : Func). slice_get (decls g) d ≡ Some is.decl) same is.declared in
      let i = some_instance n path leads in
      let top = instance_body n i.0 path f i.1 leads instance in
      let signals : signals_of (slice_get p.tops i.0.func) ≡ decls f = ap signals_of top in
      let zero_n : 0 + n ≡ n = omega arith in
      let zero_d : 0 + d ≡ d = omega arith in
      let within : slice_get (elements_from (0 + n) 0 (signals_of (slice_get p.tops i.0.func)))
      (first_of (decls f) d + k) ≡ Some (record { inst = n; decl = d; place = k }) =
      ap₂ (λ (q : ℕ) (ds : List Decl). slice_get (elements_from q 0 ds) (first_of (decls f) d + k)) zero_n signals
      ∙ in_decls n 0 (decls f) d k is.decl declared is.offset
      ∙ ap (λ (q : ℕ). Some (record { inst = n; decl = q; place = k })) zero_d in
      let there = in_instances p Bodies 0 0 es.instances sizes n i.0 (first_of (decls f) d + k) _ i.1 within in
      let listed : slice_get es.elements (there.0 + (first_of (decls f) d + k))
      ≡ Some (record { inst = n; decl = d; place = k }) =
      ap (λ (xs : List Entry). slice_get xs (there.0 + (first_of (decls f) d + k))) made.elements ∙ there.2 in
      let other : IsNumberOf es (there.0 + (first_of (decls f) d + k)) (element path d k) =
      record { instance = n; leads = leads; listed = listed } in
      let once : m ≡ there.0 + (first_of (decls f) d + k) =
      distinct_numbers p checked.names checked.positions es made (element path d k) _ _ number other in
      let first = there.1 in
      omega arith
    where
      some_instance : (n : ℕ) (path : Path)
          → HasPath es.instances n path
          → (i : Instance) × (slice_get es.instances n ≡ Some i)
      some_instance _ _ (of_main {i = i} e) = (i, e)
      some_instance _ _ (of_call {i = i} above e leads) = (i, e)
