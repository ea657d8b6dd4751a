-- The program has the elements x and y of main alone, and each is defined in one way.
use Rattle.std.proofs.Common.{◌≡◌, ◌<◌, ◌≤◌, ◌+◌, ◌⊎◌, refl, sym, ◌∙◌, ap, subst, arith, ℕ, zero, suc, inl, inr, codes}
use Rattle.std.proofs.Common.{ℤ, pos, negsuc, ◌+ℤ◌, ◌-ℤ◌, [], ◌∷◌, Some, false}
use Rattle.std.specs.Prelude.{slice_get}
use Rattle.std.proofs.lemmas.Int.{ints}
use Rattle.std.proofs.lemmas.Option.{same_Some}
use Rattle.fix_word.specs.Values.{wrap_of, fit_of}
use Rattle.fix_word.specs.Words.{IsWord}
use Rattle.fix_word.specs.declared.types.Mode.TheVariants.{Trunc}
use Rattle.fix_word.specs.declared.types.SigType.{SigType}
use Rattle.fix_word.proofs.Forms.{fit_is}
use Rattle.micro_image.proofs.Each.{none, more, All-from_Each}
use Rattle.silage_syntax.specs.declared.tree.Decl.{Decl}
use Rattle.silage_syntax.specs.declared.tree.Lit.{Lit}
use Rattle.silage_syntax.specs.Manifests.{HasValue, no_delay, delay}
use Rattle.silage_syntax.specs.Names.{decls, element_count, declared, IsOffset}
use Rattle.silage_syntax.specs.Tree.{whole, Manifest, Place, Expr, Item, equation, initial, call, Func}
use Rattle.silage_meaning.specs.Instances.{Instance, main, Step, Element, element, Site, IsInstance, main_is, inside_is}
use Rattle.silage_meaning.specs.Instances.{Calls, Occurs, IsElement, IsItemAt, IsSignal, Call}
use Rattle.silage_meaning.specs.Solves.{Source, word, value, IsDefined, input, equated, argument, array, table, result}
use Rattle.silage_meaning.specs.Solves.{array_result, Gives, IsPreset, IsInitial, Solves, IsRow, AreSame}
use Rattle.silage_meaning.specs.Types.{IsRawWord}
use Rattle.silage_meaning.specs.Value.{Words, IsValue, IsFitted, signal}
use Rattle.silage_meaning.proofs.Sources.{gives_once}
use Rattle.silage_meaning.proofs.Unique.{initial_once}
use Rattle.silage_meaning.proofs.Values.{value_once}
use Rattle.worked_values.specs.Definitions.{byte}
use Rattle.worked_values.specs.Trees.{fix_type, declaration, bare, decimal_number}
use Rattle.worked_values.specs.Solutions.{sum, summing, summed, one_two_three, sums}
use Rattle.worked_values.proofs.solutions.Goals as goal

abbrev of_x : Decl
of_x = declaration (codes "x") [] byte

abbrev of_y : Decl
of_y = declaration (codes "y") [] byte

abbrev x : Element
x = element main 0 0

abbrev y : Element
y = element main 1 0

abbrev here : Site
here = record { instance = main; function = summing; indices = [] }

abbrev preset : Item
preset = initial (bare (codes "y")) (whole 1 0) (decimal_number false 5 0)

-- There is no call, and so no instance but main.
no_call : (step : Step) (f : Func) → Calls summed summing step f → ⊥
no_call step f calls = by_place calls.occurs
  where
    by_place : Occurs summing.items [] (call calls.places calls.name calls.args step.at) calls.indices → ⊥
    by_place (inl (same, outside)) = absurd (cc)
    by_place (inr (inl (same, outside))) = absurd (cc)
    by_place (inr (inr never)) = never

main_only : (i : Instance) (f : Func) → IsInstance summed i f → (i ≡ main) × (f ≡ summing)
main_only i f (main_is e) = (refl, sym (same_Some _ _ e))
main_only i f (inside_is {i = j} {g = g} {step = step} is calls) =
    let up = main_only j g is in absurd (no_call step f (subst (λ h. Calls summed h step f) up.1 calls))

which_at : (i : Instance) (d k : ℕ) (decl : Decl)
    → i ≡ main
    → slice_get (decls summing) d ≡ Some decl
    → k < element_count decl.dims
    → (element i d k ≡ x) ⊎ (element i d k ≡ y)
which_at i zero k decl m e below =
    let same : of_x ≡ decl = same_Some _ _ e in
    let first : k < 1 = subst (λ (d : Decl). k < element_count d.dims) (sym same) below in
    let k_is : k ≡ 0 = omega (arith, first) in
    inl (ap (λ j. element j 0 k) m ∙ ap (λ n. element main 0 n) k_is)
which_at i (suc zero) k decl m e below =
    let same : of_y ≡ decl = same_Some _ _ e in
    let first : k < 1 = subst (λ (d : Decl). k < element_count d.dims) (sym same) below in
    let k_is : k ≡ 0 = omega (arith, first) in
    inr (ap (λ j. element j 1 k) m ∙ ap (λ n. element main 1 n) k_is)
which_at i (suc (suc d)) k decl m e below = absurd (cc)

which : (e : Element) → IsElement summed e → (e ≡ x) ⊎ (e ≡ y)
which e is =
    let m = main_only e.instance is.function is.instance in
    which_at e.instance e.declaration e.offset is.decl m.0
    (subst (λ f. slice_get (decls f) e.declaration ≡ Some is.decl) m.1 is.declared) is.offset

-- Each item is the equation or the initial value, in main.
same_site : (s : Site) → s.instance ≡ main → s.function ≡ summing → s.indices ≡ [] → here ≡ s
same_site s a b c =
    sym
    (ap (λ i. record { instance = i; function = s.function; indices = s.indices }) a
    ∙ ap (λ f. record { instance = main; function = f; indices = s.indices }) b
    ∙ ap (λ is. record { instance = main; function = summing; indices = is }) c)

record IsTheEquation (s : Site) (place : Place) (e : Expr) : Type 0 where
  site : here ≡ s
  place_is : bare (codes "y") ≡ place
  right : sum ≡ e

the_equation : (s : Site) (place : Place) (e : Expr) → IsItemAt summed s (equation place e) → IsTheEquation s place e
the_equation s place e is =
    let m = main_only s.instance s.function is.instance in
    by_place m.0 m.1 (subst (λ f. Occurs f.items [] (equation place e) s.indices) m.1 is.occurs)
  where
    by_place : s.instance ≡ main
        → s.function ≡ summing
        → Occurs summing.items [] (equation place e) s.indices
        → IsTheEquation s place e
    by_place a b (inl (same, outside)) =
        record { site = same_site s a b outside; place_is = cc; right = cc }
    by_place a b (inr (inl (same, outside))) = absurd (cc)
    by_place a b (inr (inr never)) = absurd never

record IsThePreset (s : Site) (place : Place) (amount : Manifest) (l : Lit) : Type 0 where
  site : here ≡ s
  place_is : bare (codes "y") ≡ place
  amount_is : whole 1 0 ≡ amount
  literal_is : decimal_number false 5 0 ≡ l

the_preset : (s : Site) (place : Place) (amount : Manifest) (l : Lit)
    → IsItemAt summed s (initial place amount l)
    → IsThePreset s place amount l
the_preset s place amount l is =
    let m = main_only s.instance s.function is.instance in
    by_place m.0 m.1 (subst (λ f. Occurs f.items [] (initial place amount l) s.indices) m.1 is.occurs)
  where
    by_place : s.instance ≡ main
        → s.function ≡ summing
        → Occurs summing.items [] (initial place amount l) s.indices
        → IsThePreset s place amount l
    by_place a b (inl (same, outside)) = absurd (cc)
    by_place a b (inr (inl (same, outside))) =
        record { site = same_site s a b outside; place_is = cc; amount_is = cc; literal_is = cc }
    by_place a b (inr (inr never)) = absurd never

no_call_at : {s : Site} → Call summed s → ⊥
no_call_at {s} c =
    let m = main_only s.instance s.function c.found.instance in
    by_place (subst (λ f. Occurs f.items [] (call c.places c.name c.args c.at) s.indices) m.1 c.found.occurs)
  where
    by_place : Occurs summing.items [] (call c.places c.name c.args c.at) s.indices → ⊥
    by_place (inl (same, outside)) = absurd (cc)
    by_place (inr (inl (same, outside))) = absurd (cc)
    by_place (inr (inr never)) = never

-- the name y is the element y
record IsTheSignal (d k : ℕ) (decl : Decl) : Type 0 where
  declaration_is : 1 ≡ d
  decl_is : of_y ≡ decl
  offset_is : 0 ≡ k

the_signal : (s : Site) (place : Place) (d k : ℕ) (decl : Decl)
    → here ≡ s
    → bare (codes "y") ≡ place
    → IsSignal s place d decl k
    → IsTheSignal d k decl
the_signal s place d k decl at name is =
    let named : declared here.function (codes "y") ≡ Some (d, decl) =
    subst (λ (p : Place). declared here.function p.name ≡ Some (d, decl)) (sym name)
    (subst (λ (t : Site). declared t.function place.name ≡ Some (d, decl)) (sym at) is.named) in
    let pair : (1, of_y) ≡ (d, decl) = same_Some _ _ named in
    let decl_is : of_y ≡ decl = ap (λ (q : ℕ × Decl). q.1) pair in
    let placed : IsOffset [] of_y.dims [] k =
    subst (λ (c : Decl). IsOffset [] c.dims [] k) (sym decl_is)
    (subst (λ (p : Place). IsOffset [] decl.dims p.subs k) (sym name)
    (subst (λ (t : Site). IsOffset t.indices decl.dims place.subs k) (sym at) is.placed)) in
    record { declaration_is = ap (λ (q : ℕ × Decl). q.0) pair; decl_is = decl_is; offset_is = sym placed }

-- The value of the right side, from the words of x and of y one sample before.
fitted : (q v : ℤ) → fit_of q 8 Trunc ≡ v → IsFitted (fix_type 8 0 Trunc) q v
fitted q v e = record {
  shape = record { width = record { narrowest = omega arith; widest = omega arith }; places = omega arith };
  fitted = rw e at (fit_is q 8 Trunc (omega arith));
}

sum_value : (words : Words) (n : ℕ) (a b v : ℤ)
    → a ≡ words x (pos n -ℤ pos 0)
    → b ≡ words y (pos n -ℤ pos 1)
    → IsFitted (fix_type 8 0 Trunc) (a +ℤ b) v
    → IsValue summed here words n sum byte v
sum_value words n a b v a_is b_is h = (
  a,
  b,
  signal 0 0 0 of_x (record { named = refl; placed = refl }) no_delay refl a_is,
  signal 1 0 1 of_y (record { named = refl; placed = refl }) (delay refl (omega arith)) refl b_is,
  h,
)

our_sum : (n : ℕ) → n < 3 → IsValue summed here sums n sum byte (sums y (pos n))
unfolding wrap_of
our_sum zero below = sum_value sums 0 (pos 1) (pos 5) (pos 6) refl refl (fitted (pos 6) (pos 6) refl)
our_sum (suc zero) below = sum_value sums 1 (pos 2) (pos 6) (pos 8) refl refl (fitted (pos 8) (pos 8) refl)
our_sum (suc (suc zero)) below = sum_value sums 2 (pos 3) (pos 8) (pos 11) refl refl (fitted (pos 11) (pos 11) refl)
our_sum (suc (suc (suc n))) below = absurd (omega (arith, below))

our_input : (n : ℕ) → n < 3 → Gives summed one_two_three sums n (word 0) (sums x (pos n))
our_input zero below = (pos 1 ∷ [], refl, refl)
our_input (suc zero) below = (pos 2 ∷ [], refl, refl)
our_input (suc (suc zero)) below = (pos 3 ∷ [], refl, refl)
our_input (suc (suc (suc n))) below = absurd (omega (arith, below))

carried : (n : ℕ) (s : Site) (right : Expr) (decl : Decl) (e : Element)
    → here ≡ s
    → sum ≡ right
    → of_y ≡ decl
    → y ≡ e
    → IsValue summed here sums n sum byte (sums y (pos n))
    → IsValue summed s sums n right decl.ty (sums e (pos n))
carried n s right decl e at same ty is h =
    subst (λ (t : Site). IsValue summed t sums n right decl.ty (sums e (pos n))) at
    (subst (λ (r : Expr). IsValue summed here sums n r decl.ty (sums e (pos n))) same
    (subst (λ (c : Decl). IsValue summed here sums n sum c.ty (sums e (pos n))) ty
    (subst (λ (i : Element). IsValue summed here sums n sum byte (sums i (pos n))) is h)))

present : (e : Element) (n : ℕ) (source : Source)
    → n < 3
    → IsDefined summed e source
    → Gives summed one_two_three sums n source (sums e (pos n))
present e n source below (input {j = zero} is) =
    subst (λ (i : Element). Gives summed one_two_three sums n (word 0) (sums i (pos n))) (same_Some _ _ is)
    (our_input n below)
present e n source below (input {j = suc j} is) = absurd (cc)
present e n source below (equated {s = s} {x = right} place d k decl at is e_is) =
    let found = the_equation s place right at in
    let named = the_signal s place d k decl found.site found.place_is is in
    let e_here : y ≡ e =
    ap (λ m. element main m 0) named.declaration_is ∙ ap (λ m. element main d m) named.offset_is
    ∙ ap (λ (t : Site). element t.instance d k) found.site ∙ sym e_is in
    carried n s right decl e found.site found.right named.decl_is e_here (our_sum n below)
present e n source below (argument c d decl is none_dims e_is) = absurd (no_call_at c)
present e n source below (array s c d m k decl theirs place is array_is inside e_is) = absurd (no_call_at c)
present e n source below (table s c d decl place is table_is inside e_is) = absurd (no_call_at c)
present e n source below (result s c r d k theirs decl place is none_dims signal_is e_is) = absurd (no_call_at c)
present e n source below (array_result s c r d k theirs decl place is array_is inside e_is) = absurd (no_call_at c)

-- an initial value is that of y, at sample -1
record IsOurPreset (e : Element) (j : ℕ) (l : Lit) (ty : SigType) : Type 0 where
  element_is : y ≡ e
  sample_is : 1 ≡ j
  literal_is : decimal_number false 5 0 ≡ l
  type_is : byte ≡ ty

our_preset : (e : Element) (j : ℕ) (l : Lit) (ty : SigType) → IsPreset summed e j l ty → IsOurPreset e j l ty
our_preset e j l ty is =
    let found = the_preset is.site is.place is.amount l is.found in
    let named = the_signal is.site is.place is.declaration is.offset is.decl found.site found.place_is is.signal in
    let one : Some (pos 1) ≡ Some (pos j) =
    subst (λ m. HasValue is.site.indices m j) (sym found.amount_is) is.sample in
    let one_is : pos 1 ≡ pos j = same_Some _ _ one in
    record {
      element_is =
          ap (λ m. element main m 0) named.declaration_is ∙ ap (λ m. element main is.declaration m) named.offset_is
          ∙ ap (λ (t : Site). element t.instance is.declaration is.offset) found.site ∙ sym is.is;
      sample_is = cc;
      literal_is = found.literal_is;
      type_is = ap (λ (c : Decl). c.ty) named.decl_is ∙ sym is.typed;
    }

a_word : (n : ℕ) → n ≤ 100 → IsWord 8 (pos n)
a_word n few = record { low = omega (arith, ints, few); high = omega (arith, ints, few) }

five_is : (l : Lit) (ty : SigType) → decimal_number false 5 0 ≡ l → byte ≡ ty → IsRawWord l ty (pos 5)
five_is l ty literal_is type_is =
    subst (λ t. IsRawWord l t (pos 5)) type_is
    (subst (λ m. IsRawWord m byte (pos 5)) literal_is
    (record {
      nearest = record { below = omega (arith, ints); above = omega (arith, ints) };
      word = a_word 5 (omega arith);
    }))

not_x : (l : Lit) (j : ℕ) (ty : SigType) → IsPreset summed x j l ty → ⊥
not_x l j ty is =
    let ours = our_preset x j l ty is in
    let one_is_zero : ◌≡◌ {A = ℕ} 1 0 = ap (λ (e : Element). e.declaration) ours.element_is in
    omega (arith, one_is_zero)

not_earlier : (l : Lit) (j : ℕ) (ty : SigType) → IsPreset summed y (suc (suc j)) l ty → ⊥
not_earlier l j ty is =
    let ours = our_preset y (suc (suc j)) l ty is in
    let sample = ours.sample_is in
    omega (arith, sample)

the_first : IsPreset summed y 1 (decimal_number false 5 0) byte
the_first = record {
  site = here;
  place = bare (codes "y");
  amount = whole 1 0;
  declaration = 1;
  decl = of_y;
  offset = 0;
  found = record { instance = main_is refl; occurs = inr (inl (refl, refl)) };
  signal = record { named = refl; placed = refl };
  is = refl;
  sample = refl;
  typed = refl;
}

past_of_x : (j : ℕ) → IsInitial summed x (j + 1) (sums x (negsuc j))
past_of_x j = record { given = λ l ty is. absurd (not_x l (j + 1) ty is); absent = λ lacking. refl }

past_of_y : (j : ℕ) → IsInitial summed y (j + 1) (sums y (negsuc j))
past_of_y zero = record {
  given = λ l ty is. let ours = our_preset y 1 l ty is in five_is l ty ours.literal_is ours.type_is;
  absent = λ lacking. absurd (lacking (decimal_number false 5 0) byte the_first);
}
past_of_y (suc j) = record {
  given =
      λ l ty is.
      absurd (not_earlier l j ty (subst (λ m. IsPreset summed y m l ty) (later j) is));
  absent = λ lacking. refl;
}
  where
    later : (j : ℕ) → suc j + 1 ≡ suc (suc j)
    later j = omega arith

past : (e : Element) (j : ℕ) → (e ≡ x) ⊎ (e ≡ y) → IsInitial summed e (j + 1) (sums e (negsuc j))
past e j (inl is) = subst (λ (i : Element). IsInitial summed i (j + 1) (sums i (negsuc j))) (sym is) (past_of_x j)
past e j (inr is) = subst (λ (i : Element). IsInitial summed i (j + 1) (sums i (negsuc j))) (sym is) (past_of_y j)

solved : Solves summed one_two_three sums
solved = record {
  past = λ e j is below. past e j (which e is);
  present = λ e n source is below defined. present e n source below defined;
}

-- Other words that solve the program are the same, sample by sample.
x_is : IsElement summed x
x_is = record { function = summing; decl = of_x; instance = main_is refl; declared = refl; offset = omega arith }

y_is : IsElement summed y
y_is = record { function = summing; decl = of_y; instance = main_is refl; declared = refl; offset = omega arith }

defined : IsDefined summed y (value here sum byte)
defined =
    equated (bare (codes "y")) 1 0 of_y (record { instance = main_is refl; occurs = inl (refl, refl) })
    (record { named = refl; placed = refl }) refl

module _ (others : Words) (h : Solves summed one_two_three others) where
  same_past : (e : Element) (j : ℕ) → IsElement summed e → j < 1023 → others e (negsuc j) ≡ sums e (negsuc j)
  same_past e j is below = initial_once summed e (j + 1) _ _ (h.past e j is below) (solved.past e j is below)

  same_x : (n : ℕ) → n < 3 → others x (pos n) ≡ sums x (pos n)
  same_x n below =
      gives_once summed one_two_three sums n (word 0) _ _ (h.present x n (word 0) x_is below (input refl))
      (our_input n below)

  next : (n : ℕ) (a b v : ℤ)
      → n < 3
      → a ≡ others x (pos n -ℤ pos 0)
      → b ≡ others y (pos n -ℤ pos 1)
      → IsFitted (fix_type 8 0 Trunc) (a +ℤ b) v
      → others y (pos n) ≡ v
  next n a b v below a_is b_is fits =
      value_once summed here others n sum byte _ v (h.present y n (value here sum byte) y_is below defined)
      (sum_value others n a b v a_is b_is fits)

  first : others y (pos 0) ≡ pos 6
  unfolding wrap_of
  first =
      next 0 (pos 1) (pos 5) (pos 6) (omega arith) (sym (same_x 0 (omega arith)))
      (sym (same_past y 0 y_is (omega arith)))
      (fitted (pos 6) (pos 6) refl)

  second : others y (pos 1) ≡ pos 8
  unfolding wrap_of
  second =
      next 1 (pos 2) (pos 6) (pos 8) (omega arith) (sym (same_x 1 (omega arith))) (sym first)
      (fitted (pos 8) (pos 8) refl)

  third : others y (pos 2) ≡ pos 11
  unfolding wrap_of
  third =
      next 2 (pos 3) (pos 8) (pos 11) (omega arith) (sym (same_x 2 (omega arith))) (sym second)
      (fitted (pos 11) (pos 11) refl)

  same_y : (n : ℕ) → n < 3 → others y (pos n) ≡ sums y (pos n)
  same_y zero below = first
  same_y (suc zero) below = second
  same_y (suc (suc zero)) below = third
  same_y (suc (suc (suc n))) below = absurd (omega (arith, below))

  same_at : (e : Element) (n : ℕ) → n < 3 → (e ≡ x) ⊎ (e ≡ y) → others e (pos n) ≡ sums e (pos n)
  same_at e n below (inl is) = subst (λ (i : Element). others i (pos n) ≡ sums i (pos n)) (sym is) (same_x n below)
  same_at e n below (inr is) = subst (λ (i : Element). others i (pos n) ≡ sums i (pos n)) (sym is) (same_y n below)

  same : AreSame summed one_two_three others sums
  same e (pos n) is sample = same_at e n (omega (arith, ints, sample.last)) (which e is)
  same e (negsuc j) is sample = same_past e j is (omega (arith, ints, sample.first))

pub returns-clause-solution : goal.returns-clause-solution
returns-clause-solution _ = record { solves = solved; unique = λ others h. same others h }

pub returns-clause-rows : goal.returns-clause-rows
returns-clause-rows _ = refl

greatest : IsRow summed (pos 127 ∷ [])
greatest = (record { low = omega (arith, ints); high = omega (arith, ints) }, tt)

least : IsRow summed (negsuc 127 ∷ [])
least = (record { low = omega (arith, ints); high = omega (arith, ints) }, tt)

pub returns-clause-streams : goal.returns-clause-streams
returns-clause-streams _ = (
  greatest,
  least,
  λ h. omega (arith, ints, h.0.high),
  λ h. h,
  λ h. h.1,
  All-from_Each (IsRow summed) (more greatest (more least none)),
  All-from_Each (IsRow summed) none,
)
