-- The facts of all instances: each is true, and each definition and each initial value of the program has one.
use Rattle.std.proofs.Common.{◌≡◌, refl, sym, subst, ap, ◌∙◌, append_assoc, map, arith, ℕ, zero, suc, ◌+◌, ◌<◌, ◌⊎◌}
use Rattle.std.proofs.Common.{◌++◌, inl, inr, false, true, List, [], ◌∷◌, slice_get, Option, Some, None, Ok, ℤ}
use Rattle.fault_order.specs.Rules.{none, ◌▸◌, unless}
use Rattle.fault_order.specs.Private.FirstMet.{first, first_in}
use Rattle.fault_order.proofs.TableFaults.{then_parts, rule_holds}
use Rattle.fix_word.specs.declared.types.SigType.{SigType}
use Rattle.silage_syntax.specs.declared.tree.Lit.{Lit}
use Rattle.silage_syntax.specs.Tree.{Manifest, Place, Expr, read, Item, equation, call, loop, initial, Items, no_item}
use Rattle.silage_syntax.specs.Tree.{item, Func, Program}
use Rattle.silage_syntax.specs.Manifests.{Indices, manifest_value}
use Rattle.silage_syntax.specs.Names.{function_named, element_count}
use Rattle.silage_meaning.specs.Instances.{Instance as Path, Element, IsInstance, Occurs, OccursIn, Site, IsItemAt}
use Rattle.silage_meaning.specs.Instances.{inputs}
use Rattle.silage_meaning.specs.Solves.{Source, word, IsDefined, input, equated, argument, array, table as by_table}
use Rattle.silage_meaning.specs.Solves.{result, array_result, IsPreset}
use Rattle.name_rules.specs.NameRules as name
use Rattle.name_rules.specs.declared.fault.NameFault.TheVariants.{Unknown}
use Rattle.element_rules.specs.declared.elements.Instance.{Instance}
use Rattle.element_rules.specs.declared.elements.Elements.{Elements}
use Rattle.element_rules.specs.ElementRules.{loop_turns}
use Rattle.element_rules.specs.Expansion.{IsExpansion}
use Rattle.element_rules.specs.Numbering.{HasPath, of_main, of_call}
use Rattle.element_rules.proofs.LoopTurns.{IsAmong, turn_among, among_turn}
use Rattle.element_rules.proofs.NamedItems.{within, instance_named}
use Rattle.type_rules.specs.Translation.{typed_item, typed_items, typed_func, typed_program, word_of}
use Rattle.type_rules.specs.TypedTree as typed
use Rattle.signal_graph.specs.Flat as flat
use Rattle.loop_expand.specs.Checked.{IsChecked}
use Rattle.element_rules.specs.Numbers.{IsNumberOf}
use Rattle.loop_expand.specs.Private.Scopes.{Body, Scope, body_of, body_for}
use Rattle.loop_expand.specs.Private.Turns.{turns_within}
use Rattle.loop_expand.specs.Private.Groups.{Group, plain, plain_items, grouped, loop_groups, loops_groups, groups_of}
use Rattle.loop_expand.specs.Private.Facts.{Fact, defines, presets, joined, item_facts, turn_facts, group_facts}
use Rattle.loop_expand.specs.Private.Facts.{groups_facts, scope_at, facts_in, facts_from}
use Rattle.loop_expand.proofs.Expanded.{numbering}
use Rattle.loop_expand.proofs.FactsPut.{Has}
use Rattle.loop_expand.proofs.InstanceNumbers.{Bodies, Firsts, body_at_top, element_number, instance_body}
use Rattle.loop_expand.proofs.SiteFacts.{IsAt, AreTrue, true_append, equation_says, equation_true, initial_says}
use Rattle.loop_expand.proofs.SiteFacts.{initial_true, call_true, parameter_covered, result_covered, array_covered}
use Rattle.loop_expand.proofs.SiteFacts.{has_left, has_right}

abbrev pub IsIn : Indices → List Indices → Type 0
IsIn x [] = ⊥
IsIn x (y ∷ ys) = (x ≡ y) ⊎ IsIn x ys

joined_has : (G : Indices → List Fact) (turns : List Indices) (turn : Indices) (x : Fact)
    → IsIn turn turns
    → Has (G turn) x
    → Has (joined G turns) x
joined_has G [] turn x among h = absurd among
joined_has G (t ∷ turns) turn x (inl same) h =
    has_left (G t) (joined G turns) x (subst (λ (u : Indices). Has (G u) x) same h)
joined_has G (t ∷ turns) turn x (inr among) h = has_right (G t) (joined G turns) x (joined_has G turns turn x among h)

in_left : (xs ys : List Indices) (x : Indices) → IsIn x xs → IsIn x (xs ++ ys)
in_left [] ys x h = absurd h
in_left (y ∷ xs) ys x (inl e) = inl e
in_left (y ∷ xs) ys x (inr h) = inr (in_left xs ys x h)

in_right : (xs ys : List Indices) (x : Indices) → IsIn x ys → IsIn x (xs ++ ys)
in_right [] ys x h = h
in_right (y ∷ xs) ys x h = inr (in_right xs ys x h)

in_either : (xs ys : List Indices) (x : Indices) → IsIn x (xs ++ ys) → IsIn x xs ⊎ IsIn x ys
in_either [] ys x h = inr h
in_either (y ∷ xs) ys x (inl e) = inl (inl e)
in_either (y ∷ xs) ys x (inr h) = elim (in_either xs ys x h) [ inl a ↦ inl (inr a) | inr a ↦ inr a ]

-- The turns of a loop inside others.
module _ (index : List ℕ) where
  abbrev inside : Indices → ℤ → Indices
  inside outer turn = outer ++ (index, turn) ∷ []

  in_turns : (outer : Indices) (turns : List ℤ) (turn : ℤ)
      → IsAmong turn turns
      → IsIn (inside outer turn) (map (inside outer) turns)
  in_turns outer [] turn h = absurd h
  in_turns outer (t ∷ turns) turn (inl e) = inl (ap (inside outer) e)
  in_turns outer (t ∷ turns) turn (inr h) = inr (in_turns outer turns turn h)

  record IsOfTurn (outer : Indices) (turns : List ℤ) (x : Indices) : Type 0 where
    turn : ℤ
    among : IsAmong turn turns
    is : x ≡ inside outer turn

  of_turns : (outer : Indices) (turns : List ℤ) (x : Indices)
      → IsIn x (map (inside outer) turns)
      → IsOfTurn outer turns x
  of_turns outer [] x h = absurd h
  of_turns outer (t ∷ turns) x (inl e) = record { turn = t; among = inl refl; is = e }
  of_turns outer (t ∷ turns) x (inr h) =
      let r = of_turns outer turns x h in record { turn = r.turn; among = inr r.among; is = r.is }

  module _ (lo hi : Manifest) where
    abbrev TurnsOf : Indices → List ℤ
    TurnsOf outer = loop_turns (manifest_value outer lo) (manifest_value outer hi)

    pub in_within : (all : List Indices) (outer : Indices) (turn : ℤ)
        → IsIn outer all
        → IsAmong turn (TurnsOf outer)
        → IsIn (inside outer turn) (turns_within all index lo hi)
    in_within [] outer turn h among = absurd h
    in_within (o ∷ all) outer turn (inl e) among =
        in_left (map (inside o) (TurnsOf o)) (turns_within all index lo hi) (inside outer turn)
        (subst (λ (z : Indices). IsIn (inside outer turn) (map (inside z) (TurnsOf z))) e
        (in_turns outer (TurnsOf outer) turn among))
    in_within (o ∷ all) outer turn (inr h) among =
        in_right (map (inside o) (TurnsOf o)) (turns_within all index lo hi) (inside outer turn)
        (in_within all outer turn h among)

    pub record IsWithin (all : List Indices) (x : Indices) : Type 0 where
      pub outer : Indices
      pub turn : ℤ
      pub there : IsIn outer all
      pub among : IsAmong turn (TurnsOf outer)
      pub is : x ≡ inside outer turn

    pub of_within : (all : List Indices) (x : Indices) → IsIn x (turns_within all index lo hi) → IsWithin all x
    of_within [] x h = absurd h
    of_within (o ∷ all) x h = elim (in_either (map (inside o) (TurnsOf o)) (turns_within all index lo hi) x h) [
      | inl a ↦
          let r = of_turns o (TurnsOf o) x a in
          record { outer = o; turn = r.turn; there = inl refl; among = r.among; is = r.is }
      | inr a ↦
          let r = of_within all x a in
          record { outer = r.outer; turn = r.turn; there = inr r.there; among = r.among; is = r.is }
    ]

joined-append : {A : Type 0} (G : A → List Fact) (xs ys : List A) → joined G (xs ++ ys) ≡ joined G xs ++ joined G ys
joined-append G [] ys = refl
joined-append G (x ∷ xs) ys =
    ap (λ l. G x ++ l) (joined-append G xs ys) ∙ sym (append_assoc (G x) (joined G xs) (joined G ys))

module _ (p : Program) (checked : IsChecked p) (es : Elements) (made_by : IsExpansion p es) where
  abbrev True : List Fact → Type 0
  True fs = AreTrue p checked es made_by fs

  -- The items of an instance.
  module _ (i : Path) (f : Func) (instance : IsInstance p i f) (c : Scope) (at : IsAt p checked es made_by i f c) where
    abbrev site : Indices → Site
    site indices = record { instance = i; function = f; indices = indices }

    abbrev FactsAt : Indices → Item → List Fact
    FactsAt indices x = item_facts c indices (typed_item p f x)

    pub call_known : (places : List Place) (n : List ℕ) (args : List Expr) (a : ℕ) (indices : Indices)
        → Occurs f.items [] (call places n args a) indices
        → (g : Func) × (function_named p n ≡ Some g)
    call_known places n args a indices occurs =
        let it = instance_named p checked.names i f instance (call places n args a) indices occurs in
        by it.indices (function_named p n) refl it.ok
      where
        by : (is : List (List ℕ)) (o : Option Func)
            → function_named p n ≡ o
            → first (name.call_rules (within p f is) o places args a) ≡ Ok tt
            → (g : Func) × (function_named p n ≡ Some g)
        by is (Some g) e ok = (g, e)
        by is None e ok =
            let args_row = name.arguments_rules (within p f is) [] args ▸ none in
            let one =
            then_parts (first (name.places_rules (within p f is) [] places))
            (first_in (unless false (Unknown a) ▸ args_row)) ok in
            let two = then_parts (first (unless false (Unknown a))) (first_in args_row) one.1 in
            let no : false ≡ true = rule_holds false (Unknown a) two.0 in
            absurd (cc no)

    abbrev Within : Item → Indices → Type 0
    Within y outer = (x : Item) (indices : Indices) → OccursIn y outer x indices → Occurs f.items [] x indices

    abbrev ItemsOf : Items → typed.TypedItems
    ItemsOf ys = typed_items p f ys

    abbrev AllIn : Item → List Indices → Type 0
    AllIn y turns =
        (outer : Indices)
        → IsIn outer turns
        → (x : Item) (indices : Indices)
        → OccursIn y outer x indices
        → Occurs f.items [] x indices

    -- whatever occurs among the items in one of the turns occurs in the function
    abbrev AllWithin : Items → List Indices → Type 0
    AllWithin ys turns =
        (outer : Indices)
        → IsIn outer turns
        → (x : Item) (indices : Indices)
        → Occurs ys outer x indices
        → Occurs f.items [] x indices

    item_true : (y : Item) (outer : Indices) → Within y outer → True (FactsAt outer y)
    item_true (equation place x) outer sub =
        equation_true p checked es made_by (site outer) instance c at place x (sub _ _ (refl, refl))
    item_true (call places n args a) outer sub =
        let occurs = sub _ _ (refl, refl) in
        let g = call_known places n args a outer occurs in
        call_true p checked es made_by (site outer) instance c at
        (record {
          places = places;
          name = n;
          args = args;
          at = a;
          callee = g.0;
          found = record { instance = instance; occurs = occurs };
          named = g.1;
        })
    item_true (initial place amount l) outer sub =
        initial_true p checked es made_by (site outer) instance c at place amount l (sub _ _ (refl, refl))
    item_true (loop index lo hi items a) outer sub = tt

    abbrev PlainOf : Items → List typed.TypedItem
    PlainOf ys = plain_items (ItemsOf ys)

    one_true : (y : Item) (rest : Items) (outer : Indices)
        → ((x : Item) (indices : Indices) → Occurs (item y rest) outer x indices → Occurs f.items [] x indices)
        → True (turn_facts c (PlainOf rest) outer)
        → True (FactsAt outer y ++ turn_facts c (PlainOf rest) outer)
    one_true y rest outer sub h =
        true_append p checked es made_by (FactsAt outer y) (turn_facts c (PlainOf rest) outer)
        (item_true y outer (λ x indices o. sub x indices (inl o))) h

    turn_true : (ys : Items) (outer : Indices)
        → ((x : Item) (indices : Indices) → Occurs ys outer x indices → Occurs f.items [] x indices)
        → True (turn_facts c (PlainOf ys) outer)
    turn_true no_item outer sub = tt
    turn_true (item (equation place v) rest) outer sub =
        one_true (equation place v) rest outer sub (turn_true rest outer (λ x indices o. sub x indices (inr o)))
    turn_true (item (call places n args a) rest) outer sub =
        one_true (call places n args a) rest outer sub (turn_true rest outer (λ x indices o. sub x indices (inr o)))
    turn_true (item (initial place amount l) rest) outer sub =
        one_true (initial place amount l) rest outer sub (turn_true rest outer (λ x indices o. sub x indices (inr o)))
    turn_true (item (loop index lo hi items a) rest) outer sub =
        turn_true rest outer (λ x indices o. sub x indices (inr o))

    turns_true : (ys : Items) (turns : List Indices)
        → AllWithin ys turns
        → True (joined (turn_facts c (PlainOf ys)) turns)
    turns_true ys [] all = tt
    turns_true ys (t ∷ turns) all =
        true_append p checked es made_by (turn_facts c (PlainOf ys) t) (joined (turn_facts c (PlainOf ys)) turns)
        (turn_true ys t (all t (inl refl)))
        (turns_true ys turns (λ outer h. all outer (inr h)))

    both_true : (gs hs : List Group)
        → True (groups_facts c gs)
        → True (groups_facts c hs)
        → True (groups_facts c (gs ++ hs))
    both_true gs hs a b =
        subst (λ (l : List Fact). True l) (sym (joined-append (group_facts c) gs hs))
        (true_append p checked es made_by (groups_facts c gs) (groups_facts c hs) a b)

    grouped_true : (ys : Items) (turns : List Indices) (loops : List Group)
        → AllWithin ys turns
        → True (groups_facts c loops)
        → True (groups_facts c (grouped turns (ItemsOf ys) loops))
    grouped_true ys [] loops all h = tt
    grouped_true ys (t ∷ turns) loops all h =
        both_true loops (record { turns = t ∷ turns; items = PlainOf ys } ∷ []) h
        (true_append p checked es made_by (joined (turn_facts c (PlainOf ys)) (t ∷ turns)) []
        (turns_true ys (t ∷ turns) all) tt)

    inner_within : (items : Items) (index : List ℕ) (lo hi : Manifest) (a : ℕ) (turns : List Indices)
        → AllIn (loop index lo hi items a) turns
        → AllWithin items (turns_within turns index lo hi)
    inner_within items index lo hi a turns all = λ inner h x indices o.
        let w = of_within index lo hi turns inner h in
        all w.outer w.there x indices
        (w.turn, among_turn w.outer lo hi w.turn w.among, subst (λ (z : Indices). Occurs items z x indices) w.is o)

    mutual
      loop_true : (y : Item) (turns : List Indices)
          → AllIn y turns
          → True (groups_facts c (loop_groups turns (typed_item p f y)))
      loop_true (equation place x) turns all = tt
      loop_true (call places n args a) turns all = tt
      loop_true (initial place amount l) turns all = tt
      loop_true (loop index lo hi items a) turns all =
          let sub = inner_within items index lo hi a turns all in
          grouped_true items (turns_within turns index lo hi)
          (loops_groups (turns_within turns index lo hi) (ItemsOf items)) sub
          (loops_true items (turns_within turns index lo hi) sub)

      loops_true : (ys : Items) (turns : List Indices)
          → AllWithin ys turns
          → True (groups_facts c (loops_groups turns (ItemsOf ys)))
      loops_true no_item turns all = tt
      loops_true (item y rest) turns all =
          both_true (loop_groups turns (typed_item p f y)) (loops_groups turns (ItemsOf rest))
          (loop_true y turns (λ outer h x indices o. all outer h x indices (inl o)))
          (loops_true rest turns (λ outer h x indices o. all outer h x indices (inr o)))

    all_true : True (groups_facts c (groups_of (ItemsOf f.items)))
    all_true =
        grouped_true f.items ([] ∷ []) (loops_groups ([] ∷ []) (ItemsOf f.items)) within_all
        (loops_true f.items ([] ∷ []) within_all)
      where
        within_all : AllWithin f.items ([] ∷ [])
        within_all outer (inl e) x indices o = subst (λ (z : Indices). Occurs f.items z x indices) e o
        within_all outer (inr h) x indices o = absurd h

    here : (x y : Item) (indices outer : Indices) (z : Fact)
        → x ≡ y
        → indices ≡ outer
        → Has (FactsAt indices x) z
        → Has (FactsAt outer y) z
    here x y indices outer z e g h =
        subst (λ (w : Item). Has (FactsAt outer w) z) e (subst (λ (k : Indices). Has (FactsAt k x) z) g h)

    -- a fact is of a loop among items, or of one of the other items in this turn
    abbrev HasOf : (loops : List Group) (items : List typed.TypedItem) (outer : Indices) → Fact → Type 0
    HasOf loops items outer z = Has (groups_facts c loops) z ⊎ Has (turn_facts c items outer) z

    has_first : (gs hs : List Group) (xs ys : List typed.TypedItem) (outer : Indices) (z : Fact)
        → HasOf gs xs outer z
        → HasOf (gs ++ hs) (xs ++ ys) outer z
    has_first gs hs xs ys outer z (inl a) =
        inl (subst (λ (l : List Fact). Has l z) (sym (joined-append (group_facts c) gs hs))
        (has_left (groups_facts c gs) (groups_facts c hs) z a))
    has_first gs hs xs ys outer z (inr a) =
        inr (subst (λ (l : List Fact). Has l z) (sym (joined-append (item_facts c outer) xs ys))
        (has_left (turn_facts c xs outer) (turn_facts c ys outer) z a))

    has_second : (gs hs : List Group) (xs ys : List typed.TypedItem) (outer : Indices) (z : Fact)
        → HasOf hs ys outer z
        → HasOf (gs ++ hs) (xs ++ ys) outer z
    has_second gs hs xs ys outer z (inl a) =
        inl (subst (λ (l : List Fact). Has l z) (sym (joined-append (group_facts c) gs hs))
        (has_right (groups_facts c gs) (groups_facts c hs) z a))
    has_second gs hs xs ys outer z (inr a) =
        inr (subst (λ (l : List Fact). Has l z) (sym (joined-append (item_facts c outer) xs ys))
        (has_right (turn_facts c xs outer) (turn_facts c ys outer) z a))

    abbrev OwnOf : Items → Indices → List Indices → Group
    OwnOf ys t turns = record { turns = t ∷ turns; items = PlainOf ys }

    grouped_has : (ys : Items) (turns : List Indices) (loops : List Group) (outer : Indices) (z : Fact)
        → IsIn outer turns
        → HasOf loops (PlainOf ys) outer z
        → Has (groups_facts c (grouped turns (ItemsOf ys) loops)) z
    grouped_has ys [] loops outer z there h = absurd there
    grouped_has ys (t ∷ turns) loops outer z there h =
        subst (λ (l : List Fact). Has l z) (sym (joined-append (group_facts c) loops (OwnOf ys t turns ∷ []))) (by h)
      where
        by : HasOf loops (PlainOf ys) outer z → Has (groups_facts c loops ++ groups_facts c (OwnOf ys t turns ∷ [])) z
        by (inl a) = has_left (groups_facts c loops) (groups_facts c (OwnOf ys t turns ∷ [])) z a
        by (inr a) =
            has_right (groups_facts c loops) (groups_facts c (OwnOf ys t turns ∷ [])) z
            (has_left (joined (turn_facts c (PlainOf ys)) (t ∷ turns)) [] z
            (joined_has (turn_facts c (PlainOf ys)) (t ∷ turns) outer z there a))

    mutual
      item_has : (y : Item) (turns : List Indices) (outer : Indices) (x : Item) (indices : Indices) (z : Fact)
          → IsIn outer turns
          → OccursIn y outer x indices
          → Has (FactsAt indices x) z
          → HasOf (loop_groups turns (typed_item p f y)) (plain (typed_item p f y)) outer z
      item_has (equation place v) turns outer x indices z there o h =
          inr (has_left (FactsAt outer (equation place v)) [] z (here x (equation place v) indices outer z o.0 o.1 h))
      item_has (call places n args a) turns outer x indices z there o h =
          inr (has_left (FactsAt outer (call places n args a)) [] z
          (here x (call places n args a) indices outer z o.0 o.1 h))
      item_has (initial place amount l) turns outer x indices z there o h =
          inr (has_left (FactsAt outer (initial place amount l)) [] z
          (here x (initial place amount l) indices outer z o.0 o.1 h))
      item_has (loop index lo hi items a) turns outer x indices z there (turn, is_turn, o) h =
          let inner = in_within index lo hi turns outer turn there (turn_among outer lo hi turn is_turn) in
          inl
          (grouped_has items (turns_within turns index lo hi)
          (loops_groups (turns_within turns index lo hi) (ItemsOf items)) (outer ++ (index, turn) ∷ []) z inner
          (items_has items (turns_within turns index lo hi) (outer ++ (index, turn) ∷ []) x indices z inner o h))

      items_has : (ys : Items) (turns : List Indices) (outer : Indices) (x : Item) (indices : Indices) (z : Fact)
          → IsIn outer turns
          → Occurs ys outer x indices
          → Has (FactsAt indices x) z
          → HasOf (loops_groups turns (ItemsOf ys)) (PlainOf ys) outer z
      items_has no_item turns outer x indices z there o h = absurd o
      items_has (item y rest) turns outer x indices z there (inl o) h =
          has_first (loop_groups turns (typed_item p f y)) (loops_groups turns (ItemsOf rest))
          (plain (typed_item p f y)) (PlainOf rest) outer z (item_has y turns outer x indices z there o h)
      items_has (item y rest) turns outer x indices z there (inr o) h =
          has_second (loop_groups turns (typed_item p f y)) (loops_groups turns (ItemsOf rest))
          (plain (typed_item p f y)) (PlainOf rest) outer z (items_has rest turns outer x indices z there o h)

    all_has : (x : Item) (indices : Indices) (z : Fact)
        → Occurs f.items [] x indices
        → Has (FactsAt indices x) z
        → Has (groups_facts c (groups_of (ItemsOf f.items))) z
    all_has x indices z o h =
        grouped_has f.items ([] ∷ []) (loops_groups ([] ∷ []) (ItemsOf f.items)) [] z (inl refl)
        (items_has f.items ([] ∷ []) [] x indices z (inl refl) o h)

  -- The instances.
  abbrev ScopeOf : ℕ → Body → Scope
  ScopeOf n b =
      scope_at (typed_program p).consts (Bodies p checked es made_by) es.instances (Firsts p checked es made_by) n b

  abbrev FactsIn : ℕ → Option Body → List Fact
  FactsIn n b =
      facts_in (typed_program p).consts (Bodies p checked es made_by) es.instances (Firsts p checked es made_by) n b

  abbrev FactsFrom : ℕ → List Instance → List Fact
  FactsFrom n is =
      facts_from (typed_program p).consts (Bodies p checked es made_by) es.instances (Firsts p checked es made_by) n is

  abbrev pub AllFacts : List Fact
  AllFacts = FactsFrom 0 es.instances

  abbrev BodyOf : Instance → Option Body
  BodyOf i = body_of (Bodies p checked es made_by) i.func

  at_instance : (n k : ℕ) (path : Path) (f : Func)
      → HasPath es.instances n path
      → IsInstance p path f
      → IsAt p checked es made_by path f (ScopeOf n (body_for (typed_func p k f)))
  at_instance n k path f leads instance = record {
    scope = record {
      instance = instance;
      signals = refl;
      tables = refl;
      number = λ m d j number. element_number p checked es made_by n path f leads instance m d j number;
    };
    leads = leads;
    bodies = refl;
    instances = refl;
    firsts = refl;
  }

  from_true : (n : ℕ) (is : List Instance)
      → ((j : ℕ) (i : Instance) → slice_get is j ≡ Some i → True (FactsIn (n + j) (BodyOf i)))
      → True (FactsFrom n is)
  from_true n [] all = tt
  from_true n (i ∷ is) all =
      let first : n + 0 ≡ n = omega arith in
      true_append p checked es made_by (FactsIn n (BodyOf i)) (FactsFrom (n + 1) is)
      (subst (λ (m : ℕ). True (FactsIn m (BodyOf i))) first (all 0 i refl))
      (from_true (n + 1) is (λ j k e.
      let next : n + suc j ≡ n + 1 + j = omega arith in
      subst (λ (m : ℕ). True (FactsIn m (BodyOf k))) next (all (suc j) k e)))

  from_has : (n : ℕ) (is : List Instance) (j : ℕ) (i : Instance) (z : Fact)
      → slice_get is j ≡ Some i
      → Has (FactsIn (n + j) (BodyOf i)) z
      → Has (FactsFrom n is) z
  from_has n [] j i z e h = absurd (cc e)
  from_has n (k ∷ is) zero i z e h =
      let same : k ≡ i = cc e in
      let first : n + 0 ≡ n = omega arith in
      has_left (FactsIn n (BodyOf k)) (FactsFrom (n + 1) is) z
      (subst (λ (m : ℕ). Has (FactsIn m (BodyOf k)) z) first
      (subst (λ (w : Instance). Has (FactsIn (n + 0) (BodyOf w)) z) (sym same) h))
  from_has n (k ∷ is) (suc j) i z e h =
      let next : n + suc j ≡ n + 1 + j = omega arith in
      has_right (FactsIn n (BodyOf k)) (FactsFrom (n + 1) is) z
      (from_has (n + 1) is j i z e (subst (λ (m : ℕ). Has (FactsIn m (BodyOf i)) z) next h))

  -- each fact is true
  pub facts_true : True AllFacts
  facts_true = from_true 0 es.instances each
    where
      each : (j : ℕ) (i : Instance) → slice_get es.instances j ≡ Some i → True (FactsIn (0 + j) (BodyOf i))
      each j i e =
          let it = (numbering p checked es made_by).instances j i e in
          let number : 0 + j ≡ j = omega arith in
          subst (λ (m : ℕ). True (FactsIn m (BodyOf i))) (sym number)
          (subst (λ (o : Option Body). True (FactsIn j o)) (sym (body_at_top p es.instances j i it.func e it.stands))
          (all_true it.path it.func it.instance (ScopeOf j (body_for (typed_func p i.func it.func)))
          (at_instance j i.func it.path it.func it.leads it.instance)))

  some_instance : (n : ℕ) (path : Path)
      → HasPath es.instances n path
      → (i : Instance) × (slice_get es.instances n ≡ Some i)
  some_instance _ _ (of_main {i = i} e) = (i, e)
  some_instance _ _ (of_call {i = i} above e leads) = (i, e)

  -- a fact of an item at a site is among all
  at_site : {A : Type 0} (s : Site) (x : Item)
      → IsItemAt p s x
      → (Z : A → Fact)
      → ((c : Scope)
      → IsAt p checked es made_by s.instance s.function c
      → (a : A) × Has (item_facts c s.indices (typed_item p s.function x)) (Z a))
      → (a : A) × Has AllFacts (Z a)
  at_site s x found Z gives =
      let n = (numbering p checked es made_by).all_instances s.instance s.function found.instance in
      let i = some_instance n.0 s.instance n.1 in
      let top = instance_body p checked es made_by n.0 i.0 s.instance s.function i.1 n.1 found.instance in
      let b = body_for (typed_func p i.0.func s.function) in
      let at = at_instance n.0 i.0.func s.instance s.function n.1 found.instance in
      let it = gives (ScopeOf n.0 b) at in
      let own =
      all_has s.instance s.function found.instance (ScopeOf n.0 b) at x s.indices (Z it.0) found.occurs it.1 in
      let number : 0 + n.0 ≡ n.0 = omega arith in (
        it.0,
        from_has 0 es.instances n.0 i.0 (Z it.0) i.1
            (subst (λ (m : ℕ). Has (FactsIn m (BodyOf i.0)) (Z it.0)) (sym number)
            (subst (λ (o : Option Body). Has (FactsIn n.0 o) (Z it.0))
            (sym (body_at_top p es.instances n.0 i.0 s.function i.1 top)) own)),
      )

  same_fact : (m : ℕ) (y : flat.Expr) (fs gs : List Fact) → fs ≡ gs → Has gs (defines m y) → Has fs (defines m y)
  same_fact m y fs gs e h = subst (λ (l : List Fact). Has l (defines m y)) (sym e) h

  -- an element is an input word, or has a fact that gives its value
  pub record IsInput (e : Element) (source : Source) : Type 0 where
    pub j : ℕ
    pub is : source ≡ word j
    pub there : slice_get (inputs p) j ≡ Some e

  abbrev HasValue : ℕ → Type 0
  HasValue m = (y : flat.Expr) × Has AllFacts (defines m y)

  pub defined_has : (e : Element) (source : Source) (m : ℕ)
      → IsDefined p e source
      → IsNumberOf es m e
      → IsInput e source ⊎ HasValue m
  defined_has e _ m (input {j = j} at) number = inl (record { j = j; is = refl; there = at })
  defined_has e _ m (equated {s = s} {x = x} place d k decl found signal at) number =
      let its = subst (IsNumberOf es m) at number in
      inr (at_site s (equation place x) found (λ (y : flat.Expr). defines m y)
      (λ c is.
      let says =
      equation_says p checked es made_by s found.instance c is place x d k m decl found.occurs signal its in
      (says.y, same_fact m says.y _ _ says.facts (inl refl))))
  defined_has e _ m (argument {s = s} {x = x} c d decl arg scalar at) number =
      let its = subst (IsNumberOf es m) at number in
      let some : 0 < element_count decl.dims =
      subst (λ (dims : List ℕ). 0 < element_count dims) (sym scalar) (omega arith) in
      inr (at_site s (call c.places c.name c.args c.at) c.found (λ (y : flat.Expr). defines m y)
      (λ k is. parameter_covered p checked es made_by s c.found.instance k is c d 0 m decl x arg some its))
  defined_has e _ m (array s c d t k decl theirs place arg arr less at) number =
      let its = subst (IsNumberOf es m) at number in
      inr (at_site s (call c.places c.name c.args c.at) c.found (λ (y : flat.Expr). defines m y) (λ z is.
      parameter_covered p checked es made_by s c.found.instance z is c d k m decl (read place None) arg less its))
  defined_has e _ m (by_table {k = k} s c d decl place arg tab less at) number =
      let its = subst (IsNumberOf es m) at number in
      inr (at_site s (call c.places c.name c.args c.at) c.found (λ (y : flat.Expr). defines m y) (λ z is.
      parameter_covered p checked es made_by s c.found.instance z is c d k m decl (read place None) arg less its))
  defined_has e _ m (result s c r d k theirs decl place res scalar signal at) number =
      let its = subst (IsNumberOf es m) at number in
      inr (at_site s (call c.places c.name c.args c.at) c.found (λ (y : flat.Expr). defines m y) (λ z is.
      result_covered p checked es made_by s c.found.instance z is c r d k m theirs decl place res scalar signal
      its))
  defined_has e _ m (array_result s c r d k theirs decl place res arr less at) number =
      let its = subst (IsNumberOf es m) at number in
      inr (at_site s (call c.places c.name c.args c.at) c.found (λ (y : flat.Expr). defines m y) (λ z is.
      array_covered p checked es made_by s c.found.instance z is c r d k m theirs decl place res arr less its))

  -- an initial value has its fact
  pub preset_has : (e : Element) (m j : ℕ) (l : Lit) (ty : SigType)
      → IsPreset p e j l ty
      → IsNumberOf es m e
      → (v : ℤ) × Has AllFacts (presets m j v)
  preset_has e m j l ty x number =
      let its = subst (IsNumberOf es m) x.is number in
      at_site x.site (initial x.place x.amount l) x.found (λ (v : ℤ). presets m j v)
      (λ c is. (
        word_of l x.decl.ty,
        subst (λ (fs : List Fact). Has fs (presets m j (word_of l x.decl.ty)))
            (sym
            (initial_says p checked es made_by x.site x.found.instance c is x.place x.amount l x.declaration x.offset j
            m x.decl x.signal its x.sample))
            (inl refl),
      ))
