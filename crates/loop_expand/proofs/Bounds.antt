-- The bounds of loops have values, in the turns of those around them.
use Rattle.std.proofs.Common.{◌≡◌, ◌<◌, ◌≤◌, ◌∙◌, ◌+◌, length, get_or, refl, sym, subst, ap, arith, ℕ, zero, suc, ◌⊎◌}
use Rattle.std.proofs.Common.{inl, inr, true, false, List, [], ◌∷◌, ◌++◌, map, slice_get, Some, Ok, ℤ}
use Rattle.std.specs.Prelude.{is_some, nat_eq, IsTrue}
use Rattle.std.specs.List.{range_with_len}
use Rattle.std.proofs.lemmas.Bool.Decides.{eqb_tells}
use Rattle.lists.proofs.Places.{some_once}
use Rattle.fault_order.specs.Private.FirstMet.{first, first_in}
use Rattle.fault_order.proofs.TableFaults.{rule_holds}
use Rattle.silage_syntax.specs.Tree.{Manifest, Item, equation, call, loop, initial, Items, no_item, item, Func, Top}
use Rattle.silage_syntax.specs.Tree.{table, function, Program}
use Rattle.silage_syntax.specs.Manifests.{Indices, manifest_value}
use Rattle.silage_syntax.specs.Names.{decls}
use Rattle.silage_meaning.specs.Instances.{IsInstance}
use Rattle.element_rules.specs.declared.elements.Instance.{Instance}
use Rattle.element_rules.specs.declared.elements.Elements.{Elements}
use Rattle.element_rules.specs.Expansion.{IsExpansion, signals_of}
use Rattle.element_rules.specs.Tables.{Table, rules, mark, in_order, nothing, ◌▹◌, each, counts, Context, after}
use Rattle.element_rules.specs.Tables.{table_rules, row_rules}
use Rattle.element_rules.specs.ElementRules.{elements_of, value_rules, item_table, items_row, loop_turns}
use Rattle.element_rules.specs.ElementRules.{instance_table}
use Rattle.element_rules.specs.Sizes.{top_is_sized}
use Rattle.lists.proofs.Each.{all_pass}
use Rattle.element_rules.proofs.SoundNames.{all_sized}
use Rattle.element_rules.proofs.LoopTurns.{turn_among, among_turn}
use Rattle.element_rules.proofs.CheckedInstances.{items_ok, checked as checked_instance, first_of_two, rest_of_two}
use Rattle.type_rules.specs.TypedTree as typed
use Rattle.type_rules.specs.declared.typed.TypedItem.{TypedItem as RustItem}
use Rattle.type_rules.specs.Translation.{typed_item, typed_items, typed_func, typed_funcs, typed_program}
use Rattle.loop_expand.specs.Checked.{IsChecked}
use Rattle.loop_expand.specs.declared.columns.Turns.{Turns}
use Rattle.loop_expand.specs.Private.Groups.{HasBounds, HaveBounds, HaveBoundsIn}
use Rattle.loop_expand.specs.Private.Scopes.{has_instance, IsBounded, AreBounded}
use Rattle.loop_expand.specs.Private.Turns.{indices_at, view_turns, turns_within}
use Rattle.loop_expand.proofs.Expanded.{numbering}
use Rattle.element_rules.proofs.LoadedElements.{instance_small}
use Rattle.loop_expand.proofs.PassedItems.{each_passed}
use Rattle.loop_expand.proofs.ProgramFacts.{IsIn, of_within}

-- items that break no rule on elements have such loops
module _ (p : Program) (g : Func) (inside : Func → Table) where
  mutual
    item_bounds : (y : Item) (outer : Indices) (context : Context)
        → first (table_rules context (item_table p g inside outer y)) ≡ Ok tt
        → HasBounds outer (typed_item p g y)
    item_bounds (equation place e) outer context ok = tt
    item_bounds (call places name args at) outer context ok = tt
    item_bounds (initial place amount l) outer context ok = tt
    item_bounds (loop index lo hi items at) outer context ok =
        let turns = loop_turns (manifest_value outer lo) (manifest_value outer hi) in
        let G : ℤ → Table = λ turn.
        in_order (mark (counts 1 at) ▹ items_row p g inside (outer ++ (index, turn) ∷ []) items) in
        let from =
        first_of_two context (rules (value_rules outer lo))
        (rules (value_rules outer hi) ▹ in_order (each G turns) ▹ nothing) ok in
        let behind =
        rest_of_two context (rules (value_rules outer lo))
        (rules (value_rules outer hi) ▹ in_order (each G turns) ▹ nothing) ok in
        let to = first_of_two context (rules (value_rules outer hi)) (in_order (each G turns) ▹ nothing) behind in
        let last = rest_of_two context (rules (value_rules outer hi)) (in_order (each G turns) ▹ nothing) behind in
        let all = first_of_two context (in_order (each G turns)) nothing last in (
          rule_holds (is_some (manifest_value outer lo)) _ from,
          rule_holds (is_some (manifest_value outer hi)) _ to,
          λ turn is_turn.
              let one = each_passed G turns turn (turn_among outer lo hi turn is_turn) context all in
              all_bounds items (outer ++ (index, turn) ∷ []) (after one.context (mark (counts 1 at)))
              (rest_of_two one.context (mark (counts 1 at)) (items_row p g inside (outer ++ (index, turn) ∷ []) items)
              one.ok),
        )

    all_bounds : (ys : Items) (outer : Indices) (context : Context)
        → first_in (row_rules context (items_row p g inside outer ys)) ≡ Ok tt
        → HaveBounds outer (typed_items p g ys)
    all_bounds no_item outer context ok = tt
    all_bounds (item y rest) outer context ok = (
      item_bounds y outer context
          (first_of_two context (item_table p g inside outer y) (items_row p g inside outer rest) ok),
      all_bounds rest outer (after context (item_table p g inside outer y))
          (rest_of_two context (item_table p g inside outer y) (items_row p g inside outer rest) ok),
    )

-- the items of an instance do
pub instance_bounds : (p : Program)
    → IsChecked p
    → (path : _) (g : Func)
    → IsInstance p path g
    → HaveBounds [] (typed_items p g g.items)
instance_bounds p checked path g instance =
    let c = checked_instance p checked.elements path g instance in
    all_bounds p g (instance_table p c.calls) g.items [] _ (items_ok p c.calls g c.marks c.ok)

-- Turns and their indices.
in_map : (F : ℕ → Indices) (a n k : ℕ) → k < n → IsIn (F (a + k)) (map F (range_with_len a n))
in_map F a zero k less = absurd (omega arith)
in_map F a (suc n) zero less = inl (ap F (omega arith))
in_map F a (suc n) (suc k) less =
    let same : a + 1 + k ≡ a + suc k = omega arith in
    inr (subst (λ (m : ℕ). IsIn (F m) (map F (range_with_len (a + 1) n))) same (in_map F (a + 1) n k (omega arith)))

of_map : (F : ℕ → Indices) (a n : ℕ) (x : Indices)
    → IsIn x (map F (range_with_len a n))
    → (k : ℕ) × (k < n) × (x ≡ F (a + k))
of_map F a zero x h = absurd h
of_map F a (suc n) x (inl e) = (0, omega arith, e ∙ ap F (omega arith))
of_map F a (suc n) x (inr h) =
    let (k, less, is) = of_map F (a + 1) n x h in
    (suc k, omega arith, is ∙ ap F (omega arith))

pub turn_in : (turns : Turns) (k : ℕ) → k < turns.count → IsIn (indices_at turns k) (view_turns turns)
turn_in turns k less =
    let same : 0 + k ≡ k = omega arith in
    subst (λ (m : ℕ). IsIn (indices_at turns m) (view_turns turns)) same
    (in_map (indices_at turns) 0 turns.count k less)

-- inside a loop
pub inner_bounds : (turns inner : Turns) (index : List ℕ) (lo hi : Manifest) (items : typed.TypedItems)
    → view_turns inner ≡ turns_within (view_turns turns) index lo hi
    → ((k : ℕ) → k < turns.count → HasBounds (indices_at turns k) (typed.loop index lo hi items))
    → HaveBoundsIn inner items
inner_bounds turns inner index lo hi items is bounds k less =
    let within =
    of_within index lo hi (view_turns turns) (indices_at inner k)
    (subst (IsIn (indices_at inner k)) is (turn_in inner k less)) in
    let (j, below, outer) = of_map (indices_at turns) 0 turns.count within.outer within.there in
    let same : 0 + j ≡ j = omega arith in
    let around : within.outer ≡ indices_at turns j = outer ∙ ap (indices_at turns) same in
    let own =
    (subst (λ o. HasBounds o (typed.loop index lo hi items)) (sym around) (bounds j below)).2 within.turn
    (among_turn within.outer lo hi within.turn within.among) in
    subst (λ o. HaveBounds o items) (sym within.is) own

-- An item among others.

-- how many items there are, with those inside loops
abbrev mutual
  pub size_of : typed.TypedItem → ℕ
  size_of (typed.equation place x) = 1
  size_of (typed.call places func args at) = 1
  size_of (typed.loop index lo hi items) = 1 + size_in items
  size_of (typed.initial place k word) = 1

  pub size_in : typed.TypedItems → ℕ
  size_in typed.no_item = 1
  size_in (typed.item x rest) = size_of x + size_in rest

pub smaller : (items : List RustItem) (i : ℕ) (x : RustItem)
    → i < length items
    → x ≡ get_or items i x
    → size_of (typed.view_item x) < size_in (typed.view_items items)
smaller [] i x less e = absurd (omega arith)
smaller (y ∷ items) zero x less e =
    omega (arith, ap (λ z. size_of (typed.view_item z)) e, some (typed.view_items items))
  where
    some : (ys : typed.TypedItems) → 1 ≤ size_in ys
    some typed.no_item = omega arith
    some (typed.item y ys) = omega (arith, some ys)
smaller (y ∷ items) (suc i) x less e = omega (arith, smaller items i x (omega arith) e)

pub bounded_at : (outer : Indices) (items : List RustItem) (i : ℕ) (x : RustItem)
    → i < length items
    → x ≡ get_or items i x
    → HaveBounds outer (typed.view_items items)
    → HasBounds outer (typed.view_item x)
bounded_at outer [] i x less e all = absurd (omega arith)
bounded_at outer (y ∷ items) zero x less e all = subst (λ z. HasBounds outer (typed.view_item z)) (sym e) all.0
bounded_at outer (y ∷ items) (suc i) x less e all = bounded_at outer items i x (omega arith) e all.1

-- The functions that have an instance.
some_instance : (is : List Instance) (k : ℕ)
    → IsTrue (has_instance is k)
    → (n : ℕ) × (i : Instance) × (slice_get is n ≡ Some i) × (i.func ≡ k)
some_instance [] k has = absurd (cc has)
some_instance (x ∷ is) k has = by (λ h. some_instance is k h) (eqb_tells x.func k)
  where
    by : (IsTrue (has_instance is k) → (n : ℕ) × (i : Instance) × (slice_get is n ≡ Some i) × (i.func ≡ k))
        → ((nat_eq x.func k ≡ true) × (x.func ≡ k)) ⊎ ((nat_eq x.func k ≡ false) × (x.func ≡ k → ⊥))
        → (n : ℕ) × (i : Instance) × (slice_get (x ∷ is) n ≡ Some i) × (i.func ≡ k)
    by rest (inl h) = (0, x, refl, h.1)
    by rest (inr h) = let (n, i, there, same) = rest (rw h.0 at has) in (suc n, i, there, same)

typed_top : (p : Program) (b : ℕ) (ts : List Top) (k : ℕ) (f : typed.TypedFunc)
    → slice_get (typed_funcs p b ts) k ≡ Some f
    → (n : ℕ) × (g : Func) × (slice_get ts n ≡ Some (function g)) × (f ≡ typed_func p (b + n) g)
typed_top p b [] k f e = absurd (cc e)
typed_top p b (table c ∷ ts) k f e =
    let (n, g, there, is) = typed_top p (b + 1) ts k f e in
    (suc n, g, there, is ∙ ap (λ m. typed_func p m g) (omega arith))
typed_top p b (function g ∷ ts) zero f e = (0, g, refl, some_once e refl ∙ ap (λ m. typed_func p m g) (omega arith))
typed_top p b (function g ∷ ts) (suc k) f e =
    let (n, h, there, is) = typed_top p (b + 1) ts k f e in
    (suc n, h, there, is ∙ ap (λ m. typed_func p m h) (omega arith))

pub all_bounded : (p : Program) (checked : IsChecked p) (es : Elements)
    → IsExpansion p es
    → AreBounded es.instances (typed_program p).funcs
all_bounded p checked es made_by k f at has =
    let (j, i, there, same) = some_instance es.instances f.func has in
    let it = (numbering p checked es made_by).instances j i there in
    let (n, g, top, is) = typed_top p 0 p.tops k f at in
    let number : i.func ≡ n = omega (arith, same, ap (λ (h : typed.TypedFunc). h.func) is) in
    let func : function it.func ≡ function g =
    some_once (subst (λ m. slice_get p.tops m ≡ Some (function it.func)) number it.stands) top in
    let funcs : it.func ≡ g = cc func in
    let bounds =
    subst (λ h. HaveBounds [] (typed_items p h h.items)) funcs
    (instance_bounds p checked it.path it.func it.instance) in
    let small = instance_small p checked.names checked.elements es made_by j i there in
    let own = ap (λ o. elements_of (signals_of o)) it.stands in
    subst IsBounded (sym is) (record {
      loops = bounds;
      sized = all_pass top_is_sized p.tops n (function g) (all_sized p checked.names) top;
      few = omega (arith, small, own, ap (λ (h : Func). elements_of (decls h)) funcs);
    })
