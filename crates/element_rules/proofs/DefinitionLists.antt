-- The definitions that the items of an instance make, in order, beside the marks of its table.
use Rattle.std.proofs.Common.{◌≡◌, ◌∙◌, ◌+◌, ◌++◌, ◌⊎◌, ◌||◌, ◌&&◌, not, inl, inr, ℕ, zero, suc, ℤ, pos, negsuc, List}
use Rattle.std.proofs.Common.{[], ◌∷◌, map, length, Bool, true, false, cond, slice_get, sum_by, Option, Some, None, Ok}
use Rattle.std.proofs.Common.{refl, sym, subst, arith, append-nil}
use Rattle.std.specs.Prelude.{nat_eq}
use Rattle.std.specs.List.{range_with_len}
use Rattle.std.proofs.lemmas.Bool.Decides.{eqb_tells}
use Rattle.std.proofs.lemmas.Bool.{not-true}
use Rattle.lists.proofs.Places.{at_append, at_left, at_right}
use Rattle.fault_order.specs.Rules.{parts}
use Rattle.fault_order.specs.Private.FirstMet.{first, first_in}
use Rattle.fault_order.proofs.TableFaults.{then_parts, rule_holds}
use Rattle.silage_syntax.specs.declared.tree.Decl.{Decl}
use Rattle.silage_syntax.specs.Tree.{Manifest, Place, Expr, Item, equation, call, loop, initial, Items, no_item, item}
use Rattle.silage_syntax.specs.Tree.{Func, Program}
use Rattle.silage_syntax.specs.Manifests.{Indices, manifest_value}
use Rattle.silage_syntax.specs.Names.{declared, function_named, element_count}
use Rattle.silage_meaning.specs.Instances.{Instance as Path, inside, element, Site, turns_of}
use Rattle.silage_meaning.specs.Solves.{Source, value as of_value, same as of_same}
use Rattle.element_rules.specs.declared.fault.PlacedFault.TheVariants.{Delay, DefinedTwice}
use Rattle.element_rules.specs.Tables.{defines, counts, presets, Table, rules, mark, in_order, Row, nothing, ◌▹◌}
use Rattle.element_rules.specs.Tables.{each, Context, is_defined, after, after_row, table_rules, row_rules}
use Rattle.element_rules.specs.ElementRules.{weight, picked, counted, definition, target_table, array_table}
use Rattle.element_rules.specs.ElementRules.{initial_value, initial_table, taker_table, takers, value_rules}
use Rattle.element_rules.specs.ElementRules.{subscript_rules, number_rules, samples, expr_rules, entry as entry_table}
use Rattle.element_rules.specs.ElementRules.{call_table, item_table, items_row, loop_turns}

pub record Entry : Type 0 where
  pub declaration : ℕ
  pub offset : ℕ
  pub source : Source

abbrev pub entry_at : ℕ → ℕ → Source → Entry
entry_at d k source = record { declaration = d; offset = k; source = source }

pub record IsAt (es : List Entry) (d k : ℕ) : Type 0 where
  pub index : ℕ
  pub entry : Entry
  pub here : slice_get es index ≡ Some entry
  pub declaration : entry.declaration ≡ d
  pub offset : entry.offset ≡ k

-- between these two contexts these elements are defined, each for the first time
pub record Adds (before later : Context) (es : List Entry) : Type 0 where
  pub new : (i : ℕ) (e : Entry) → slice_get es i ≡ Some e → is_defined before e.declaration e.offset ≡ false
  pub apart : (i j : ℕ) (e f : Entry)
      → slice_get es i ≡ Some e
      → slice_get es j ≡ Some f
      → e.declaration ≡ f.declaration
      → e.offset ≡ f.offset
      → i ≡ j
  pub there : (i : ℕ) (e : Entry) → slice_get es i ≡ Some e → is_defined later e.declaration e.offset ≡ true
  pub keeps : (d k : ℕ) → is_defined before d k ≡ true → is_defined later d k ≡ true
  pub from : (d k : ℕ) → is_defined later d k ≡ true → (is_defined before d k ≡ true) ⊎ IsAt es d k

pub no_entry : {A : Type 0} (i : ℕ) (e : Entry) → slice_get [] i ≡ Some e → A
no_entry i e h = absurd (cc)

pub both_ways : {A : Type 0} (b : Bool) → b ≡ true → b ≡ false → A
both_ways true t f = absurd (cc (f))
both_ways false t f = absurd (cc (t))

adds_none : (before later : Context) → ((d k : ℕ) → is_defined later d k ≡ is_defined before d k) → Adds before later []
adds_none before later same = record {
  new = λ i e h. no_entry i e h;
  apart = λ i j e f h g s t. no_entry i e h;
  there = λ i e h. no_entry i e h;
  keeps = λ d k h. same d k ∙ h;
  from = λ d k h. inl (sym (same d k) ∙ h);
}

adds_then : (a b c : Context) (es fs : List Entry) → Adds a b es → Adds b c fs → Adds a c (es ++ fs)
adds_then a b c es fs x y =
    record { new = new; apart = apart; there = there; keeps = λ d k h. y.keeps d k (x.keeps d k h); from = from }
  where
    new : (i : ℕ) (e : Entry) → slice_get (es ++ fs) i ≡ Some e → is_defined a e.declaration e.offset ≡ false
    new i e h = elim (at_append es fs i e h) [
      | inl left ↦ x.new i e left
      | inr right ↦ earlier (is_defined a e.declaration e.offset) refl (y.new right.0 e right.2)
    ]
      where
        earlier : (t : Bool)
            → is_defined a e.declaration e.offset ≡ t
            → is_defined b e.declaration e.offset ≡ false
            → t ≡ false
        earlier true is later = both_ways _ (x.keeps e.declaration e.offset is) later
        earlier false is later = refl

    crossed : (i j : ℕ) (e f : Entry)
        → slice_get es i ≡ Some e
        → slice_get fs j ≡ Some f
        → e.declaration ≡ f.declaration
        → e.offset ≡ f.offset
        → ⊥
    crossed i j e f h g s t =
        both_ways (is_defined b f.declaration f.offset) (rw (← s, ← t) (x.there i e h)) (y.new j f g)

    apart : (i j : ℕ) (e f : Entry)
        → slice_get (es ++ fs) i ≡ Some e
        → slice_get (es ++ fs) j ≡ Some f
        → e.declaration ≡ f.declaration
        → e.offset ≡ f.offset
        → i ≡ j
    apart i j e f h g s t = elim (at_append es fs i e h) [
      | inl left ↦ elim (at_append es fs j f g) [
        | inl other ↦ x.apart i j e f left other s t
        | inr other ↦ absurd (crossed i other.0 e f left other.2 s t)
      ]
      | inr right ↦ elim (at_append es fs j f g) [
        | inl other ↦ absurd (crossed j right.0 f e other right.2 (sym s) (sym t))
        | inr other ↦ let same = y.apart right.0 other.0 e f right.2 other.2 s t in omega (arith, right.1, other.1)
      ]
    ]

    there : (i : ℕ) (e : Entry) → slice_get (es ++ fs) i ≡ Some e → is_defined c e.declaration e.offset ≡ true
    there i e h = elim (at_append es fs i e h) [
      | inl left ↦ y.keeps e.declaration e.offset (x.there i e left)
      | inr right ↦ y.there right.0 e right.2
    ]

    from : (d k : ℕ) → is_defined c d k ≡ true → (is_defined a d k ≡ true) ⊎ IsAt (es ++ fs) d k
    from d k h = elim (y.from d k h) [
      | inl before ↦ elim (x.from d k before) [
        | inl first ↦ inl first
        | inr at ↦
            inr (record {
              index = at.index;
              entry = at.entry;
              here = at_left es fs at.index at.entry at.here;
              declaration = at.declaration;
              offset = at.offset;
            })
      ]
      | inr at ↦
          inr (record {
            index = length es + at.index;
            entry = at.entry;
            here = at_right es fs (length es + at.index) at.index at.entry refl at.here;
            declaration = at.declaration;
            offset = at.offset;
          })
    ]

adds_one : (context : Context) (d k at : ℕ) (source : Source)
    → first (table_rules context (mark (defines d k at))) ≡ Ok tt
    → Adds context (after context (mark (defines d k at))) (entry_at d k source ∷ [])
adds_one context d k at source ok = record { new = new; apart = apart; there = there; keeps = keeps; from = from }
  where
    only : (i : ℕ) (e : Entry) → slice_get (entry_at d k source ∷ []) i ≡ Some e → (entry_at d k source ≡ e) × (i ≡ 0)
    only zero e h = (cc, refl)
    only (suc i) e h = no_entry i e h

    new : (i : ℕ) (e : Entry)
        → slice_get (entry_at d k source ∷ []) i ≡ Some e
        → is_defined context e.declaration e.offset ≡ false
    new i e h =
        subst (λ (x : Entry). is_defined context x.declaration x.offset ≡ false) (only i e h).0
        (not-true (is_defined context d k) (rule_holds (not (is_defined context d k)) (DefinedTwice at) ok))

    apart : (i j : ℕ) (e f : Entry)
        → slice_get (entry_at d k source ∷ []) i ≡ Some e
        → slice_get (entry_at d k source ∷ []) j ≡ Some f
        → e.declaration ≡ f.declaration
        → e.offset ≡ f.offset
        → i ≡ j
    apart i j e f h g s t = (only i e h).1 ∙ sym (only j f g).1

    itself : nat_eq d d && nat_eq k k || is_defined context d k ≡ true
    itself = elim (eqb_tells d d) [
      | inl same ↦ elim (eqb_tells k k) [ inl too ↦ rw (same.0, too.0) refl | inr other ↦ absurd (other.1 refl) ]
      | inr other ↦ absurd (other.1 refl)
    ]

    there : (i : ℕ) (e : Entry)
        → slice_get (entry_at d k source ∷ []) i ≡ Some e
        → is_defined (after context (mark (defines d k at))) e.declaration e.offset ≡ true
    there i e h =
        subst (λ (x : Entry). is_defined (after context (mark (defines d k at))) x.declaration x.offset ≡ true)
        (only i e h).0 itself

    or_keeps : (a b : Bool) → b ≡ true → a || b ≡ true
    or_keeps true b e = refl
    or_keeps false b e = e

    keeps : (e j : ℕ) → is_defined context e j ≡ true → is_defined (after context (mark (defines d k at))) e j ≡ true
    keeps e j h = or_keeps (nat_eq e d && nat_eq j k) (is_defined context e j) h

    from : (e j : ℕ)
        → is_defined (after context (mark (defines d k at))) e j ≡ true
        → (is_defined context e j ≡ true) ⊎ IsAt (entry_at d k source ∷ []) e j
    from e j h = elim (eqb_tells e d) [
      | inl same ↦ elim (eqb_tells j k) [
        | inl too ↦
            inr (record {
              index = 0;
              entry = entry_at d k source;
              here = refl;
              declaration = sym same.1;
              offset = sym too.1;
            })
        | inr other ↦ inl (rw (same.0, other.0) at h)
      ]
      | inr other ↦ inl (rw other.0 at h)
    ]

abbrev pub TableAdds : Table → List Entry → Type 0
TableAdds T es = (context : Context) → first (table_rules context T) ≡ Ok tt → Adds context (after context T) es

abbrev pub RowAdds : Row → List Entry → Type 0
RowAdds row es =
    (context : Context) → first_in (row_rules context row) ≡ Ok tt → Adds context (after_row context row) es

nothing_adds : RowAdds nothing []
nothing_adds context ok = adds_none context context (λ d k. refl)

row_adds : (T : Table) (row : Row) (es fs : List Entry) → TableAdds T es → RowAdds row fs → RowAdds (T ▹ row) (es ++ fs)
row_adds T row es fs one rest context ok =
    let parts = then_parts (first (table_rules context T)) (first_in (row_rules (after context T) row)) ok in
    adds_then context (after context T) (after_row (after context T) row) es fs (one context parts.0)
    (rest (after context T) parts.1)

skip : (T : Table) (row : Row) (es : List Entry) → TableAdds T [] → RowAdds row es → RowAdds (T ▹ row) es
skip T row es one rest = row_adds T row [] es one rest

last : (T : Table) (es : List Entry) → TableAdds T es → RowAdds (T ▹ nothing) es
last T es one context ok =
    let parts = then_parts (first (table_rules context T)) (Ok tt) ok in
    one context parts.0

counted_adds : (load at : ℕ) → TableAdds (counted load at) []
counted_adds load at = by (nat_eq load 0)
  where
    by : (b : Bool) → TableAdds (cond b (in_order nothing) (mark (counts load at))) []
    by true context ok = adds_none context context (λ d k. refl)
    by false context ok = adds_none context (after context (mark (counts load at))) (λ d k. refl)

rules_add : (R : _) → TableAdds (rules R) []
rules_add R context ok = adds_none context context (λ d k. refl)

args_add : {A : Type 0} (G : A → _) (xs : List A) → RowAdds (each (λ x. rules (G x)) xs) []
args_add G [] = nothing_adds
args_add G (x ∷ xs) = skip (rules (G x)) (each (λ x. rules (G x)) xs) [] (rules_add (G x)) (args_add G xs)

abbrev pub at_offset : ℕ → Option ℕ → Source → List Entry
at_offset d None source = []
at_offset d (Some k) source = entry_at d k source ∷ []

abbrev pub target_entries : Indices → Option (ℕ × Decl) → Place → (Decl → Source) → List Entry
target_entries indices None place source = []
target_entries indices (Some q) place source = at_offset q.0 (picked indices q.1.dims place.subs) (source q.1)

abbrev pub array_entries : Option (ℕ × Decl) → (Decl → ℕ → Source) → List Entry
array_entries None source = []
array_entries (Some q) source = map (λ k. entry_at q.0 k (source q.1 k)) (range_with_len 0 (element_count q.1.dims))

definition_adds : (d : ℕ) (o : Option ℕ) (at : ℕ) (source : Source)
    → TableAdds (definition d o at) (at_offset d o source)
definition_adds d None at source context ok = adds_none context context (λ d k. refl)
definition_adds d (Some k) at source context ok = adds_one context d k at source ok

target_adds : (indices : Indices) (o : Option (ℕ × Decl)) (place : Place) (source : Decl → Source)
    → TableAdds (target_table indices o place) (target_entries indices o place source)
target_adds indices None place source = λ context ok. adds_none context context (λ d k. refl)
target_adds indices (Some q) place source =
    let es = at_offset q.0 (picked indices q.1.dims place.subs) (source q.1) in
    let subs = parts (subscript_rules indices q.1.dims place.subs) in
    skip (rules subs) (definition q.0 (picked indices q.1.dims place.subs) place.at ▹ nothing) es (rules_add subs)
    (last (definition q.0 (picked indices q.1.dims place.subs) place.at) es
    (definition_adds q.0 (picked indices q.1.dims place.subs) place.at (source q.1)))

array_adds : (o : Option (ℕ × Decl)) (place : Place) (source : Decl → ℕ → Source)
    → TableAdds (array_table o place) (array_entries o source)
array_adds None place source = λ context ok. adds_none context context (λ d k. refl)
array_adds (Some q) place source = places 0 (element_count q.1.dims)
  where
    places : (a n : ℕ)
        → RowAdds (each (λ k. mark (defines q.0 k place.at)) (range_with_len a n))
        (map (λ k. entry_at q.0 k (source q.1 k)) (range_with_len a n))
    places a zero = nothing_adds
    places a (suc n) =
        row_adds (mark (defines q.0 a place.at)) (each (λ k. mark (defines q.0 k place.at)) (range_with_len (a + 1) n))
        (entry_at q.0 a (source q.1 a) ∷ []) _
        (λ context ok. adds_one context q.0 a place.at (source q.1 a) ok) (places (a + 1) n)

value_adds : (d : ℕ) (o : Option ℕ) (v : Option ℤ) (at : ℕ) → TableAdds (initial_value d o v at) []
value_adds d None v at context ok = adds_none context context (λ d k. refl)
value_adds d (Some k) None at context ok = adds_none context context (λ d k. refl)
value_adds d (Some k) (Some (pos s)) at context ok =
    adds_none context (after context (mark (presets d k s at))) (λ d k. refl)
value_adds d (Some k) (Some (negsuc s)) at context ok = adds_none context context (λ d k. refl)

initial_adds : (indices : Indices) (o : Option (ℕ × Decl)) (place : Place) (amount : Manifest)
    → TableAdds (initial_table indices o place amount) []
initial_adds indices None place amount = λ context ok. adds_none context context (λ d k. refl)
initial_adds indices (Some q) place amount =
    let the_value = initial_value q.0 (picked indices q.1.dims place.subs) (manifest_value indices amount) place.at in
    let counted_row = mark (counts 1 place.at) ▹ nothing in
    let subs = parts (subscript_rules indices q.1.dims place.subs) in
    let sample = number_rules indices samples Delay amount in
    skip (rules subs) (rules sample ▹ the_value ▹ counted_row) [] (rules_add subs)
    (skip (rules sample) (the_value ▹ counted_row) [] (rules_add sample)
    (skip the_value counted_row []
    (value_adds q.0 (picked indices q.1.dims place.subs) (manifest_value indices amount) place.at)
    (last (mark (counts 1 place.at)) []
    (λ context ok. adds_none context (after context (mark (counts 1 place.at))) (λ d k. refl)))))

-- the entries of each of a list
abbrev pub joined : {A : Type 0} → (A → List Entry) → List A → List Entry
joined G [] = []
joined G (x ∷ xs) = G x ++ joined G xs

module _ (p : Program) (path : Path) (f : Func) where
  abbrev pub site : Indices → Site
  site indices = record { instance = path; function = f; indices = indices }

  abbrev pub made_by : (at : ℕ) → Indices → Path
  made_by at indices = inside path (record { at = at; turns = turns_of indices })

  -- element k of result r of the instance that a call makes, as the type of what takes it
  abbrev pub result_source : (made : Path) → Func → (r : ℕ) → (result decl : Decl) → (k : ℕ) → Source
  result_source made g r result decl k = of_same (element made (length g.params + r) k) result.ty decl.ty

  abbrev pub taker_entries : Indices → Path → Func → (r : ℕ) → Decl → Place → List Entry
  taker_entries indices made g r result place =
      cond (nat_eq (length result.dims) 0)
      (target_entries indices (declared f place.name) place (λ decl. result_source made g r result decl 0))
      (array_entries (declared f place.name) (λ decl k. result_source made g r result decl k))

  abbrev pub takers_entries : Indices → Path → Func → (r : ℕ) → List Decl → List Place → List Entry
  takers_entries indices made g r (result ∷ results) (place ∷ places) =
      taker_entries indices made g r result place ++ takers_entries indices made g (r + 1) results places
  takers_entries indices made g r _ _ = []

  abbrev pub call_entries : Indices → Option Func → List Place → (at : ℕ) → List Entry
  call_entries indices None places at = []
  call_entries indices (Some g) places at = takers_entries indices (made_by at indices) g 0 g.results places

  abbrev mutual
    pub item_entries : Indices → Item → List Entry
    item_entries indices (equation place x) =
        target_entries indices (declared f place.name) place (λ decl. of_value (site indices) x decl.ty)
    item_entries indices (call places name args at) = call_entries indices (function_named p name) places at
    item_entries indices (loop index lo hi items at) =
        joined (λ turn. items_entries (indices ++ (index, turn) ∷ []) items)
        (loop_turns (manifest_value indices lo) (manifest_value indices hi))
    item_entries indices (initial place amount value) = []

    pub items_entries : Indices → Items → List Entry
    items_entries indices no_item = []
    items_entries indices (item x rest) = item_entries indices x ++ items_entries indices rest

  taker_adds : (indices : Indices) (made : Path) (g : Func) (r : ℕ) (result : Decl) (place : Place)
      → TableAdds (taker_table p f indices result place) (taker_entries indices made g r result place)
  taker_adds indices made g r result place = by (nat_eq (length result.dims) 0)
    where
      by : (b : Bool)
          → TableAdds
          (cond b (target_table indices (declared f place.name) place) (array_table (declared f place.name) place))
          (cond b
          (target_entries indices (declared f place.name) place (λ decl. result_source made g r result decl 0))
          (array_entries (declared f place.name) (λ decl k. result_source made g r result decl k)))
      by true = target_adds indices (declared f place.name) place (λ decl. result_source made g r result decl 0)
      by false = array_adds (declared f place.name) place (λ decl k. result_source made g r result decl k)

  takers_add : (indices : Indices) (made : Path) (g : Func) (r : ℕ) (results : List Decl) (places : List Place)
      → RowAdds (takers p f indices results places) (takers_entries indices made g r results places)
  takers_add indices made g r [] places = nothing_adds
  takers_add indices made g r (result ∷ results) [] = nothing_adds
  takers_add indices made g r (result ∷ results) (place ∷ places) =
      row_adds (taker_table p f indices result place) (takers p f indices results places)
      (taker_entries indices made g r result place) (takers_entries indices made g (r + 1) results places)
      (taker_adds indices made g r result place) (takers_add indices made g (r + 1) results places)

  module _ (table_of : Func → Table) where
    call_adds : (indices : Indices) (o : Option Func) (places : List Place) (name : List ℕ) (args : List Expr) (at : ℕ)
        → TableAdds (call_table p f table_of indices o places name args at) (call_entries indices o places at)
    call_adds indices None places name args at context ok = adds_none context context (λ d k. refl)
    call_adds indices (Some g) places name args at context ok =
        let es = call_entries indices (Some g) places at in
        let T = entry_table p f table_of indices name g at in
        subst (λ l. Adds context (after context (call_table p f table_of indices (Some g) places name args at)) l)
        (append-nil es)
        (row_adds (in_order (takers p f indices g.results places))
        (in_order (each (λ x. rules (expr_rules p f indices x)) args) ▹ counted (sum_by weight args) at ▹ T ▹ nothing)
        es [] (takers_add indices (made_by at indices) g 0 g.results places)
        (skip (in_order (each (λ x. rules (expr_rules p f indices x)) args))
        (counted (sum_by weight args) at ▹ T ▹ nothing) [] (args_add (expr_rules p f indices) args)
        (skip (counted (sum_by weight args) at) (T ▹ nothing) [] (counted_adds (sum_by weight args) at)
        (last T [] (λ context ok. adds_none context (after context T) (λ d k. refl)))))
        context ok)

    turns_add : (items : Items) (index : List ℕ) (at : ℕ) (indices : Indices) (turns : List ℤ)
        → ((turn : ℤ)
        → RowAdds (items_row p f table_of (indices ++ (index, turn) ∷ []) items)
        (items_entries (indices ++ (index, turn) ∷ []) items))
        → RowAdds (each
        (λ turn. in_order (mark (counts 1 at) ▹ items_row p f table_of (indices ++ (index, turn) ∷ []) items))
        turns)
        (joined (λ turn. items_entries (indices ++ (index, turn) ∷ []) items) turns)
    turns_add items index at indices [] each_turn = nothing_adds
    turns_add items index at indices (turn ∷ turns) each_turn =
        row_adds (in_order (mark (counts 1 at) ▹ items_row p f table_of (indices ++ (index, turn) ∷ []) items))
        (each (λ turn. in_order (mark (counts 1 at) ▹ items_row p f table_of (indices ++ (index, turn) ∷ []) items))
        turns)
        (items_entries (indices ++ (index, turn) ∷ []) items)
        (joined (λ turn. items_entries (indices ++ (index, turn) ∷ []) items) turns)
        (skip (mark (counts 1 at)) (items_row p f table_of (indices ++ (index, turn) ∷ []) items)
        (items_entries (indices ++ (index, turn) ∷ []) items)
        (λ context ok. adds_none context (after context (mark (counts 1 at))) (λ d k. refl)) (each_turn turn))
        (turns_add items index at indices turns each_turn)

    mutual
      item_adds : (x : Item) (indices : Indices)
          → TableAdds (item_table p f table_of indices x) (item_entries indices x)
      item_adds (equation place x) indices = λ context ok.
          subst (λ l. Adds context (after context (item_table p f table_of indices (equation place x))) l)
          (append-nil (item_entries indices (equation place x)))
          (row_adds (target_table indices (declared f place.name) place)
          (rules (expr_rules p f indices x) ▹ counted (weight x) place.at ▹ nothing)
          (item_entries indices (equation place x)) []
          (target_adds indices (declared f place.name) place (λ decl. of_value (site indices) x decl.ty))
          (skip (rules (expr_rules p f indices x)) (counted (weight x) place.at ▹ nothing) []
          (rules_add (expr_rules p f indices x))
          (last (counted (weight x) place.at) [] (counted_adds (weight x) place.at)))
          context ok)
      item_adds (call places name args at) indices = call_adds indices (function_named p name) places name args at
      item_adds (loop index lo hi items at) indices =
          let turns = loop_turns (manifest_value indices lo) (manifest_value indices hi) in
          let turns_row =
          each
          (λ turn. in_order (mark (counts 1 at) ▹ items_row p f table_of (indices ++ (index, turn) ∷ []) items))
          turns in
          let es = joined (λ turn. items_entries (indices ++ (index, turn) ∷ []) items) turns in
          skip (rules (value_rules indices lo)) (rules (value_rules indices hi) ▹ in_order turns_row ▹ nothing) es
          (rules_add (value_rules indices lo))
          (skip (rules (value_rules indices hi)) (in_order turns_row ▹ nothing) es (rules_add (value_rules indices hi))
          (last (in_order turns_row) (joined (λ turn. items_entries (indices ++ (index, turn) ∷ []) items) turns)
          (turns_add items index at indices turns (λ turn. items_add items (indices ++ (index, turn) ∷ [])))))
      item_adds (initial place amount value) indices = initial_adds indices (declared f place.name) place amount

      pub items_add : (items : Items) (indices : Indices)
          → RowAdds (items_row p f table_of indices items) (items_entries indices items)
      items_add no_item indices = nothing_adds
      items_add (item x rest) indices =
          row_adds (item_table p f table_of indices x) (items_row p f table_of indices rest) (item_entries indices x)
          (items_entries indices rest) (item_adds x indices) (items_add rest indices)
