-- A program without a fault of elements has at most as many elements as its load.
use Rattle.std.proofs.Common.{◌≡◌, refl, sym, subst, ◌∙◌, ap, ap₂, arith, ℕ, zero, suc, ◌+◌, ◌≤◌, List, [], ◌∷◌, ◌++◌}
use Rattle.std.proofs.Common.{length, length-append, slice_get, codes, sum_by, Option, Some, None, Ok, ℤ}
use Rattle.std.specs.Prelude.{nat_le}
use Rattle.std.proofs.lemmas.Bool.{leb-true}
use Rattle.std.proofs.lemmas.List.FromFn.{length-map-range_with_len}
use Rattle.std.proofs.lemmas.List.Sums.{sum_by-cons}
use Rattle.lists.proofs.Places.{some_once}
use Rattle.fault_order.specs.Ranked.{IsClear}
use Rattle.fault_order.specs.Private.FirstMet.{first, first_in}
use Rattle.fault_order.proofs.TableFaults.{then_parts, rule_holds}
use Rattle.silage_syntax.specs.declared.tree.Decl.{Decl}
use Rattle.silage_syntax.specs.Tree.{Place, Expr, Item, equation, call, loop, initial, Items, no_item, item, Func, Top}
use Rattle.silage_syntax.specs.Tree.{function, Program}
use Rattle.silage_syntax.specs.Manifests.{Indices, manifest_value}
use Rattle.silage_syntax.specs.Names.{decls, declared, element_count, function_named, main_of}
use Rattle.silage_meaning.specs.Instances.{Step, turns_of}
use Rattle.name_rules.specs.declared.fault.NameFault.TheVariants.{NoMain}
use Rattle.name_rules.specs.NameFaults.{name_faults}
use Rattle.name_rules.specs.TopNames.{top_names, position_of}
use Rattle.name_rules.specs.FirstTops.{IsDistinct}
use Rattle.element_rules.specs.ElementFaults.{element_faults}
use Rattle.element_rules.specs.declared.elements.Instance.{Instance}
use Rattle.element_rules.specs.declared.elements.Elements.{Elements}
use Rattle.element_rules.specs.declared.fault.PlacedFault.TheVariants.{TooLarge}
use Rattle.element_rules.specs.Tables.{Mark, given, defines, presets, needs, counts, load_of, load_before, max_load}
use Rattle.element_rules.specs.Tables.{Table, rules, mark, in_order, enters, Row, nothing, ◌▹◌, each, each_from}
use Rattle.element_rules.specs.Tables.{Context, at_entry, after, after_row, table_rules, row_rules}
use Rattle.element_rules.specs.Expansion.{entered, instances_after, row_instances, elements_from, elements_in}
use Rattle.element_rules.specs.Expansion.{signals_of, IsExpansion}
use Rattle.element_rules.specs.ElementRules.{weight, counted, each_place, elements_of, value_rules, takers}
use Rattle.element_rules.specs.ElementRules.{expr_rules, entry, call_table, item_table, items_row, instance_table}
use Rattle.element_rules.specs.ElementRules.{loop_turns, word_rules, max_nested, main_table, program_table}
use Rattle.element_rules.proofs.NamedTops.{top_named}
use Rattle.element_rules.proofs.SoundNames.{names_apart}
use Rattle.element_rules.proofs.PlacedFaults.{elements_pass}
use Rattle.element_rules.proofs.QuietTables.{EntersNone, none_each_from, none_places, none_counted, none_target}
use Rattle.element_rules.proofs.QuietTables.{none_initial, none_takers, none_args}

-- The load only grows, and stays at most 8,192 where no rule is broken.
mutual
  pub grows : (context : Context) (T : Table) → load_before context ≤ load_before (after context T)
  grows context (rules R) = omega arith
  grows context (mark m) = let sum = sum_by-cons load_of m context.of_program in omega arith
  grows context (in_order row) = row_grows context row
  grows context (enters func step T) = grows (at_entry context.of_program) T

  row_grows : (context : Context) (row : Row) → load_before context ≤ load_before (after_row context row)
  row_grows context nothing = omega arith
  row_grows context (T ▹ row) = let a = grows context T in let b = row_grows (after context T) row in omega arith

mark_within : (context : Context) (m : Mark)
    → load_before context ≤ max_load
    → first (table_rules context (mark m)) ≡ Ok tt
    → load_before (after context (mark m)) ≤ max_load
mark_within context (given d k) low ok = let sum = sum_by-cons load_of (given d k) context.of_program in omega arith
mark_within context (defines d k at) low ok =
    let sum = sum_by-cons load_of (defines d k at) context.of_program in omega arith
mark_within context (presets d k s at) low ok =
    let sum = sum_by-cons load_of (presets d k s at) context.of_program in omega arith
mark_within context (needs d k at) low ok =
    let sum = sum_by-cons load_of (needs d k at) context.of_program in omega arith
mark_within context (counts load at) low ok =
    let most =
    leb-true (load_before context + load) max_load
    (rule_holds (nat_le (load_before context + load) max_load) (TooLarge at) ok) in
    let sum = sum_by-cons load_of (counts load at) context.of_program in
    omega arith

mutual
  pub within : (context : Context) (T : Table)
      → load_before context ≤ max_load
      → first (table_rules context T) ≡ Ok tt
      → load_before (after context T) ≤ max_load
  within context (rules R) low ok = low
  within context (mark m) low ok = mark_within context m low ok
  within context (in_order row) low ok = row_within context row low ok
  within context (enters func step T) low ok = within (at_entry context.of_program) T low ok

  row_within : (context : Context) (row : Row)
      → load_before context ≤ max_load
      → first_in (row_rules context row) ≡ Ok tt
      → load_before (after_row context row) ≤ max_load
  row_within context nothing low ok = low
  row_within context (T ▹ row) low ok =
      let parts = then_parts (first (table_rules context T)) (first_in (row_rules (after context T) row)) ok in
      row_within (after context T) row (within context T low parts.0) parts.1

pub elements_length : (n d : ℕ) (ds : List Decl) → length (elements_from n d ds) ≡ elements_of ds
elements_length n d [] = refl
elements_length n d (x ∷ ds) =
    length-append _ _ ∙ ap₂ ◌+◌ (length-map-range_with_len _ 0 (element_count x.dims)) (elements_length n (d + 1) ds)
    ∙ sym (sum_by-cons (λ (d : Decl). element_count d.dims) x ds)

module _ (p : Program) where
  -- how many elements instances have
  abbrev pub own_size : Instance → ℕ
  own_size i = elements_of (signals_of (slice_get p.tops i.func))

  abbrev pub size : List Instance → ℕ
  size [] = 0
  size (i ∷ is) = own_size i + size is

  pub size_is : (n : ℕ) (is : List Instance) → length (elements_in p n is) ≡ size is
  size_is n [] = refl
  size_is n (i ∷ is) =
      length-append _ _ ∙ ap₂ ◌+◌ (elements_length n 0 (signals_of (slice_get p.tops i.func))) (size_is (n + 1) is)

  size_push : (front : List Instance) (i : Instance) → size (front ++ i ∷ []) ≡ size front + own_size i
  size_push [] i = omega arith
  size_push (x ∷ front) i = let rest = size_push front i in omega arith

  -- the load grows by the elements of the instances that are entered
  abbrev Pays : Table → Type 0
  Pays T =
      (number : ℕ) (front : List Instance) (context : Context)
      → first (table_rules context T) ≡ Ok tt
      → size (instances_after number front T) + load_before context ≤ load_before (after context T) + size front

  abbrev PaysRow : Row → Type 0
  PaysRow row =
      (number : ℕ) (front : List Instance) (context : Context)
      → first_in (row_rules context row) ≡ Ok tt
      → size (row_instances number front row) + load_before context ≤ load_before (after_row context row) + size front

  -- the same and more, by the elements of this function
  abbrev PaysFor : Func → Table → Type 0
  PaysFor f T = (number : ℕ) (front : List Instance) (context : Context) → first (table_rules context T) ≡ Ok tt
      → size (instances_after number front T) + load_before context + elements_of (decls f)
      ≤ load_before (after context T) + size front

  none_pays : (T : Table) → EntersNone T → Pays T
  none_pays T none number front context ok =
      let more = grows context T in
      let same : size (instances_after number front T) ≡ size front = ap size (none number front) in
      omega arith

  end_pays : PaysRow nothing
  end_pays number front context ok = omega arith

  row_pays : (T : Table) (row : Row) → Pays T → PaysRow row → PaysRow (T ▹ row)
  row_pays T row a b number front context ok =
      let parts = then_parts (first (table_rules context T)) (first_in (row_rules (after context T) row)) ok in
      let own = a number front context parts.0 in
      let rest = b number (instances_after number front T) (after context T) parts.1 in
      omega arith

  enters_pays : (func : ℕ) (step : Step) (T : Table) (f : Func)
      → slice_get p.tops func ≡ Some (function f)
      → PaysFor f T
      → Pays (enters func step T)
  enters_pays func step T f there pays number front context ok =
      let all = pays (length front) (front ++ entered func number step ∷ []) (at_entry context.of_program) ok in
      let push = size_push front (entered func number step) in
      let own : own_size (entered func number step) ≡ elements_of (decls f) =
      ap (λ (o : Option Top). elements_of (signals_of o)) there in
      omega arith

  module _ (apart : IsDistinct (top_names p)) where
    module _ (g : Func) (calls : ℕ) (each_pays : (k : Func) → PaysFor k (instance_table p calls k)) where
      abbrev TableOf : Indices → Item → Table
      TableOf outer x = item_table p g (instance_table p calls) outer x

      call_pays : (outer : Indices) (places : List Place) (name : List ℕ) (args : List Expr) (at : ℕ) (o : Option Func)
          → function_named p name ≡ o
          → Pays (call_table p g (instance_table p calls) outer o places name args at)
      call_pays outer places name args at None is = end_pays
      call_pays outer places name args at (Some k) is =
          let its = entry p g (instance_table p calls) outer name k at in
          let load_row = counted (sum_by weight args) at ▹ its ▹ nothing in
          let args_row = in_order (each (λ x. rules (expr_rules p g outer x)) args) ▹ load_row in
          row_pays (in_order (takers p g outer k.results places)) args_row
          (none_pays (in_order (takers p g outer k.results places)) (none_takers outer p g k.results places))
          (row_pays (in_order (each (λ x. rules (expr_rules p g outer x)) args)) load_row
          (none_pays (in_order (each (λ x. rules (expr_rules p g outer x)) args)) (none_args outer p g args))
          (row_pays (counted (sum_by weight args) at) (its ▹ nothing)
          (none_pays (counted (sum_by weight args) at) (none_counted (sum_by weight args) at))
          (row_pays its nothing
          (enters_pays (position_of p name) (record { at = at; turns = turns_of outer }) (instance_table p calls k) k
          (top_named p name k apart is) (each_pays k)) end_pays)))

      -- a turn of a loop
      abbrev turn_row : Items → (index : List ℕ) → Indices → (at : ℕ) → (turn : ℤ) → Row
      turn_row items index outer at turn =
          mark (counts 1 at) ▹ items_row p g (instance_table p calls) (outer ++ (index, turn) ∷ []) items

      turns_pay : (items : Items) (index : List ℕ) (outer : Indices) (at : ℕ)
          → ((turn : ℤ) → PaysRow (items_row p g (instance_table p calls) (outer ++ (index, turn) ∷ []) items))
          → (turns : List ℤ)
          → PaysRow (each (λ turn. in_order (turn_row items index outer at turn)) turns)
      turns_pay items index outer at pays [] = end_pays
      turns_pay items index outer at pays (turn ∷ turns) =
          row_pays (in_order (turn_row items index outer at turn))
          (each (λ turn. in_order (turn_row items index outer at turn)) turns)
          (row_pays (mark (counts 1 at)) (items_row p g (instance_table p calls) (outer ++ (index, turn) ∷ []) items)
          (none_pays (mark (counts 1 at)) (λ number front. refl)) (pays turn))
          (turns_pay items index outer at pays turns)

      mutual
        item_pays : (x : Item) (outer : Indices) → Pays (TableOf outer x)
        item_pays (equation place x) outer =
            none_pays (TableOf outer (equation place x))
            (λ number front.
            ap (λ f. instances_after number f (counted (weight x) place.at))
            (none_target outer (declared g place.name) place number front)
            ∙ none_counted (weight x) place.at number front)
        item_pays (initial place amount value) outer =
            none_pays (TableOf outer (initial place amount value))
            (none_initial outer (declared g place.name) place amount)
        item_pays (call places name args at) outer = call_pays outer places name args at (function_named p name) refl
        item_pays (loop index lo hi items at) outer =
            let turns = loop_turns (manifest_value outer lo) (manifest_value outer hi) in
            let turns_row = in_order (each (λ turn. in_order (turn_row items index outer at turn)) turns) in
            row_pays (rules (value_rules outer lo)) (rules (value_rules outer hi) ▹ turns_row ▹ nothing)
            (none_pays (rules (value_rules outer lo)) (λ number front. refl))
            (row_pays (rules (value_rules outer hi)) (turns_row ▹ nothing)
            (none_pays (rules (value_rules outer hi)) (λ number front. refl))
            (row_pays turns_row nothing
            (turns_pay items index outer at (λ turn. items_pay items (outer ++ (index, turn) ∷ [])) turns) end_pays))

        items_pay : (items : Items) (outer : Indices) → PaysRow (items_row p g (instance_table p calls) outer items)
        items_pay no_item outer = end_pays
        items_pay (item x rest) outer =
            row_pays (TableOf outer x) (items_row p g (instance_table p calls) outer rest) (item_pays x outer)
            (items_pay rest outer)

    instance_pays : (calls : ℕ) (f : Func) → PaysFor f (instance_table p calls f)
    instance_pays zero f number front context ok = absurd (cc (ok))
    instance_pays (suc calls) f number front context ok =
        let the_items = items_row p f (instance_table p calls) [] f.items in
        let given_row = each_from (λ d decl. each_place (given d) decl) 0 f.params in
        let needs_row = each_from (λ d decl. each_place (λ k. needs d k decl.at) decl) 0 (decls f) in
        let count = counts (elements_of (decls f)) f.at in
        let rest = in_order given_row ▹ in_order the_items ▹ in_order needs_row ▹ nothing in
        let parts =
        then_parts (first (table_rules context (mark count)))
        (first_in (row_rules (after context (mark count)) rest)) ok in
        let pays : PaysRow rest =
        row_pays (in_order given_row) (in_order the_items ▹ in_order needs_row ▹ nothing)
        (none_pays (in_order given_row) (none_each_from _ (λ d decl. none_places (given d) decl) 0 f.params))
        (row_pays (in_order the_items) (in_order needs_row ▹ nothing)
        (items_pay f calls (λ k. instance_pays calls k) f.items [])
        (row_pays (in_order needs_row) nothing
        (none_pays (in_order needs_row)
        (none_each_from _ (λ d decl. none_places (λ k. needs d k decl.at) decl) 0 (decls f))) end_pays)) in
        let all = pays number front (after context (mark count)) parts.1 in
        let sum = sum_by-cons load_of count context.of_program in
        omega arith

    program_pays : (f : Func) → main_of p ≡ Some f → Pays (main_table p (Some f))
    program_pays f is =
        let start : Step = record { at = 0; turns = [] } in
        let its = enters (position_of p (codes "main")) start (instance_table p max_nested f) in
        row_pays (rules (word_rules f)) (its ▹ nothing) (none_pays (rules (word_rules f)) (λ number front. refl))
        (row_pays its nothing
        (enters_pays (position_of p (codes "main")) start (instance_table p max_nested f) f
        (top_named p (codes "main") f apart is) (instance_pays max_nested f)) end_pays)

-- a program without a fault of names has a function main
pub main_there : (p : Program) → IsClear (name_faults p) → (f : Func) × (main_of p ≡ Some f)
main_there p names = by (main_of p) refl
  where
    by : (o : Option Func) → main_of p ≡ o → (f : Func) × (main_of p ≡ Some f)
    by (Some f) e = (f, e)
    by None e = absurd (names (3 ∷ []) NoMain (e, refl))

module _ (p : Program) (names : IsClear (name_faults p)) (elements : IsClear (element_faults p)) (es : Elements)
    (made : IsExpansion p es) where
  few_instances : size p (instances_after 0 [] (program_table p)) ≤ max_load
  few_instances =
      let m = main_there p names in
      let ok : first (table_rules (at_entry []) (main_table p (Some m.0))) ≡ Ok tt =
      subst (λ o. first (table_rules (at_entry []) (main_table p o)) ≡ Ok tt) m.1 (elements_pass p elements) in
      let pays = program_pays p (names_apart p names) m.0 m.1 0 [] (at_entry []) ok in
      let low = within (at_entry []) (main_table p (Some m.0)) (omega arith) ok in
      let few : size p (instances_after 0 [] (main_table p (Some m.0))) ≤ max_load = omega arith in
      subst (λ o. size p (instances_after 0 [] (main_table p o)) ≤ max_load) (sym m.1) few

  own_within : (is : List Instance) (j : ℕ) (i : Instance) → slice_get is j ≡ Some i → own_size p i ≤ size p is
  own_within [] j i at = absurd (cc at)
  own_within (x ∷ is) zero i at = omega (arith, ap (own_size p) (some_once at refl))
  own_within (x ∷ is) (suc j) i at = omega (arith, own_within is j i at)

  -- there are at most 8,192 elements, in an instance and in all
  pub instance_small : (j : ℕ) (i : Instance)
      → slice_get es.instances j ≡ Some i
      → elements_of (signals_of (slice_get p.tops i.func)) ≤ 8192
  instance_small j i at = omega (arith, own_within es.instances j i at, ap (size p) made.instances, few_instances)

  pub few_in_all : size p es.instances ≤ 8192
  few_in_all = omega (arith, ap (size p) made.instances, few_instances)

  pub few_elements : length es.elements ≤ 8192
  few_elements =
      omega (arith, ap length made.elements, size_is p 0 es.instances, ap (size p) made.instances, few_instances)
