-- In a program without a fault each instance's table has none, and what it says of the definitions in the instance.
use Rattle.std.proofs.Common.{◌≡◌, ◌∙◌, ◌<◌, ◌≤◌, ◌+◌, ◌++◌, inl, inr, ℕ, zero, suc, ℤ, List, [], ◌∷◌, length, Bool}
use Rattle.std.proofs.Common.{true, false, sum_by, slice_get, Option, Some, None, Ok, refl, sym, ap, subst, arith}
use Rattle.std.specs.List.{range_with_len}
use Rattle.std.proofs.lemmas.Bool.{cases_eq}
use Rattle.lists.proofs.Places.{some_once}
use Rattle.fault_order.specs.Ranked.{IsClear}
use Rattle.fault_order.specs.Private.FirstMet.{first, first_in}
use Rattle.fault_order.proofs.TableFaults.{then_parts, rule_holds}
use Rattle.silage_syntax.specs.declared.tree.Decl.{Decl}
use Rattle.silage_syntax.specs.Tree.{Place, Expr, Item, equation, call, loop, initial, Items, no_item, item, Func}
use Rattle.silage_syntax.specs.Tree.{Program}
use Rattle.silage_syntax.specs.Manifests.{Indices, manifest_value}
use Rattle.silage_syntax.specs.Names.{decls, function_named, element_count, main_of}
use Rattle.silage_meaning.specs.Instances.{Instance as Path, main as main_path, inside, Occurs, OccursIn, IsInstance}
use Rattle.silage_meaning.specs.Instances.{main_is, inside_is}
use Rattle.element_rules.specs.declared.fault.PlacedFault.TheVariants.{NotDefined}
use Rattle.element_rules.specs.Tables.{Mark, given, needs, counts, Table, rules, mark, in_order, Row, nothing, ◌▹◌}
use Rattle.element_rules.specs.Tables.{each, each_from, Context, at_entry, is_defined, after, after_row, table_rules}
use Rattle.element_rules.specs.Tables.{row_rules}
use Rattle.element_rules.specs.ElementFaults.{element_faults}
use Rattle.element_rules.specs.ElementRules.{weight, counted, each_place, elements_of, value_rules, takers}
use Rattle.element_rules.specs.ElementRules.{expr_rules, entry, call_table, item_table, items_row, loop_turns}
use Rattle.element_rules.specs.ElementRules.{instance_table, word_rules, max_nested, main_table, element_rules}
use Rattle.element_rules.proofs.PlacedFaults.{elements_pass}
use Rattle.element_rules.proofs.LoopTurns.{IsAmong, turn_among}
use Rattle.element_rules.proofs.GivenElements.{param_given, past_params}
use Rattle.element_rules.proofs.DefinitionLists.{Entry, IsAt, Adds, items_entries, items_add}

pub first_of_two : (context : Context) (T : Table) (row : Row)
    → first_in (row_rules context (T ▹ row)) ≡ Ok tt
    → first (table_rules context T) ≡ Ok tt
first_of_two context T row ok =
    (then_parts (first (table_rules context T)) (first_in (row_rules (after context T) row)) ok).0

pub rest_of_two : (context : Context) (T : Table) (row : Row)
    → first_in (row_rules context (T ▹ row)) ≡ Ok tt
    → first_in (row_rules (after context T) row) ≡ Ok tt
rest_of_two context T row ok =
    (then_parts (first (table_rules context T)) (first_in (row_rules (after context T) row)) ok).1

-- each of a row without a fault has none
record IsOkSomewhere (T : Table) : Type 0 where
  context : Context
  ok : first (table_rules context T) ≡ Ok tt

each_ok : (G : ℤ → Table) (turns : List ℤ) (turn : ℤ)
    → IsAmong turn turns
    → (context : Context)
    → first_in (row_rules context (each G turns)) ≡ Ok tt
    → IsOkSomewhere (G turn)
each_ok G [] turn has context ok = absurd has
each_ok G (t ∷ turns) turn (inl same) context ok =
    rw same (record { context = context; ok = first_of_two context (G t) (each G turns) ok })
each_ok G (t ∷ turns) turn (inr has) context ok =
    each_ok G turns turn has (after context (G t)) (rest_of_two context (G t) (each G turns) ok)

module _ (p : Program) (g : Func) (table_of : Func → Table) where
  record IsEntered (h : Func) : Type 0 where
    marks : List Mark
    ok : first (table_rules (at_entry marks) (table_of h)) ≡ Ok tt

  call_entered :
      (outer : Indices) (o : Option Func) (places : List Place) (name : List ℕ) (args : List Expr) (at : ℕ)
      (context : Context)
      → first (table_rules context (call_table p g table_of outer o places name args at)) ≡ Ok tt
      → (h : Func)
      → o ≡ Some h
      → IsEntered h
  call_entered outer None places name args at context ok h is = absurd (cc (is))
  call_entered outer (Some k) places name args at context ok h is =
      let same : k ≡ h = some_once refl is in
      let takes = in_order (takers p g outer k.results places) in
      let passes = in_order (each (λ x. rules (expr_rules p g outer x)) args) in
      let load = counted (sum_by weight args) at in
      let it = entry p g table_of outer name k at in
      let a = rest_of_two context takes (passes ▹ load ▹ it ▹ nothing) ok in
      let b = rest_of_two (after context takes) passes (load ▹ it ▹ nothing) a in
      let c = rest_of_two (after (after context takes) passes) load (it ▹ nothing) b in
      let d = first_of_two (after (after (after context takes) passes) load) it nothing c in
      rw (← same) (record { marks = (after (after (after context takes) passes) load).of_program; ok = d })

  mutual
    item_entered : (x : Item) (outer : Indices) (context : Context)
        → first (table_rules context (item_table p g table_of outer x)) ≡ Ok tt
        → (places : List Place) (name : List ℕ) (args : List Expr) (at : ℕ) (indices : Indices) (h : Func)
        → OccursIn x outer (call places name args at) indices
        → function_named p name ≡ Some h
        → IsEntered h
    item_entered (equation place x) outer context ok places name args at indices h occurs named = absurd (cc (occurs.0))
    item_entered (initial place amount value) outer context ok places name args at indices h occurs named =
        absurd (cc (occurs.0))
    item_entered (call their_places their_name their_args their_at) outer context ok places name args at indices h
        occurs named =
        let same : name ≡ their_name = cc (occurs.0) in
        call_entered outer (function_named p their_name) their_places their_name their_args their_at context ok h
        (ap (function_named p) (sym same) ∙ named)
    item_entered (loop index lo hi items loop_at) outer context ok places name args at indices h (turn, is_turn, occurs)
        named =
        let turns = loop_turns (manifest_value outer lo) (manifest_value outer hi) in
        let G : ℤ → Table = λ turn.
        in_order (mark (counts 1 loop_at) ▹ items_row p g table_of (outer ++ (index, turn) ∷ []) items) in
        let from =
        rest_of_two context (rules (value_rules outer lo))
        (rules (value_rules outer hi) ▹ in_order (each G turns) ▹ nothing) ok in
        let to = rest_of_two context (rules (value_rules outer hi)) (in_order (each G turns) ▹ nothing) from in
        let all = first_of_two context (in_order (each G turns)) nothing to in
        let one = each_ok G turns turn (turn_among outer lo hi turn is_turn) context all in
        items_entered items (outer ++ (index, turn) ∷ []) (after one.context (mark (counts 1 loop_at)))
        (rest_of_two one.context (mark (counts 1 loop_at)) (items_row p g table_of (outer ++ (index, turn) ∷ []) items)
        one.ok)
        places name args at indices h occurs named

    items_entered : (items : Items) (outer : Indices) (context : Context)
        → first_in (row_rules context (items_row p g table_of outer items)) ≡ Ok tt
        → (places : List Place) (name : List ℕ) (args : List Expr) (at : ℕ) (indices : Indices) (h : Func)
        → Occurs items outer (call places name args at) indices
        → function_named p name ≡ Some h
        → IsEntered h
    items_entered no_item outer context ok places name args at indices h occurs named = absurd occurs
    items_entered (item x rest) outer context ok places name args at indices h (inl occurs) named =
        item_entered x outer context
        (first_of_two context (item_table p g table_of outer x) (items_row p g table_of outer rest) ok) places name args
        at indices h occurs named
    items_entered (item x rest) outer context ok places name args at indices h (inr occurs) named =
        items_entered rest outer (after context (item_table p g table_of outer x))
        (rest_of_two context (item_table p g table_of outer x) (items_row p g table_of outer rest) ok) places name args
        at indices h occurs named

-- What the table of an instance says where it has no fault.
module _ (p : Program) (calls : ℕ) (g : Func) (marks : List Mark)
    (ok : first (table_rules (at_entry marks) (instance_table p (suc calls) g)) ≡ Ok tt) where
  abbrev the_count : Table
  the_count = mark (counts (elements_of (decls g)) g.at)

  abbrev given_row : Row
  given_row = each_from (λ d decl. each_place (given d) decl) 0 g.params

  abbrev the_items : Row
  the_items = items_row p g (instance_table p calls) [] g.items

  abbrev needs_row : Row
  needs_row = each_from (λ d decl. each_place (λ k. needs d k decl.at) decl) 0 (decls g)

  abbrev counted_now : Context
  counted_now = after (at_entry marks) the_count

  abbrev begun : Context
  begun = after_row counted_now given_row

  abbrev ended : Context
  ended = after_row begun the_items

  given_ok : first_in (row_rules counted_now (in_order given_row ▹ in_order the_items ▹ in_order needs_row ▹ nothing))
      ≡ Ok tt
  given_ok =
      rest_of_two (at_entry marks) the_count (in_order given_row ▹ in_order the_items ▹ in_order needs_row ▹ nothing) ok

  items_ok_from : first_in (row_rules begun (in_order the_items ▹ in_order needs_row ▹ nothing)) ≡ Ok tt
  items_ok_from =
      rest_of_two counted_now (in_order given_row) (in_order the_items ▹ in_order needs_row ▹ nothing) given_ok

  pub items_ok : first_in (row_rules begun the_items) ≡ Ok tt
  items_ok = first_of_two begun (in_order the_items) (in_order needs_row ▹ nothing) items_ok_from

  needs_ok : first_in (row_rules ended needs_row) ≡ Ok tt
  needs_ok =
      first_of_two ended (in_order needs_row) nothing
      (rest_of_two begun (in_order the_items) (in_order needs_row ▹ nothing) items_ok_from)

  -- a row of needs adds nothing to what is defined
  place_need : (d at n a : ℕ) (context : Context)
      → first_in (row_rules context (each (λ k. mark (needs d k at)) (range_with_len a n))) ≡ Ok tt
      → (k : ℕ)
      → a ≤ k
      → k < a + n
      → is_defined context d k ≡ true
  place_need d at zero a context ok k least most = absurd (omega arith)
  place_need d at (suc n) a context ok k least most = elim (cases_eq k a) [
    | inl same ↦
        rw same (rule_holds (is_defined context d a) (NotDefined at a)
        (first_of_two context (mark (needs d a at)) (each (λ k. mark (needs d k at)) (range_with_len (a + 1) n))
        ok))
    | inr other ↦
        place_need d at n (a + 1) (after context (mark (needs d a at)))
        (rest_of_two context (mark (needs d a at)) (each (λ k. mark (needs d k at)) (range_with_len (a + 1) n)) ok) k
        (omega arith) (omega arith)
  ]

  same_after_place : (d at n a : ℕ) (context : Context) (e j : ℕ)
      → is_defined (after_row context (each (λ k. mark (needs d k at)) (range_with_len a n))) e j
      ≡ is_defined context e j
  same_after_place d at zero a context e j = refl
  same_after_place d at (suc n) a context e j =
      same_after_place d at n (a + 1) (after context (mark (needs d a at))) e j

  all_need : (a : ℕ) (ds : List Decl) (context : Context)
      → first_in (row_rules context (each_from (λ d decl. each_place (λ k. needs d k decl.at) decl) a ds)) ≡ Ok tt
      → (i : ℕ) (decl : Decl)
      → slice_get ds i ≡ Some decl
      → (d k : ℕ)
      → d ≡ a + i
      → k < element_count decl.dims
      → is_defined context d k ≡ true
  all_need a [] context ok i decl stands d k at within = absurd (cc (stands))
  all_need a (x ∷ ds) context ok zero decl stands d k at within =
      let same : x ≡ decl = cc (stands) in
      let less = subst (λ (y : Decl). k < element_count y.dims) (sym same) within in
      let here : d ≡ a = omega arith in
      rw here (place_need a x.at (element_count x.dims) 0 context
      (first_of_two context (each_place (λ k. needs a k x.at) x)
      (each_from (λ d decl. each_place (λ k. needs d k decl.at) decl) (a + 1) ds) ok) k (omega arith)
      (omega arith))
  all_need a (x ∷ ds) context ok (suc i) decl stands d k at within =
      let later = after context (each_place (λ k. needs a k x.at) x) in
      sym (same_after_place a x.at (element_count x.dims) 0 context d k)
      ∙ all_need (a + 1) ds later
      (rest_of_two context (each_place (λ k. needs a k x.at) x)
      (each_from (λ d decl. each_place (λ k. needs d k decl.at) decl) (a + 1) ds) ok) i decl stands d k
      (omega arith) within

  -- each element is defined in the end
  pub all_defined : (d k : ℕ) (decl : Decl)
      → slice_get (decls g) d ≡ Some decl
      → k < element_count decl.dims
      → is_defined ended d k ≡ true
  all_defined d k decl stands within = all_need 0 (decls g) ended needs_ok d decl stands d k (omega arith) within

  module _ (path : Path) where
    pub added : Adds begun ended (items_entries p path g [] g.items)
    added = items_add p path g (instance_table p calls) g.items [] begun items_ok

    -- no item defines an element of a parameter
    pub no_parameter : (i : ℕ) (e : Entry)
        → slice_get (items_entries p path g [] g.items) i ≡ Some e
        → (decl : Decl)
        → slice_get g.params e.declaration ≡ Some decl
        → e.offset < element_count decl.dims
        → ⊥
    no_parameter i e here decl stands within =
        let is_new = added.new i e here in
        let is_given =
        param_given e.declaration e.offset 0 g.params counted_now e.declaration decl (omega arith) stands within in
        contradiction (is_defined begun e.declaration e.offset) is_given is_new
      where
        contradiction : (b : Bool) → b ≡ true → b ≡ false → ⊥
        contradiction true t f = cc
        contradiction false t f = cc

    -- any other element has a definition among the items
    pub has_entry : (d k : ℕ) (decl : Decl)
        → slice_get (decls g) d ≡ Some decl
        → k < element_count decl.dims
        → length g.params ≤ d
        → IsAt (items_entries p path g [] g.items) d k
    has_entry d k decl stands within past = elim (added.from d k (all_defined d k decl stands within)) [
      | inl before ↦
          absurd
          (contradiction (is_defined begun d k) before (past_params d k 0 g.params counted_now (omega arith) refl))
      | inr at ↦ at
    ]
      where
        contradiction : (b : Bool) → b ≡ true → b ≡ false → ⊥
        contradiction true t f = cc
        contradiction false t f = cc

-- the instance has a table without a fault
pub record IsChecked (p : Program) (g : Func) : Type 0 where
  pub calls : ℕ
  pub marks : List Mark
  pub ok : first (table_rules (at_entry marks) (instance_table p (suc calls) g)) ≡ Ok tt

some_calls : (p : Program) (g : Func) (calls : ℕ) (marks : List Mark)
    → first (table_rules (at_entry marks) (instance_table p calls g)) ≡ Ok tt
    → IsChecked p g
some_calls p g zero marks ok = absurd (cc (ok))
some_calls p g (suc calls) marks ok = record { calls = calls; marks = marks; ok = ok }

module _ (p : Program) (clear : IsClear (element_faults p)) where
  main_ok : (f : Func) → main_of p ≡ Some f → first (table_rules (at_entry []) (instance_table p max_nested f)) ≡ Ok tt
  main_ok f is =
      let all : first (element_rules p) ≡ Ok tt = elements_pass p clear in
      let of_main : first (table_rules (at_entry []) (main_table p (Some f))) ≡ Ok tt =
      subst (λ o. first (table_rules (at_entry []) (main_table p o)) ≡ Ok tt) is all in
      (then_parts (first (table_rules (at_entry []) (instance_table p max_nested f))) (Ok tt)
      (then_parts (first (word_rules f)) _ of_main).1).0

  pub checked : (path : Path) (g : Func) → IsInstance p path g → IsChecked p g
  checked main_path g (main_is is) = some_calls p g max_nested [] (main_ok g is)
  checked (inside path step) h (inside_is {g = g} instance calls) =
      let outer = checked path g instance in
      let e =
      items_entered p g (instance_table p outer.calls) g.items [] _ (items_ok p outer.calls g outer.marks outer.ok)
      calls.places calls.name calls.args step.at calls.indices h calls.occurs calls.named in
      some_calls p h outer.calls e.marks e.ok
