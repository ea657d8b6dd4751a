-- The weights of the definitions of elements, beside the load of their table: these are within the load.
use Rattle.std.proofs.Common.{◌≡◌, refl, subst, arith, ℕ, zero, suc, ◌+◌, ◌≤◌, List, [], ◌∷◌, ◌++◌, codes, sum_by, Bool}
use Rattle.std.proofs.Common.{true, false, cond, Option, Some, None, Ok, ℤ}
use Rattle.std.specs.Prelude.{nat_eq}
use Rattle.std.proofs.lemmas.Bool.{eqb-true}
use Rattle.std.proofs.lemmas.List.Sums.{sum_by-cons, sum_by-append}
use Rattle.fault_order.specs.Ranked.{IsClear}
use Rattle.fault_order.specs.Private.FirstMet.{first, first_in}
use Rattle.fault_order.proofs.TableFaults.{then_parts}
use Rattle.silage_syntax.specs.declared.tree.Decl.{Decl}
use Rattle.silage_syntax.specs.Tree.{Place, Expr, Item, equation, call, loop, initial, Items, no_item, item, Func}
use Rattle.silage_syntax.specs.Tree.{Program}
use Rattle.silage_syntax.specs.Manifests.{Indices, manifest_value}
use Rattle.silage_syntax.specs.Names.{decls, declared, function_named, main_of}
use Rattle.silage_meaning.specs.Instances.{Instance as Path, main, inside, Element, element, turns_of}
use Rattle.element_rules.specs.ElementFaults.{element_faults}
use Rattle.element_rules.specs.Tables.{given, needs, counts, load_of, load_before, Table, rules, mark, in_order}
use Rattle.element_rules.specs.Tables.{enters, Row, nothing, ◌▹◌, each, each_from, Context, at_entry, after}
use Rattle.element_rules.specs.Tables.{after_row, table_rules, row_rules}
use Rattle.name_rules.specs.TopNames.{position_of}
use Rattle.element_rules.specs.ElementRules.{weight, counted, picked, each_place, elements_of, value_rules}
use Rattle.element_rules.specs.ElementRules.{target_table, takers, expr_rules, entry, call_table, item_table}
use Rattle.element_rules.specs.ElementRules.{items_row, instance_table, loop_turns, word_rules, max_nested}
use Rattle.element_rules.specs.ElementRules.{main_table}
use Rattle.element_rules.proofs.PlacedFaults.{elements_pass}
use Rattle.element_rules.proofs.LoadedElements.{grows, within}

-- what the definition of an element weighs
pub record Charge : Type 0 where
  pub of : Element
  pub amount : ℕ

abbrev pub charge : Element → ℕ → Charge
charge e w = record { of = e; amount = w }

abbrev pub total : List Charge → ℕ
total cs = sum_by (λ (c : Charge). c.amount) cs

-- the arguments of a call, each for the first element of its parameter
abbrev pub argument_charges : Path → (d : ℕ) → List Expr → List Charge
argument_charges path d [] = []
argument_charges path d (x ∷ xs) = charge (element path d 0) (weight x) ∷ argument_charges path (d + 1) xs

abbrev pub place_charges : Path → (d : ℕ) → Option ℕ → ℕ → List Charge
place_charges path d None w = []
place_charges path d (Some k) w = charge (element path d k) w ∷ []

abbrev pub target_charges : Path → Indices → Option (ℕ × Decl) → Place → ℕ → List Charge
target_charges path indices None place w = []
target_charges path indices (Some q) place w = place_charges path q.0 (picked indices q.1.dims place.subs) w

abbrev pub made_at : Path → (at : ℕ) → Indices → Path
made_at path at indices = inside path (record { at = at; turns = turns_of indices })

abbrev pub joined : {A : Type 0} → (A → List Charge) → List A → List Charge
joined G [] = []
joined G (x ∷ xs) = G x ++ joined G xs

module _ (p : Program) where
  module _ (f : Func) (path : Path) (of_instance : Func → Path → List Charge) where
    abbrev pub call_charges : Indices → Option Func → List Expr → (at : ℕ) → List Charge
    call_charges indices None args at = []
    call_charges indices (Some g) args at =
        argument_charges (made_at path at indices) 0 args ++ of_instance g (made_at path at indices)

    abbrev mutual
      pub item_charges : Indices → Item → List Charge
      item_charges indices (equation place x) = target_charges path indices (declared f place.name) place (weight x)
      item_charges indices (call places name args at) = call_charges indices (function_named p name) args at
      item_charges indices (loop index lo hi items at) =
          joined (λ turn. items_charges (indices ++ (index, turn) ∷ []) items)
          (loop_turns (manifest_value indices lo) (manifest_value indices hi))
      item_charges indices (initial place amount value) = []

      pub items_charges : Indices → Items → List Charge
      items_charges indices no_item = []
      items_charges indices (item x rest) = item_charges indices x ++ items_charges indices rest

  abbrev pub instance_charges : (calls : ℕ) → Func → Path → List Charge
  instance_charges zero f path = []
  instance_charges (suc calls) f path = items_charges f path (instance_charges calls) [] f.items

  -- the load grows by what the charges are in all
  abbrev Covers : Table → List Charge → Type 0
  Covers T cs =
      (context : Context)
      → first (table_rules context T) ≡ Ok tt
      → total cs + load_before context ≤ load_before (after context T)

  abbrev CoversRow : Row → List Charge → Type 0
  CoversRow row cs =
      (context : Context)
      → first_in (row_rules context row) ≡ Ok tt
      → total cs + load_before context ≤ load_before (after_row context row)

  free : (T : Table) → Covers T []
  free T context ok = let more = grows context T in omega arith

  end_covers : CoversRow nothing []
  end_covers context ok = omega arith

  row_covers : (T : Table) (row : Row) (cs ds : List Charge)
      → Covers T cs
      → CoversRow row ds
      → CoversRow (T ▹ row) (cs ++ ds)
  row_covers T row cs ds a b context ok =
      let parts = then_parts (first (table_rules context T)) (first_in (row_rules (after context T) row)) ok in
      let own = a context parts.0 in
      let rest = b (after context T) parts.1 in
      let sum = sum_by-append (λ (c : Charge). c.amount) cs ds in
      omega arith

  skip : (T : Table) (row : Row) (cs : List Charge) → CoversRow row cs → CoversRow (T ▹ row) cs
  skip T row cs b = row_covers T row [] cs (free T) b

  last : (T : Table) (cs : List Charge) → Covers T cs → CoversRow (T ▹ nothing) cs
  last T cs a context ok =
      let parts = then_parts (first (table_rules context T)) (Ok tt) ok in
      a context parts.0

  counted_covers : (w at : ℕ) (cs : List Charge) → total cs ≤ w → Covers (counted w at) cs
  counted_covers w at cs most context ok = by (nat_eq w 0) refl
    where
      by : (b : Bool)
          → nat_eq w 0 ≡ b
          → total cs + load_before context
          ≤ load_before (after context (cond b (in_order nothing) (mark (counts w at))))
      by true e = let none = eqb-true w 0 e in omega arith
      by false e = let sum = sum_by-cons load_of (counts w at) context.of_program in omega arith

  arguments_total : (path : Path) (d : ℕ) (args : List Expr) → total (argument_charges path d args) ≡ sum_by weight args
  arguments_total path d [] = refl
  arguments_total path d (x ∷ xs) =
      let own =
      sum_by-cons (λ (c : Charge). c.amount) (charge (element path d 0) (weight x))
      (argument_charges path (d + 1) xs) in
      let theirs = sum_by-cons weight x xs in
      let rest = arguments_total path (d + 1) xs in
      omega arith

  target_total : (path : Path) (indices : Indices) (o : Option (ℕ × Decl)) (place : Place) (w : ℕ)
      → total (target_charges path indices o place w) ≤ w
  target_total path indices None place w = omega arith
  target_total path indices (Some q) place w = by (picked indices q.1.dims place.subs)
    where
      by : (o : Option ℕ) → total (place_charges path q.0 o w) ≤ w
      by None = omega arith
      by (Some k) = omega arith

  module _ (g : Func) (path : Path) (calls : ℕ)
      (each_covers : (k : Func) (q : Path) → Covers (instance_table p calls k) (instance_charges calls k q)) where
    abbrev charges_of : Indices → Items → List Charge
    charges_of outer items = items_charges g path (instance_charges calls) outer items

    call_covers : (outer : Indices) (places : List Place) (name : List ℕ) (args : List Expr) (at : ℕ) (o : Option Func)
        → Covers (call_table p g (instance_table p calls) outer o places name args at)
        (call_charges g path (instance_charges calls) outer o args at)
    call_covers outer places name args at None = end_covers
    call_covers outer places name args at (Some k) =
        let its = entry p g (instance_table p calls) outer name k at in
        let path_made = made_at path at outer in
        let args_cs = argument_charges path_made 0 args in
        let inner_cs = instance_charges calls k path_made in
        let same = arguments_total path_made 0 args in
        let load_row = counted (sum_by weight args) at ▹ its ▹ nothing in
        skip (in_order (takers p g outer k.results places))
        (in_order (each (λ x. rules (expr_rules p g outer x)) args) ▹ load_row) (args_cs ++ inner_cs)
        (skip (in_order (each (λ x. rules (expr_rules p g outer x)) args)) load_row (args_cs ++ inner_cs)
        (row_covers (counted (sum_by weight args) at) (its ▹ nothing) args_cs inner_cs
        (counted_covers (sum_by weight args) at args_cs (omega arith))
        (last its inner_cs (λ context ok. each_covers k path_made (at_entry context.of_program) ok))))

    abbrev turn_row : Items → (index : List ℕ) → Indices → (at : ℕ) → (turn : ℤ) → Row
    turn_row items index outer at turn =
        mark (counts 1 at) ▹ items_row p g (instance_table p calls) (outer ++ (index, turn) ∷ []) items

    turns_cover : (items : Items) (index : List ℕ) (outer : Indices) (at : ℕ)
        → ((turn : ℤ)
        → CoversRow (items_row p g (instance_table p calls) (outer ++ (index, turn) ∷ []) items)
        (charges_of (outer ++ (index, turn) ∷ []) items))
        → (turns : List ℤ)
        → CoversRow (each (λ turn. in_order (turn_row items index outer at turn)) turns)
        (joined (λ turn. charges_of (outer ++ (index, turn) ∷ []) items) turns)
    turns_cover items index outer at covers [] = end_covers
    turns_cover items index outer at covers (turn ∷ turns) =
        row_covers (in_order (turn_row items index outer at turn))
        (each (λ turn. in_order (turn_row items index outer at turn)) turns)
        (charges_of (outer ++ (index, turn) ∷ []) items)
        (joined (λ turn. charges_of (outer ++ (index, turn) ∷ []) items) turns)
        (skip (mark (counts 1 at)) (items_row p g (instance_table p calls) (outer ++ (index, turn) ∷ []) items)
        (charges_of (outer ++ (index, turn) ∷ []) items) (covers turn))
        (turns_cover items index outer at covers turns)

    mutual
      item_covers : (x : Item) (outer : Indices)
          → Covers (item_table p g (instance_table p calls) outer x)
          (item_charges g path (instance_charges calls) outer x)
      item_covers (equation place x) outer =
          let cs = target_charges path outer (declared g place.name) place (weight x) in
          skip (target_table outer (declared g place.name) place)
          (rules (expr_rules p g outer x) ▹ counted (weight x) place.at ▹ nothing) cs
          (skip (rules (expr_rules p g outer x)) (counted (weight x) place.at ▹ nothing) cs
          (last (counted (weight x) place.at) cs
          (counted_covers (weight x) place.at cs (target_total path outer (declared g place.name) place (weight x)))))
      item_covers (initial place amount value) outer =
          free (item_table p g (instance_table p calls) outer (initial place amount value))
      item_covers (call places name args at) outer = call_covers outer places name args at (function_named p name)
      item_covers (loop index lo hi items at) outer =
          let turns = loop_turns (manifest_value outer lo) (manifest_value outer hi) in
          let turns_row = in_order (each (λ turn. in_order (turn_row items index outer at turn)) turns) in
          let cs = joined (λ turn. charges_of (outer ++ (index, turn) ∷ []) items) turns in
          skip (rules (value_rules outer lo)) (rules (value_rules outer hi) ▹ turns_row ▹ nothing) cs
          (skip (rules (value_rules outer hi)) (turns_row ▹ nothing) cs
          (last turns_row cs
          (turns_cover items index outer at (λ turn. items_cover items (outer ++ (index, turn) ∷ [])) turns)))

      items_cover : (items : Items) (outer : Indices)
          → CoversRow (items_row p g (instance_table p calls) outer items) (charges_of outer items)
      items_cover no_item outer = end_covers
      items_cover (item x rest) outer =
          row_covers (item_table p g (instance_table p calls) outer x)
          (items_row p g (instance_table p calls) outer rest)
          (item_charges g path (instance_charges calls) outer x) (charges_of outer rest) (item_covers x outer)
          (items_cover rest outer)

  instance_covers : (calls : ℕ) (f : Func) (path : Path)
      → Covers (instance_table p calls f) (instance_charges calls f path)
  instance_covers zero f path = free (instance_table p zero f)
  instance_covers (suc calls) f path =
      let the_items = items_row p f (instance_table p calls) [] f.items in
      let given_row = each_from (λ d decl. each_place (given d) decl) 0 f.params in
      let needs_row = each_from (λ d decl. each_place (λ k. needs d k decl.at) decl) 0 (decls f) in
      let cs = instance_charges (suc calls) f path in
      λ context ok.
      let all : CoversRow
      (mark (counts (elements_of (decls f)) f.at) ▹ in_order given_row ▹ in_order the_items ▹ in_order needs_row
      ▹ nothing)
      (cs ++ []) =
      skip (mark (counts (elements_of (decls f)) f.at))
      (in_order given_row ▹ in_order the_items ▹ in_order needs_row ▹ nothing) (cs ++ [])
      (skip (in_order given_row) (in_order the_items ▹ in_order needs_row ▹ nothing) (cs ++ [])
      (row_covers (in_order the_items) (in_order needs_row ▹ nothing) cs []
      (items_cover f path calls (λ k q. instance_covers calls k q) f.items [])
      (last (in_order needs_row) [] (free (in_order needs_row))))) in
      let sum = sum_by-append (λ (c : Charge). c.amount) cs [] in
      let most = all context ok in
      omega arith

  -- in a program without a fault of elements all definitions weigh at most 8,192
  pub charges_few : IsClear (element_faults p)
      → (f : Func)
      → main_of p ≡ Some f
      → total (instance_charges max_nested f main) ≤ 8192
  charges_few elements f is =
      let ok : first (table_rules (at_entry []) (main_table p (Some f))) ≡ Ok tt =
      subst (λ o. first (table_rules (at_entry []) (main_table p o)) ≡ Ok tt) is (elements_pass p elements) in
      let its = enters (position_of p (codes "main")) (record { at = 0; turns = [] }) (instance_table p max_nested f) in
      let cs = instance_charges max_nested f main in
      let covers : CoversRow (rules (word_rules f) ▹ its ▹ nothing) cs =
      skip (rules (word_rules f)) (its ▹ nothing) cs
      (last its cs (λ context ok. instance_covers max_nested f main (at_entry context.of_program) ok)) in
      let all = covers (at_entry []) ok in
      let low = within (at_entry []) (main_table p (Some f)) (omega arith) ok in
      omega arith
