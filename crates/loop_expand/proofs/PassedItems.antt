-- An item that occurs in a program without a fault of elements passes the rules of its table.
use Rattle.std.proofs.Common.{◌≡◌, refl, sym, subst, ◌∙◌, ap, arith, ℕ, ◌≤◌, ◌&&◌, Bool, true, false, inl, inr, List}
use Rattle.std.proofs.Common.{[], ◌∷◌, ◌++◌, Option, Some, None, Ok, ℤ}
use Rattle.std.specs.Prelude.{pos, ◌≤ℤ◌, int_le}
use Rattle.std.specs.Option.{option_map_or}
use Rattle.std.proofs.lemmas.Int.{ints}
use Rattle.fault_order.specs.Ranked.{IsClear}
use Rattle.fault_order.specs.Rules.{parts, none, ◌▸◌, unless}
use Rattle.fault_order.specs.Private.FirstMet.{first, first_in}
use Rattle.fault_order.proofs.TableFaults.{then_parts, rule_holds}
use Rattle.silage_syntax.specs.declared.tree.Decl.{Decl}
use Rattle.silage_syntax.specs.declared.tree.Lit.{Lit}
use Rattle.silage_syntax.specs.Tree.{Manifest, Place, Item, equation, call, loop, initial, Items, no_item, item, Func}
use Rattle.silage_syntax.specs.Tree.{Program}
use Rattle.silage_syntax.specs.Manifests.{Indices, manifest_value}
use Rattle.silage_syntax.specs.Names.{declared}
use Rattle.silage_meaning.specs.Instances.{Occurs, OccursIn, Site, IsItemAt, IsSignal}
use Rattle.element_rules.specs.declared.fault.PlacedFault.TheVariants.{Delay}
use Rattle.element_rules.specs.ElementFaults.{element_faults}
use Rattle.element_rules.specs.Tables.{Table, rules, mark, in_order, nothing, ◌▹◌, each, counts, Context, after}
use Rattle.element_rules.specs.Tables.{table_rules, row_rules}
use Rattle.element_rules.specs.ElementRules.{manifest_at, value_rules, subscript_rules, number_rules, samples, is_in}
use Rattle.element_rules.specs.ElementRules.{picked, initial_value, initial_table, item_table, items_row, loop_turns}
use Rattle.element_rules.specs.ElementRules.{instance_table}
use Rattle.element_rules.proofs.LoopTurns.{IsAmong, turn_among}
use Rattle.element_rules.proofs.CheckedInstances.{items_ok, checked, first_of_two, rest_of_two}

-- after what comes before it, a table breaks no rule
pub record IsPassed (T : Table) : Type 0 where
  pub context : Context
  pub ok : first (table_rules context T) ≡ Ok tt

pub each_passed : (G : ℤ → Table) (turns : List ℤ) (turn : ℤ)
    → IsAmong turn turns
    → (context : Context)
    → first_in (row_rules context (each G turns)) ≡ Ok tt
    → IsPassed (G turn)
each_passed G [] turn has context ok = absurd has
each_passed G (t ∷ turns) turn (inl same) context ok =
    subst (λ (z : ℤ). IsPassed (G z)) (sym same)
    (record { context = context; ok = first_of_two context (G t) (each G turns) ok })
each_passed G (t ∷ turns) turn (inr has) context ok =
    each_passed G turns turn has (after context (G t)) (rest_of_two context (G t) (each G turns) ok)

module _ (p : Program) (g : Func) (inside : Func → Table) where
  abbrev TableOf : Indices → Item → Table
  TableOf indices x = item_table p g inside indices x

  here : (x y : Item) (indices outer : Indices) (context : Context)
      → x ≡ y
      → indices ≡ outer
      → first (table_rules context (TableOf outer y)) ≡ Ok tt
      → IsPassed (TableOf indices x)
  here x y indices outer context same at ok =
      subst (λ (z : Item). IsPassed (TableOf indices z)) (sym same)
      (subst (λ (i : Indices). IsPassed (TableOf i y)) (sym at) (record { context = context; ok = ok }))

  mutual
    inside_passed : (y : Item) (outer : Indices) (context : Context)
        → first (table_rules context (TableOf outer y)) ≡ Ok tt
        → (x : Item) (indices : Indices)
        → OccursIn y outer x indices
        → IsPassed (TableOf indices x)
    inside_passed (equation place e) outer context ok x indices h =
        here x (equation place e) indices outer context h.0 h.1 ok
    inside_passed (call places name args at) outer context ok x indices h =
        here x (call places name args at) indices outer context h.0 h.1 ok
    inside_passed (initial place amount l) outer context ok x indices h =
        here x (initial place amount l) indices outer context h.0 h.1 ok
    inside_passed (loop index lo hi items at) outer context ok x indices (turn, is_turn, h) =
        let turns = loop_turns (manifest_value outer lo) (manifest_value outer hi) in
        let G : ℤ → Table = λ turn.
        in_order (mark (counts 1 at) ▹ items_row p g inside (outer ++ (index, turn) ∷ []) items) in
        let from =
        rest_of_two context (rules (value_rules outer lo))
        (rules (value_rules outer hi) ▹ in_order (each G turns) ▹ nothing) ok in
        let to = rest_of_two context (rules (value_rules outer hi)) (in_order (each G turns) ▹ nothing) from in
        let all = first_of_two context (in_order (each G turns)) nothing to in
        let one = each_passed G turns turn (turn_among outer lo hi turn is_turn) context all in
        item_passed items (outer ++ (index, turn) ∷ []) (after one.context (mark (counts 1 at)))
        (rest_of_two one.context (mark (counts 1 at)) (items_row p g inside (outer ++ (index, turn) ∷ []) items) one.ok)
        x indices h

    pub item_passed : (items : Items) (outer : Indices) (context : Context)
        → first_in (row_rules context (items_row p g inside outer items)) ≡ Ok tt
        → (x : Item) (indices : Indices)
        → Occurs items outer x indices
        → IsPassed (TableOf indices x)
    item_passed no_item outer context ok x indices h = absurd h
    item_passed (item y rest) outer context ok x indices (inl h) =
        inside_passed y outer context (first_of_two context (TableOf outer y) (items_row p g inside outer rest) ok) x
        indices h
    item_passed (item y rest) outer context ok x indices (inr h) =
        item_passed rest outer (after context (TableOf outer y))
        (rest_of_two context (TableOf outer y) (items_row p g inside outer rest) ok) x indices h

in_samples : (j : ℕ) → is_in samples (pos j) ≡ true → (1 ≤ j) × (j ≤ 1023)
in_samples j e = by (int_le (pos 1) (pos j)) (int_le (pos j) (pos 1023)) refl refl e
  where
    le_is : (a b : ℤ) → int_le a b ≡ true → a ≤ℤ b
    le_is a b e = grind (arith, ints, e)

    by : (a b : Bool)
        → int_le (pos 1) (pos j) ≡ a
        → int_le (pos j) (pos 1023) ≡ b
        → a && b ≡ true
        → (1 ≤ j) × (j ≤ 1023)
    by true true low high e = (
      let l = le_is (pos 1) (pos j) low in omega (arith, ints),
      let h = le_is (pos j) (pos 1023) high in omega (arith, ints),
    )
    by true false low high e = absurd (cc e)
    by false b low high e = absurd (cc e)

module _ (p : Program) (clear : IsClear (element_faults p)) where
  -- an initial value is at sample -1 to -1023
  pub sample_within : (s : Site) (place : Place) (amount : Manifest) (l : Lit) (d k j : ℕ) (decl : Decl)
      → IsItemAt p s (initial place amount l)
      → IsSignal s place d decl k
      → manifest_value s.indices amount ≡ Some (pos j)
      → (1 ≤ j) × (j ≤ 1023)
  sample_within s place amount l d k j decl found signal value =
      let c = checked p clear s.instance s.function found.instance in
      let t =
      item_passed p s.function (instance_table p c.calls) s.function.items [] _
      (items_ok p c.calls s.function c.marks c.ok) (initial place amount l) s.indices found.occurs in
      by (declared s.function place.name) signal.named t.context t.ok
    where
      by : (o : Option (ℕ × Decl))
          → o ≡ Some (d, decl)
          → (context : Context)
          → first (table_rules context (initial_table s.indices o place amount)) ≡ Ok tt
          → (1 ≤ j) × (j ≤ 1023)
      by None is context ok = absurd (cc is)
      by (Some q) is context ok =
          let subs = rules (parts (subscript_rules s.indices q.1.dims place.subs)) in
          let its = rules (number_rules s.indices samples Delay amount) in
          let given =
          initial_value q.0 (picked s.indices q.1.dims place.subs) (manifest_value s.indices amount) place.at in
          let behind = rest_of_two context subs (its ▹ given ▹ mark (counts 1 place.at) ▹ nothing) ok in
          let number : first (number_rules s.indices samples Delay amount) ≡ Ok tt =
          first_of_two context its (given ▹ mark (counts 1 place.at) ▹ nothing) behind in
          let range =
          unless (option_map_or (is_in samples) (manifest_value s.indices amount) true)
          (Delay (manifest_at amount)) in
          let ranged = (then_parts (first (value_rules s.indices amount)) (first_in (range ▸ none)) number).1 in
          let inside =
          rule_holds (option_map_or (is_in samples) (manifest_value s.indices amount) true)
          (Delay (manifest_at amount)) (then_parts (first range) (Ok tt) ranged).0 in
          in_samples j (ap (λ o. option_map_or (is_in samples) o true) (sym value) ∙ inside)
