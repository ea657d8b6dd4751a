-- In a checked program each element that an expression defines has its weight among the charges of the program.
use Rattle.std.proofs.Common.{◌≡◌, refl, sym, subst, ◌∙◌, ap, arith, ℕ, zero, suc, ◌+◌, List, [], ◌∷◌, ◌++◌, slice_get}
use Rattle.std.proofs.Common.{inl, inr, Option, Some, Ok, ℤ}
use Rattle.std.specs.Prelude.{Contains}
use Rattle.std.proofs.lemmas.List.Elements.{Contains-append_left, Contains-append_right}
use Rattle.lists.proofs.Places.{some_once, contains_at}
use Rattle.fault_order.specs.Ranked.{IsClear}
use Rattle.fault_order.specs.Private.FirstMet.{first, first_in}
use Rattle.fault_order.proofs.TableFaults.{then_parts}
use Rattle.silage_syntax.specs.declared.tree.Decl.{Decl}
use Rattle.silage_syntax.specs.Tree.{Place, Expr, Item, equation, call, loop, initial, Items, no_item, item, Func}
use Rattle.silage_syntax.specs.Tree.{Program}
use Rattle.silage_syntax.specs.Manifests.{Indices, manifest_value}
use Rattle.silage_syntax.specs.Names.{declared, function_named, main_of}
use Rattle.silage_meaning.specs.Instances.{Instance as Path, main, inside, Element, element, Occurs, OccursIn}
use Rattle.silage_meaning.specs.Instances.{IsInstance, main_is, inside_is}
use Rattle.silage_meaning.specs.Solves.{Source, value, IsDefined, input, equated, argument, array, table, result}
use Rattle.silage_meaning.specs.Solves.{array_result}
use Rattle.element_rules.specs.ElementFaults.{element_faults}
use Rattle.element_rules.specs.Tables.{counts, Table, rules, mark, in_order, enters, Row, nothing, ◌▹◌, each, Context}
use Rattle.element_rules.specs.Tables.{at_entry, after, table_rules, row_rules}
use Rattle.element_rules.specs.ElementRules.{weight, picked, call_table, item_table, items_row, instance_table}
use Rattle.element_rules.specs.ElementRules.{loop_turns, max_nested, main_table}
use Rattle.element_rules.proofs.PlacedFaults.{elements_pass}
use Rattle.element_rules.proofs.PickedOffsets.{offset_picked}
use Rattle.element_rules.proofs.LoopTurns.{IsAmong, turn_among}
use Rattle.element_rules.proofs.Charges.{Charge, charge, argument_charges, place_charges, target_charges, made_at}
use Rattle.element_rules.proofs.Charges.{joined, call_charges, item_charges, items_charges, instance_charges}

-- Charges in items.
argument_has : (path : Path) (d : ℕ) (args : List Expr) (k n : ℕ) (x : Expr)
    → n ≡ d + k
    → slice_get args k ≡ Some x
    → Contains (argument_charges path d args) (charge (element path n 0) (weight x))
argument_has path d [] k n x at e = absurd (cc e)
argument_has path d (y ∷ args) zero n x at e =
    let here : n ≡ d = omega arith in
    let all = argument_charges path d (y ∷ args) in
    let own : Contains all (charge (element path d 0) (weight y)) =
    contains_at all 0 (charge (element path d 0) (weight y)) refl in
    subst (λ (z : Expr). Contains all (charge (element path n 0) (weight z))) (some_once refl e)
    (subst (λ (m : ℕ). Contains all (charge (element path m 0) (weight y))) (sym here) own)
argument_has path d (y ∷ args) (suc k) n x at e =
    Contains-append_right (charge (element path d 0) (weight y) ∷ []) (argument_charges path (d + 1) args)
    (charge (element path n 0) (weight x)) (argument_has path (d + 1) args k n x (omega arith) e)

target_has : (path : Path) (indices : Indices) (o : Option (ℕ × Decl)) (place : Place) (w d k : ℕ) (decl : Decl)
    → o ≡ Some (d, decl)
    → picked indices decl.dims place.subs ≡ Some k
    → Contains (target_charges path indices o place w) (charge (element path d k) w)
target_has path indices o place w d k decl named at =
    subst (λ (o : Option (ℕ × Decl)). Contains (target_charges path indices o place w) (charge (element path d k) w))
    (sym named)
    (subst (λ (o : Option ℕ). Contains (place_charges path d o w) (charge (element path d k) w)) (sym at)
    (contains_at (charge (element path d k) w ∷ []) 0 (charge (element path d k) w) refl))

joined_has : (G : ℤ → List Charge) (turns : List ℤ) (turn : ℤ)
    → IsAmong turn turns
    → (c : Charge)
    → Contains (G turn) c
    → Contains (joined G turns) c
joined_has G [] turn among c has = absurd among
joined_has G (t ∷ turns) turn (inl same) c has =
    Contains-append_left (G t) (joined G turns) c (subst (λ (z : ℤ). Contains (G z) c) same has)
joined_has G (t ∷ turns) turn (inr among) c has =
    Contains-append_right (G t) (joined G turns) c (joined_has G turns turn among c has)

module _ (p : Program) (g : Func) (path : Path) (of_instance : Func → Path → List Charge) where
  abbrev Of : Indices → Item → List Charge
  Of indices x = item_charges p g path of_instance indices x

  abbrev OfAll : Indices → Items → List Charge
  OfAll indices items = items_charges p g path of_instance indices items

  called_has :
      (places : List Place) (name : List ℕ) (args : List Expr) (at : ℕ) (indices : Indices) (k : Func) (c : Charge)
      → function_named p name ≡ Some k
      → Contains (argument_charges (made_at path at indices) 0 args ++ of_instance k (made_at path at indices)) c
      → Contains (Of indices (call places name args at)) c
  called_has places name args at indices k c named has =
      subst (λ (o : Option Func). Contains (call_charges p g path of_instance indices o args at) c) (sym named) has

  same_has : (x y : Item) (indices outer : Indices) (c : Charge)
      → x ≡ y
      → indices ≡ outer
      → Contains (Of indices x) c
      → Contains (Of outer y) c
  same_has x y indices outer c same at has =
      subst (λ (i : Indices). Contains (Of i y) c) at (subst (λ (z : Item). Contains (Of indices z) c) same has)

  mutual
    item_has : (y : Item) (outer : Indices) (x : Item) (indices : Indices) (c : Charge)
        → OccursIn y outer x indices
        → Contains (Of indices x) c
        → Contains (Of outer y) c
    item_has (equation place e) outer x indices c h has = same_has x (equation place e) indices outer c h.0 h.1 has
    item_has (call places name args at) outer x indices c h has =
        same_has x (call places name args at) indices outer c h.0 h.1 has
    item_has (initial place amount l) outer x indices c h has =
        same_has x (initial place amount l) indices outer c h.0 h.1 has
    item_has (loop index lo hi items at) outer x indices c (turn, is_turn, h) has =
        joined_has (λ turn. OfAll (outer ++ (index, turn) ∷ []) items)
        (loop_turns (manifest_value outer lo) (manifest_value outer hi)) turn
        (turn_among outer lo hi turn is_turn) c
        (items_have items (outer ++ (index, turn) ∷ []) x indices c h has)

    -- an item that occurs among others is charged among these
    items_have : (items : Items) (outer : Indices) (x : Item) (indices : Indices) (c : Charge)
        → Occurs items outer x indices
        → Contains (Of indices x) c
        → Contains (OfAll outer items) c
    items_have no_item outer x indices c h has = absurd h
    items_have (item y rest) outer x indices c (inl h) has =
        Contains-append_left (Of outer y) (OfAll outer rest) c (item_has y outer x indices c h has)
    items_have (item y rest) outer x indices c (inr h) has =
        Contains-append_right (Of outer y) (OfAll outer rest) c (items_have rest outer x indices c h has)

-- All rules of a table hold that do not depend on what comes before it.
abbrev mutual
  Passes : Table → Type 0
  Passes (rules R) = first R ≡ Ok tt
  Passes (mark m) = Unit {0}
  Passes (in_order row) = RowPasses row
  Passes (enters func step T) = Passes T

  RowPasses : Row → Type 0
  RowPasses nothing = Unit {0}
  RowPasses (T ▹ row) = Passes T × RowPasses row

mutual
  passes : (context : Context) (T : Table) → first (table_rules context T) ≡ Ok tt → Passes T
  passes context (rules R) ok = ok
  passes context (mark m) ok = tt
  passes context (in_order row) ok = row_passes context row ok
  passes context (enters func step T) ok = passes (at_entry context.of_program) T ok

  row_passes : (context : Context) (row : Row) → first_in (row_rules context row) ≡ Ok tt → RowPasses row
  row_passes context nothing ok = tt
  row_passes context (T ▹ row) ok =
      let both = then_parts (first (table_rules context T)) (first_in (row_rules (after context T) row)) ok in
      (passes context T both.0, row_passes (after context T) row both.1)

turn_passes : (G : ℤ → Table) (turns : List ℤ) (turn : ℤ)
    → IsAmong turn turns
    → RowPasses (each G turns)
    → Passes (G turn)
turn_passes G [] turn among all = absurd among
turn_passes G (t ∷ turns) turn (inl same) all = subst (λ (z : ℤ). Passes (G z)) (sym same) all.0
turn_passes G (t ∷ turns) turn (inr among) all = turn_passes G turns turn among all.1

module _ (p : Program) (g : Func) (table_of : Func → Table) where
  call_passes : (outer : Indices) (places : List Place) (name : List ℕ) (args : List Expr) (at : ℕ) (k : Func)
      → function_named p name ≡ Some k
      → Passes (call_table p g table_of outer (function_named p name) places name args at)
      → Passes (table_of k)
  call_passes outer places name args at k named all =
      let of : Passes (call_table p g table_of outer (Some k) places name args at) =
      subst (λ (o : Option Func). Passes (call_table p g table_of outer o places name args at)) named all in
      of.1.1.1.0

  mutual
    item_passes : (y : Item) (outer : Indices)
        → Passes (item_table p g table_of outer y)
        → (places : List Place) (name : List ℕ) (args : List Expr) (at : ℕ) (indices : Indices) (k : Func)
        → OccursIn y outer (call places name args at) indices
        → function_named p name ≡ Some k
        → Passes (table_of k)
    item_passes (equation place x) outer all places name args at indices k h named = absurd (cc h.0)
    item_passes (initial place amount l) outer all places name args at indices k h named = absurd (cc h.0)
    item_passes (call their_places their_name their_args their_at) outer all places name args at indices k h named =
        let same : name ≡ their_name = cc h.0 in
        call_passes outer their_places their_name their_args their_at k (ap (function_named p) (sym same) ∙ named) all
    item_passes (loop index lo hi items loop_at) outer all places name args at indices k (turn, is_turn, h) named =
        let G : ℤ → Table =
        λ turn. in_order (mark (counts 1 loop_at) ▹ items_row p g table_of (outer ++ (index, turn) ∷ []) items) in
        let one =
        turn_passes G (loop_turns (manifest_value outer lo) (manifest_value outer hi)) turn
        (turn_among outer lo hi turn is_turn) all.1.1.0 in
        items_pass items (outer ++ (index, turn) ∷ []) one.1 places name args at indices k h named

    items_pass : (items : Items) (outer : Indices)
        → RowPasses (items_row p g table_of outer items)
        → (places : List Place) (name : List ℕ) (args : List Expr) (at : ℕ) (indices : Indices) (k : Func)
        → Occurs items outer (call places name args at) indices
        → function_named p name ≡ Some k
        → Passes (table_of k)
    items_pass no_item outer all places name args at indices k h named = absurd h
    items_pass (item y rest) outer all places name args at indices k (inl h) named =
        item_passes y outer all.0 places name args at indices k h named
    items_pass (item y rest) outer all places name args at indices k (inr h) named =
        items_pass rest outer all.1 places name args at indices k h named

module _ (p : Program) (elements : IsClear (element_faults p)) (f : Func) (is_main : main_of p ≡ Some f) where
  abbrev pub program_charges : List Charge
  program_charges = instance_charges p max_nested f main

  -- what the instance is charged, with so many calls inside it, the program is charged
  record IsCharged (path : Path) (g : Func) : Type 0 where
    calls : ℕ
    ok : Passes (instance_table p (suc calls) g)
    charges : (c : Charge)
        → Contains (items_charges p g path (instance_charges p calls) [] g.items) c
        → Contains program_charges c

  some_calls : (path : Path) (g : Func) (calls : ℕ)
      → Passes (instance_table p calls g)
      → ((c : Charge) → Contains (instance_charges p calls g path) c → Contains program_charges c)
      → IsCharged path g
  some_calls path g zero all charges = absurd (cc all)
  some_calls path g (suc calls) all charges = record { calls = calls; ok = all; charges = charges }

  main_passes : Passes (instance_table p max_nested f)
  main_passes =
      let ok : first (table_rules (at_entry []) (main_table p (Some f))) ≡ Ok tt =
      subst (λ o. first (table_rules (at_entry []) (main_table p o)) ≡ Ok tt) is_main
      (elements_pass p elements) in
      (passes (at_entry []) (main_table p (Some f)) ok).1.0

  instance_charged : (path : Path) (g : Func) → IsInstance p path g → IsCharged path g
  instance_charged main g (main_is is) =
      subst (IsCharged main) (some_once is_main is) (some_calls main f max_nested main_passes (λ c has. has))
  instance_charged (inside path step) h (inside_is {g = g} instance calls) =
      let outer = instance_charged path g instance in
      let made = made_at path step.at calls.indices in
      let same : inside path step ≡ made =
      ap (λ (turns : List ℤ). inside path (record { at = step.at; turns = turns })) calls.turns in
      let args = argument_charges made 0 calls.args in
      some_calls (inside path step) h outer.calls
      (items_pass p g (instance_table p outer.calls) g.items [] outer.ok.1.1.0 calls.places calls.name calls.args
      step.at calls.indices h calls.occurs calls.named)
      (λ c has. outer.charges c
      (items_have p g path (instance_charges p outer.calls) g.items []
      (call calls.places calls.name calls.args step.at) calls.indices c calls.occurs
      (called_has p g path (instance_charges p outer.calls) calls.places calls.name calls.args step.at calls.indices h
      c calls.named
      (Contains-append_right args (instance_charges p outer.calls h made) c
      (subst (λ (q : Path). Contains (instance_charges p outer.calls h q) c) same has)))))

  -- the weight of the expression that defines the element, if one does, is charged for it
  abbrev pub IsChargedFor : Element → Source → Type 0
  IsChargedFor e (value s x ty) = Contains program_charges (charge e (weight x))
  IsChargedFor e _ = Unit {0}

  pub charged_for : (e : Element) (source : Source) → IsDefined p e source → IsChargedFor e source
  charged_for e _ (input at) = tt
  charged_for e _ (array s c d m k decl theirs place arg arr below at) = tt
  charged_for e _ (table s c d decl place arg tab below at) = tt
  charged_for e _ (result s c r d k theirs decl place res scalar signal at) = tt
  charged_for e _ (array_result s c r d k theirs decl place res arr below at) = tt
  charged_for e _ (equated {s = s} {x = x} place d k decl found signal at) =
      let i = instance_charged s.instance s.function found.instance in
      let c = charge (element s.instance d k) (weight x) in
      subst (λ (z : Element). Contains program_charges (charge z (weight x))) (sym at)
      (i.charges c
      (items_have p s.function s.instance (instance_charges p i.calls) s.function.items []
      (equation place x) s.indices c found.occurs
      (target_has s.instance s.indices (declared s.function place.name) place (weight x) d k decl signal.named
      (offset_picked s.indices decl.dims place.subs k signal.placed))))
  charged_for e _ (argument {s = s} {x = x} call_is d decl arg scalar at) =
      let i = instance_charged s.instance s.function call_is.found.instance in
      let made = made_at s.instance call_is.at s.indices in
      let c = charge (element made d 0) (weight x) in
      subst (λ (z : Element). Contains program_charges (charge z (weight x))) (sym at)
      (i.charges c
      (items_have p s.function s.instance (instance_charges p i.calls) s.function.items []
      (call call_is.places call_is.name call_is.args call_is.at) s.indices c call_is.found.occurs
      (called_has p s.function s.instance (instance_charges p i.calls) call_is.places call_is.name call_is.args
      call_is.at s.indices call_is.callee c call_is.named
      (Contains-append_left (argument_charges made 0 call_is.args) (instance_charges p i.calls call_is.callee made) c
      (argument_has made 0 call_is.args d d x (omega arith) arg.argument)))))
