-- A checked program gives an element one initial value for a sample.
use Rattle.std.proofs.Common.{◌≡◌, refl, sym, subst, ◌∙◌, ap, ℕ, inl, inr, Bool, true, false, ◌||◌, List, [], ◌∷◌, ◌++◌}
use Rattle.std.proofs.Common.{Option, Some, Ok, ℤ, pos}
use Rattle.std.specs.Prelude.{not as denied}
use Rattle.std.proofs.lemmas.Bool.{or_right, eq-eqb}
use Rattle.fault_order.specs.Ranked.{IsClear}
use Rattle.fault_order.specs.Rules.{parts}
use Rattle.fault_order.specs.Private.FirstMet.{first, first_in}
use Rattle.fault_order.proofs.TableFaults.{then_parts, rule_holds}
use Rattle.fix_word.specs.declared.types.SigType.{SigType}
use Rattle.lists.proofs.Places.{some_once}
use Rattle.silage_syntax.specs.declared.tree.Decl.{Decl}
use Rattle.silage_syntax.specs.declared.tree.Lit.{Lit}
use Rattle.silage_syntax.specs.Tree.{Manifest, Place, Item, equation, call, loop, initial, Items, no_item, item, Func}
use Rattle.silage_syntax.specs.Tree.{Program}
use Rattle.silage_syntax.specs.Manifests.{Indices, manifest_value}
use Rattle.silage_syntax.specs.Names.{declared}
use Rattle.silage_meaning.specs.Instances.{Instance as Path, Element, HasCallsApart, IsInstance, Occurs, OccursIn}
use Rattle.silage_meaning.specs.Solves.{IsPreset}
use Rattle.silage_meaning.proofs.Instances.{instance_once}
use Rattle.element_rules.specs.ElementFaults.{element_faults}
use Rattle.element_rules.specs.declared.fault.PlacedFault.TheVariants.{DefinedTwice, Delay}
use Rattle.element_rules.specs.Tables.{Table, presets, counts, rules, mark, in_order, enters, Row, nothing, ◌▹◌, each}
use Rattle.element_rules.specs.Tables.{Context, is_preset, presets_for, after, after_row, table_rules, row_rules}
use Rattle.element_rules.specs.ElementRules.{subscript_rules, number_rules, samples, picked, initial_value}
use Rattle.element_rules.specs.ElementRules.{initial_table, value_rules, item_table, items_row, loop_turns}
use Rattle.element_rules.specs.ElementRules.{instance_table}
use Rattle.element_rules.proofs.CheckedInstances.{items_ok, checked as checked_instance}
use Rattle.element_rules.proofs.ElementNumbers.{declared_stands}
use Rattle.element_rules.proofs.LoopTurns.{IsAmong, turn_among}
use Rattle.element_rules.proofs.PickedOffsets.{offset_picked}

module _ (p : Program) (f : Func) (inside : Func → Table) (d k j : ℕ) where
  abbrev IsGiven : Context → Type 0
  IsGiven context = is_preset context d k j ≡ true

  abbrev TableOf : Indices → Item → Table
  TableOf outer x = item_table p f inside outer x

  abbrev RowOf : Indices → Items → Row
  RowOf outer xs = items_row p f inside outer xs

  abbrev Passes : Context → Table → Type 0
  Passes context T = first (table_rules context T) ≡ Ok tt

  abbrev RowPasses : Context → Row → Type 0
  RowPasses context row = first_in (row_rules context row) ≡ Ok tt

  head : (context : Context) (T : Table) (row : Row) → RowPasses context (T ▹ row) → Passes context T
  head context T row ok = (then_parts (first (table_rules context T)) (first_in (row_rules (after context T) row)) ok).0

  tail : (context : Context) (T : Table) (row : Row) → RowPasses context (T ▹ row) → RowPasses (after context T) row
  tail context T row ok = (then_parts (first (table_rules context T)) (first_in (row_rules (after context T) row)) ok).1

  -- what is given stays so
  mutual
    stays : (context : Context) (T : Table) → IsGiven context → IsGiven (after context T)
    stays context (rules R) h = h
    stays context (mark m) h = or_right (presets_for d k j m) (is_preset context d k j) h
    stays context (in_order row) h = row_stays context row h
    stays context (enters func step T) h = h

    row_stays : (context : Context) (row : Row) → IsGiven context → IsGiven (after_row context row)
    row_stays context nothing h = h
    row_stays context (T ▹ row) h = row_stays (after context T) row (stays context T h)

  -- the item is an initial value of the element for the sample
  record Presets (x : Item) (indices : Indices) (l : Lit) : Type 0 where
    place : Place
    amount : Manifest
    decl : Decl
    is : x ≡ initial place amount l
    named : declared f place.name ≡ Some (d, decl)
    placed : picked indices decl.dims place.subs ≡ Some k
    value : manifest_value indices amount ≡ Some (pos j)

  not_equation : (x : Item) (indices : Indices) (l : Lit) (place : Place) (e : _)
      → Presets x indices l
      → x ≡ equation place e
      → ⊥
  not_equation x indices l place e h same =
      let no : equation place e ≡ initial h.place h.amount l = sym same ∙ h.is in cc no

  not_call : (x : Item) (indices : Indices) (l : Lit) (places : _) (name : _) (args : _) (at : ℕ)
      → Presets x indices l
      → x ≡ call places name args at
      → ⊥
  not_call x indices l places name args at h same =
      let no : call places name args at ≡ initial h.place h.amount l = sym same ∙ h.is in cc no

  -- the table of an initial value at a place, for a sample
  abbrev TableBy : Indices → Decl → Place → Manifest → Option ℕ → Option ℤ → Table
  TableBy indices decl place amount at sample = in_order (
      rules (parts (subscript_rules indices decl.dims place.subs))
      ▹ rules (number_rules indices samples Delay amount)
      ▹ initial_value d at sample place.at
      ▹ mark (counts 1 place.at)
      ▹ nothing)

  table_is : (x : Item) (indices : Indices) (l : Lit) (h : Presets x indices l)
      → TableOf indices x ≡ TableBy indices h.decl h.place h.amount (Some k) (Some (pos j))
  table_is x indices l h =
      ap (λ (y : Item). TableOf indices y) h.is
      ∙ ap (λ (o : Option (ℕ × Decl)). initial_table indices o h.place h.amount) h.named
      ∙ ap (λ (o : Option ℕ). TableBy indices h.decl h.place h.amount o (manifest_value indices h.amount)) h.placed
      ∙ ap (λ (o : Option ℤ). TableBy indices h.decl h.place h.amount (Some k) o) h.value

  own_given : (context : Context) (at : ℕ) → IsGiven (after context (mark (presets d k j at)))
  own_given context at = rw (eq-eqb d d refl, eq-eqb k k refl, eq-eqb j j refl) refl

  gives_own : (context : Context) (x : Item) (indices : Indices) (l : Lit)
      → Presets x indices l
      → IsGiven (after context (TableOf indices x))
  gives_own context x indices l h =
      subst (λ (T : Table). IsGiven (after context T)) (sym (table_is x indices l h))
      (stays (after context (mark (presets d k j h.place.at))) (mark (counts 1 h.place.at))
      (own_given context h.place.at))

  refuses_own : (context : Context) (x : Item) (indices : Indices) (l : Lit)
      → Presets x indices l
      → IsGiven context
      → Passes context (TableOf indices x)
      → ⊥
  refuses_own context x indices l h is ok =
      let table = subst (λ (T : Table). Passes context T) (table_is x indices l h) ok in
      let one = then_parts (first_in (subscript_rules indices h.decl.dims h.place.subs)) _ table in
      let two = then_parts (first (number_rules indices samples Delay h.amount)) _ one.1 in
      let three = then_parts (first (table_rules context (mark (presets d k j h.place.at)))) _ two.1 in
      let holds = rule_holds (denied (is_preset context d k j)) (DefinedTwice h.place.at) three.0 in
      let no : denied true ≡ true = ap denied (sym is) ∙ holds in
      cc no

  abbrev TurnOf : Indices → List ℕ → ℕ → Items → ℤ → Table
  TurnOf outer index at items turn = in_order (mark (counts 1 at) ▹ RowOf (outer ++ (index, turn) ∷ []) items)

  turns_give :
      (context : Context) (items : Items) (outer : Indices) (index : List ℕ) (at : ℕ) (turns : List ℤ) (turn : ℤ)
      → IsAmong turn turns
      → (x : Item) (indices : Indices)
      → ((before : Context) → IsGiven (after_row before (RowOf (outer ++ (index, turn) ∷ []) items)))
      → IsGiven (after_row context (each (TurnOf outer index at items) turns))
  turns_give context items outer index at [] turn among x indices all = absurd among
  turns_give context items outer index at (t ∷ turns) turn (inl same) x indices all =
      row_stays (after context (TurnOf outer index at items t)) (each (TurnOf outer index at items) turns)
      (subst (λ (u : ℤ). IsGiven (after context (TurnOf outer index at items u))) same
      (all (after context (mark (counts 1 at)))))
  turns_give context items outer index at (t ∷ turns) turn (inr among) x indices all =
      turns_give (after context (TurnOf outer index at items t)) items outer index at turns turn among x indices all

  -- after an item, what it gives is given
  mutual
    gives : (context : Context) (y : Item) (outer : Indices) (x : Item) (indices : Indices) (l : Lit)
        → Presets x indices l
        → OccursIn y outer x indices
        → IsGiven (after context (TableOf outer y))
    gives context (equation place e) outer x indices l h o = absurd (not_equation x indices l place e h o.0)
    gives context (call places name args at) outer x indices l h o =
        absurd (not_call x indices l places name args at h o.0)
    gives context (initial place amount v) outer x indices l h o =
        subst (λ (i : Indices). IsGiven (after context (TableOf i (initial place amount v)))) o.1
        (subst (λ (z : Item). IsGiven (after context (TableOf indices z))) o.0 (gives_own context x indices l h))
    gives context (loop index lo hi items at) outer x indices l h (turn, is_turn, o) =
        turns_give context items outer index at (loop_turns (manifest_value outer lo) (manifest_value outer hi)) turn
        (turn_among outer lo hi turn is_turn) x indices
        (λ before. row_gives before items (outer ++ (index, turn) ∷ []) x indices l h o)

    row_gives : (context : Context) (ys : Items) (outer : Indices) (x : Item) (indices : Indices) (l : Lit)
        → Presets x indices l
        → Occurs ys outer x indices
        → IsGiven (after_row context (RowOf outer ys))
    row_gives context no_item outer x indices l h o = absurd o
    row_gives context (item y rest) outer x indices l h (inl o) =
        row_stays (after context (TableOf outer y)) (RowOf outer rest) (gives context y outer x indices l h o)
    row_gives context (item y rest) outer x indices l h (inr o) =
        row_gives (after context (TableOf outer y)) rest outer x indices l h o

  -- a loop's turns, of a table that passes
  loop_ok : (context : Context) (outer : Indices) (index : List ℕ) (lo hi : Manifest) (items : Items) (at : ℕ)
      → Passes context (TableOf outer (loop index lo hi items at))
      → RowPasses context
      (each (TurnOf outer index at items) (loop_turns (manifest_value outer lo) (manifest_value outer hi)))
  loop_ok context outer index lo hi items at ok =
      let turns =
      in_order
      (each (TurnOf outer index at items) (loop_turns (manifest_value outer lo) (manifest_value outer hi))) in
      let from = tail context (rules (value_rules outer lo)) (rules (value_rules outer hi) ▹ turns ▹ nothing) ok in
      let to = tail context (rules (value_rules outer hi)) (turns ▹ nothing) from in
      head context turns nothing to

  turns_refuse :
      (context : Context) (items : Items) (outer : Indices) (index : List ℕ) (at : ℕ) (turns : List ℤ) (turn : ℤ)
      → IsAmong turn turns
      → ((before : Context) → IsGiven before → RowPasses before (RowOf (outer ++ (index, turn) ∷ []) items) → ⊥)
      → IsGiven context
      → RowPasses context (each (TurnOf outer index at items) turns)
      → ⊥
  turns_refuse context items outer index at [] turn among none is ok = absurd among
  turns_refuse context items outer index at (t ∷ turns) turn (inl same) none is ok =
      let one = head context (TurnOf outer index at items t) (each (TurnOf outer index at items) turns) ok in
      let row = tail context (mark (counts 1 at)) (RowOf (outer ++ (index, t) ∷ []) items) one in
      none (after context (mark (counts 1 at))) (stays context (mark (counts 1 at)) is)
      (subst (λ (u : ℤ). RowPasses (after context (mark (counts 1 at))) (RowOf (outer ++ (index, u) ∷ []) items))
      (sym same) row)
  turns_refuse context items outer index at (t ∷ turns) turn (inr among) none is ok =
      turns_refuse (after context (TurnOf outer index at items t)) items outer index at turns turn among none
      (stays context (TurnOf outer index at items t) is)
      (tail context (TurnOf outer index at items t) (each (TurnOf outer index at items) turns) ok)

  -- where it is given, no item may give it
  mutual
    refuses : (context : Context) (y : Item) (outer : Indices) (x : Item) (indices : Indices) (l : Lit)
        → Presets x indices l
        → OccursIn y outer x indices
        → IsGiven context
        → Passes context (TableOf outer y)
        → ⊥
    refuses context (equation place e) outer x indices l h o is ok = not_equation x indices l place e h o.0
    refuses context (call places name args at) outer x indices l h o is ok =
        not_call x indices l places name args at h o.0
    refuses context (initial place amount v) outer x indices l h o is ok =
        refuses_own context x indices l h is
        (subst (λ (z : Item). Passes context (TableOf indices z)) (sym o.0)
        (subst (λ (i : Indices). Passes context (TableOf i (initial place amount v))) (sym o.1) ok))
    refuses context (loop index lo hi items at) outer x indices l h (turn, is_turn, o) is ok =
        turns_refuse context items outer index at (loop_turns (manifest_value outer lo) (manifest_value outer hi)) turn
        (turn_among outer lo hi turn is_turn)
        (λ before given_there passes.
        row_refuses before items (outer ++ (index, turn) ∷ []) x indices l h o given_there passes)
        is (loop_ok context outer index lo hi items at ok)

    row_refuses : (context : Context) (ys : Items) (outer : Indices) (x : Item) (indices : Indices) (l : Lit)
        → Presets x indices l
        → Occurs ys outer x indices
        → IsGiven context
        → RowPasses context (RowOf outer ys)
        → ⊥
    row_refuses context no_item outer x indices l h o is ok = absurd o
    row_refuses context (item y rest) outer x indices l h (inl o) is ok =
        refuses context y outer x indices l h o is (head context (TableOf outer y) (RowOf outer rest) ok)
    row_refuses context (item y rest) outer x indices l h (inr o) is ok =
        row_refuses (after context (TableOf outer y)) rest outer x indices l h o (stays context (TableOf outer y) is)
        (tail context (TableOf outer y) (RowOf outer rest) ok)

  same_literal : (place other : Place) (amount less : Manifest) (l m : Lit)
      → initial place amount l ≡ initial other less m
      → l ≡ m
  same_literal place other amount less l m e = cc e

  -- two items that give it have one literal
  module _ (x : Item) (indices : Indices) (l : Lit) (h : Presets x indices l) (z : Item) (others : Indices) (m : Lit)
      (g : Presets z others m) where
    turns_once : (context : Context) (items : Items) (outer : Indices) (index : List ℕ) (at : ℕ) (turns : List ℤ)
        → ((before : Context) (w : ℤ)
        → RowPasses before (RowOf (outer ++ (index, w) ∷ []) items)
        → Occurs items (outer ++ (index, w) ∷ []) x indices
        → Occurs items (outer ++ (index, w) ∷ []) z others
        → l ≡ m)
        → RowPasses context (each (TurnOf outer index at items) turns)
        → (t : ℤ)
        → IsAmong t turns
        → Occurs items (outer ++ (index, t) ∷ []) x indices
        → (u : ℤ)
        → IsAmong u turns
        → Occurs items (outer ++ (index, u) ∷ []) z others
        → l ≡ m
    turns_once context items outer index at [] same ok t is_t a u is_u b = absurd is_t
    turns_once context items outer index at (w ∷ turns) same ok t (inl at_t) a u (inl at_u) b =
        let one = head context (TurnOf outer index at items w) (each (TurnOf outer index at items) turns) ok in
        let row = tail context (mark (counts 1 at)) (RowOf (outer ++ (index, w) ∷ []) items) one in
        same (after context (mark (counts 1 at))) w row
        (subst (λ (v : ℤ). Occurs items (outer ++ (index, v) ∷ []) x indices) at_t a)
        (subst (λ (v : ℤ). Occurs items (outer ++ (index, v) ∷ []) z others) at_u b)
    turns_once context items outer index at (w ∷ turns) same ok t (inr is_t) a u (inr is_u) b =
        turns_once (after context (TurnOf outer index at items w)) items outer index at turns same
        (tail context (TurnOf outer index at items w) (each (TurnOf outer index at items) turns) ok) t is_t a u is_u b
    turns_once context items outer index at (w ∷ turns) same ok t (inl at_t) a u (inr is_u) b =
        let there =
        row_gives (after context (mark (counts 1 at))) items (outer ++ (index, w) ∷ []) x indices l h
        (subst (λ (v : ℤ). Occurs items (outer ++ (index, v) ∷ []) x indices) at_t a) in
        absurd (turns_refuse (after context (TurnOf outer index at items w)) items outer index at turns u is_u
        (λ before is passes. row_refuses before items (outer ++ (index, u) ∷ []) z others m g b is passes) there
        (tail context (TurnOf outer index at items w) (each (TurnOf outer index at items) turns) ok))
    turns_once context items outer index at (w ∷ turns) same ok t (inr is_t) a u (inl at_u) b =
        let there =
        row_gives (after context (mark (counts 1 at))) items (outer ++ (index, w) ∷ []) z others m g
        (subst (λ (v : ℤ). Occurs items (outer ++ (index, v) ∷ []) z others) at_u b) in
        absurd (turns_refuse (after context (TurnOf outer index at items w)) items outer index at turns t is_t
        (λ before is passes. row_refuses before items (outer ++ (index, t) ∷ []) x indices l h a is passes) there
        (tail context (TurnOf outer index at items w) (each (TurnOf outer index at items) turns) ok))

    mutual
      once : (context : Context) (y : Item) (outer : Indices)
          → Passes context (TableOf outer y)
          → OccursIn y outer x indices
          → OccursIn y outer z others
          → l ≡ m
      once context (equation place e) outer ok a b = absurd (not_equation x indices l place e h a.0)
      once context (call places name args at) outer ok a b = absurd (not_call x indices l places name args at h a.0)
      once context (initial place amount v) outer ok a b =
          same_literal h.place g.place h.amount g.amount l m (sym h.is ∙ a.0 ∙ sym b.0 ∙ g.is)
      once context (loop index lo hi items at) outer ok (t, is_t, a) (u, is_u, b) =
          turns_once context items outer index at (loop_turns (manifest_value outer lo) (manifest_value outer hi))
          (λ before w passes a b. row_once before items (outer ++ (index, w) ∷ []) passes a b)
          (loop_ok context outer index lo hi items at ok)
          t (turn_among outer lo hi t is_t) a u (turn_among outer lo hi u is_u) b

      row_once : (context : Context) (ys : Items) (outer : Indices)
          → RowPasses context (RowOf outer ys)
          → Occurs ys outer x indices
          → Occurs ys outer z others
          → l ≡ m
      row_once context no_item outer ok a b = absurd a
      row_once context (item y rest) outer ok (inl a) (inl b) =
          once context y outer (head context (TableOf outer y) (RowOf outer rest) ok) a b
      row_once context (item y rest) outer ok (inr a) (inr b) =
          row_once (after context (TableOf outer y)) rest outer (tail context (TableOf outer y) (RowOf outer rest) ok) a
          b
      row_once context (item y rest) outer ok (inl a) (inr b) =
          absurd (row_refuses (after context (TableOf outer y)) rest outer z others m g b
          (gives context y outer x indices l h a) (tail context (TableOf outer y) (RowOf outer rest) ok))
      row_once context (item y rest) outer ok (inr a) (inl b) =
          absurd (row_refuses (after context (TableOf outer y)) rest outer x indices l h a
          (gives context y outer z others m g b) (tail context (TableOf outer y) (RowOf outer rest) ok))

module _ (p : Program) (elements : IsClear (element_faults p)) (calls : HasCallsApart p) where
  abbrev SameLiteral : (l m : Lit) → (ty other : SigType) → Type 0
  SameLiteral l m ty other = (l ≡ m) × (ty ≡ other)

  -- an initial value by what gives it
  record Known (i : Path) (d k j : ℕ) (l : Lit) (ty : SigType) : Type 0 where
    function : Func
    instance : IsInstance p i function
    place : Place
    amount : Manifest
    indices : Indices
    decl : Decl
    occurs : Occurs function.items [] (initial place amount l) indices
    named : declared function place.name ≡ Some (d, decl)
    placed : picked indices decl.dims place.subs ≡ Some k
    value : manifest_value indices amount ≡ Some (pos j)
    typed : ty ≡ decl.ty

  known : (e : Element) (j : ℕ) (l : Lit) (ty : SigType)
      → IsPreset p e j l ty
      → Known e.instance e.declaration e.offset j l ty
  known e j l ty x =
      let s = x.site in
      let instances : e.instance ≡ s.instance = ap (λ (z : Element). z.instance) x.is in
      let declarations : e.declaration ≡ x.declaration = ap (λ (z : Element). z.declaration) x.is in
      let offsets : e.offset ≡ x.offset = ap (λ (z : Element). z.offset) x.is in
      record {
        function = s.function;
        instance = subst (λ (i : Path). IsInstance p i s.function) (sym instances) x.found.instance;
        place = x.place;
        amount = x.amount;
        indices = s.indices;
        decl = x.decl;
        occurs = x.found.occurs;
        named = x.signal.named ∙ ap (λ (n : ℕ). Some (n, x.decl)) (sym declarations);
        placed = offset_picked s.indices x.decl.dims x.place.subs x.offset x.signal.placed ∙ ap Some (sym offsets);
        value = x.sample;
        typed = x.typed;
      }

  one_value :
      (i : Path) (d k j : ℕ) (f g : Func) (l m : Lit) (ty other : SigType) (x : Known i d k j l ty)
      (y : Known i d k j m other)
      → x.function ≡ f
      → y.function ≡ f
      → SameLiteral l m ty other
  one_value i d k j f g l m ty other x y at_x at_y =
      let instance : IsInstance p i f = subst (λ (h : Func). IsInstance p i h) at_x x.instance in
      let c = checked_instance p elements i f instance in
      let inside = instance_table p c.calls in
      let ok = items_ok p c.calls f c.marks c.ok in
      let a : Presets p f inside d k j (initial x.place x.amount l) x.indices l = record {
        place = x.place;
        amount = x.amount;
        decl = x.decl;
        is = refl;
        named = subst (λ (h : Func). declared h x.place.name ≡ Some (d, x.decl)) at_x x.named;
        placed = x.placed;
        value = x.value;
      } in
      let b : Presets p f inside d k j (initial y.place y.amount m) y.indices m = record {
        place = y.place;
        amount = y.amount;
        decl = y.decl;
        is = refl;
        named = subst (λ (h : Func). declared h y.place.name ≡ Some (d, y.decl)) at_y y.named;
        placed = y.placed;
        value = y.value;
      } in
      let x_there : Occurs f.items [] (initial x.place x.amount l) x.indices =
      subst (λ (h : Func). Occurs h.items [] (initial x.place x.amount l) x.indices) at_x x.occurs in
      let y_there : Occurs f.items [] (initial y.place y.amount m) y.indices =
      subst (λ (h : Func). Occurs h.items [] (initial y.place y.amount m) y.indices) at_y y.occurs in (
        row_once p f inside d k j (initial x.place x.amount l) x.indices l a (initial y.place y.amount m) y.indices m b
            _ f.items [] ok x_there y_there,
        x.typed
            ∙ ap (λ (z : Decl). z.ty)
            (some_once (declared_stands f x.place.name (d, x.decl) a.named)
            (declared_stands f y.place.name (d, y.decl) b.named))
            ∙ sym y.typed,
      )

  -- two initial values of an element for a sample are one
  pub presets_once : (e : Element) (j : ℕ) (l m : Lit) (ty other : SigType)
      → IsPreset p e j l ty
      → IsPreset p e j m other
      → SameLiteral l m ty other
  presets_once e j l m ty other x y =
      let a = known e j l ty x in
      let b = known e j m other y in
      let same = instance_once p calls e.instance b.function a.function b.instance a.instance in
      one_value e.instance e.declaration e.offset j a.function a.function l m ty other a b refl same
