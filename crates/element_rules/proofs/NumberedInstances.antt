-- The instances of a table without a fault are those of the program.
use Rattle.std.proofs.Common.{◌≡◌, ◌∙◌, ◌<◌, ◌≤◌, ◌+◌, ◌++◌, ◌⊎◌, inl, inr, ℕ, zero, suc, ℤ, List, [], ◌∷◌, length}
use Rattle.std.proofs.Common.{slice_get, sum_by, Option, Some, None, Ok, refl, sym, ap, subst, arith, append_assoc}
use Rattle.std.proofs.Common.{append-nil, length-append}
use Rattle.std.proofs.lemmas.Bool.{cases_lt}
use Rattle.lists.proofs.Places.{some_once, at_left, at_end}
use Rattle.fault_order.specs.Private.FirstMet.{first, first_in}
use Rattle.fault_order.proofs.TableFaults.{then_parts}
use Rattle.silage_syntax.specs.Tree.{Place, Expr, Item, equation, call, loop, initial, Items, no_item, item, Func}
use Rattle.silage_syntax.specs.Tree.{function, Program}
use Rattle.silage_syntax.specs.Manifests.{Indices, manifest_value}
use Rattle.silage_syntax.specs.Names.{decls, declared, function_named}
use Rattle.silage_meaning.specs.Instances.{Step, Instance as Path, inside, Occurs, OccursIn, turns_of, Calls}
use Rattle.silage_meaning.specs.Instances.{IsInstance, inside_is}
use Rattle.name_rules.specs.TopNames.{top_names, position_of}
use Rattle.name_rules.specs.FirstTops.{IsDistinct}
use Rattle.element_rules.specs.declared.elements.Instance.{Instance}
use Rattle.element_rules.specs.Tables.{given, needs, counts, Table, rules, mark, in_order, enters, Row, nothing, ◌▹◌}
use Rattle.element_rules.specs.Tables.{each, each_from, Context, at_entry, after, table_rules, row_rules}
use Rattle.element_rules.specs.Expansion.{entered, instances_after, row_instances}
use Rattle.element_rules.specs.Numbering.{HasPath, of_call}
use Rattle.element_rules.specs.ElementRules.{weight, counted, each_place, value_rules, initial_table, takers}
use Rattle.element_rules.specs.ElementRules.{expr_rules, entry, call_table, item_table, items_row, instance_table}
use Rattle.element_rules.specs.ElementRules.{loop_turns}
use Rattle.element_rules.proofs.NamedTops.{top_named}
use Rattle.element_rules.proofs.QuietTables.{EntersNone, none_each_from, none_places, none_counted, none_target}
use Rattle.element_rules.proofs.QuietTables.{none_initial, none_takers, none_args}
use Rattle.element_rules.proofs.LoopTurns.{IsAmong, turn_among, among_turn}

pub same_step : (at : ℕ) (turns : List ℤ) (step : Step)
    → at ≡ step.at
    → turns ≡ step.turns
    → record { at = at; turns = turns } ≡ step
same_step at turns step e f = rw (e, f) refl

third_holds : (context : Context) (A B C : Table)
    → first_in (row_rules context (A ▹ B ▹ C ▹ nothing)) ≡ Ok tt
    → first (table_rules (after (after context A) B) C) ≡ Ok tt
third_holds context A B C ok =
    let from =
    then_parts (first (table_rules context A)) (first_in (row_rules (after context A) (B ▹ C ▹ nothing))) ok in
    let to =
    then_parts (first (table_rules (after context A) B))
    (first_in (row_rules (after (after context A) B) (C ▹ nothing))) from.1 in
    (then_parts (first (table_rules (after (after context A) B) C)) (Ok tt) to.1).0

-- a list goes on behind its front
pub record Extends (front whole : List Instance) : Type 0 where
  pub more : List Instance
  pub is : whole ≡ front ++ more

extends_none : (front : List Instance) → Extends front front
extends_none front = record { more = []; is = sym (append-nil front) }

pub extends_then : (front mid whole : List Instance) → Extends front mid → Extends mid whole → Extends front whole
extends_then front mid whole a b =
    record { more = a.more ++ b.more; is = b.is ∙ ap (λ l. l ++ b.more) a.is ∙ append_assoc front a.more b.more }

extends_longer : (front whole : List Instance) → Extends front whole → length front ≤ length whole
extends_longer front whole e = omega (arith, ap length e.is, length-append front e.more)

mutual
  pub table_extends : (number : ℕ) (front : List Instance) (T : Table) → Extends front (instances_after number front T)
  table_extends number front (rules R) = extends_none front
  table_extends number front (mark m) = extends_none front
  table_extends number front (in_order row) = row_extends number front row
  table_extends number front (enters func step T) =
      let own = entered func number step in
      extends_then front (front ++ own ∷ []) (instances_after (length front) (front ++ own ∷ []) T)
      (record { more = own ∷ []; is = refl }) (table_extends (length front) (front ++ own ∷ []) T)

  row_extends : (number : ℕ) (front : List Instance) (row : Row) → Extends front (row_instances number front row)
  row_extends number front nothing = extends_none front
  row_extends number front (T ▹ row) =
      extends_then front (instances_after number front T) (row_instances number (instances_after number front T) row)
      (table_extends number front T) (row_extends number (instances_after number front T) row)

module _ (p : Program) (apart : IsDistinct (top_names p)) (es : List Instance) where
  -- the call of this function has an instance, of which this is the parent
  pub record IsMade (number : ℕ) (step : Step) (h : Func) : Type 0 where
    pub at : ℕ
    pub instance : Instance
    pub stands : slice_get es at ≡ Some instance
    pub later : 0 < at
    pub parent : instance.parent ≡ number
    pub site : instance.site ≡ step.at
    pub turns : instance.turns ≡ step.turns
    pub func : slice_get p.tops instance.func ≡ Some (function h)

  -- the instance with this number is one of the program, and each call in it is made
  pub record IsGood (n : ℕ) (i : Instance) : Type 0 where
    pub path : Path
    pub func : Func
    pub leads : HasPath es n path
    pub is_instance : IsInstance p path func
    pub stands : slice_get p.tops i.func ≡ Some (function func)
    pub makes : (step : Step) (h : Func) → Calls p func step h → IsMade n step h

  abbrev Callees : Type 1
  Callees = Step → Func → Type 0

  -- the instances behind the front are good, and these calls in the instance with this number are made
  pub record Grows (number : ℕ) (front whole : List Instance) (Called : Callees) : Type 0 where
    pub good : (n : ℕ) (i : Instance) → length front ≤ n → n < length whole → slice_get es n ≡ Some i → IsGood n i
    pub made : (step : Step) (h : Func) → Called step h → IsMade number step h

  abbrev Makes : ℕ → Table → Callees → Type 0
  Makes number T Called =
      (front : List Instance)
      → 0 < length front
      → (context : Context)
      → first (table_rules context T) ≡ Ok tt
      → Extends (instances_after number front T) es
      → Grows number front (instances_after number front T) Called

  abbrev MakesRow : ℕ → Row → Callees → Type 0
  MakesRow number row Called =
      (front : List Instance)
      → 0 < length front
      → (context : Context)
      → first_in (row_rules context row) ≡ Ok tt
      → Extends (row_instances number front row) es
      → Grows number front (row_instances number front row) Called

  abbrev NoCallee : Callees
  NoCallee step h = ⊥

  made_as : (number : ℕ) (front whole : List Instance) (C D : Callees)
      → ((step : Step) (h : Func) → D step h → C step h)
      → Grows number front whole C
      → Grows number front whole D
  made_as number front whole C D to g = record { good = g.good; made = λ step h d. g.made step h (to step h d) }

  nothing_grows : (number : ℕ) (front whole : List Instance)
      → whole ≡ front
      → (C : Callees)
      → ((step : Step) (h : Func) → C step h → ⊥)
      → Grows number front whole C
  nothing_grows number front whole same C none = record {
    good = λ n i least most e. absurd (omega (arith, ap length same));
    made = λ step h c. absurd (none step h c);
  }

  none_made : (number : ℕ) (T : Table)
      → EntersNone T
      → (C : Callees)
      → ((step : Step) (h : Func) → C step h → ⊥)
      → Makes number T C
  none_made number T none C uncalled front some context ok ext =
      nothing_grows number front (instances_after number front T) (none number front) C uncalled

  end_made : (number : ℕ) → MakesRow number nothing NoCallee
  end_made number front some context ok ext = nothing_grows number front front refl NoCallee (λ step h c. c)

  row_made : (number : ℕ) (T : Table) (row : Row) (C D : Callees)
      → Makes number T C
      → MakesRow number row D
      → MakesRow number (T ▹ row) (λ step h. C step h ⊎ D step h)
  row_made number T row C D one rest front some context ok ext =
      let mid = instances_after number front T in
      let whole = row_instances number mid row in
      let parts = then_parts (first (table_rules context T)) (first_in (row_rules (after context T) row)) ok in
      let longer = extends_longer front mid (table_extends number front T) in
      let a = one front some context parts.0 (extends_then mid whole es (row_extends number mid row) ext) in
      let b = rest mid (omega arith) (after context T) parts.1 ext in
      record {
        good = λ n i least most e. side n i least most e a b (cases_lt n (length mid));
        made = λ step h c. either step h a b c;
      }
    where
      side : (n : ℕ) (i : Instance)
          → length front ≤ n
          → n < length (row_instances number (instances_after number front T) row)
          → slice_get es n ≡ Some i
          → Grows number front (instances_after number front T) C
          → Grows number (instances_after number front T) (row_instances number (instances_after number front T) row) D
          → (n < length (instances_after number front T)) ⊎ (length (instances_after number front T) ≤ n)
          → IsGood n i
      side n i least most e a b (inl before) = a.good n i least before e
      side n i least most e a b (inr behind) = b.good n i behind most e

      either : (step : Step) (h : Func)
          → Grows number front (instances_after number front T) C
          → Grows number (instances_after number front T) (row_instances number (instances_after number front T) row) D
          → C step h ⊎ D step h
          → IsMade number step h
      either step h a b (inl c) = a.made step h c
      either step h a b (inr d) = b.made step h d

  -- a row in which one table alone enters instances
  module _ (number : ℕ) (C : Callees) where
    skip : (T : Table) (row : Row) → EntersNone T → MakesRow number row C → MakesRow number (T ▹ row) C
    skip T row none rest front some context ok ext =
        made_as number front _ (λ step h. NoCallee step h ⊎ C step h) C (λ step h c. inr c)
        (row_made number T row NoCallee C (none_made number T none NoCallee (λ step h c. c)) rest front some context ok
        ext)

    last : (T : Table) → Makes number T C → MakesRow number (T ▹ nothing) C
    last T one front some context ok ext =
        made_as number front _ (λ step h. C step h ⊎ NoCallee step h) C (λ step h c. inl c)
        (row_made number T nothing C NoCallee one (end_made number) front some context ok ext)

    then_none : (T : Table) (row : Row) → Makes number T C → MakesRow number row NoCallee → MakesRow number (T ▹ row) C
    then_none T row one rest front some context ok ext =
        made_as number front _ (λ step h. C step h ⊎ NoCallee step h) C (λ step h c. inl c)
        (row_made number T row C NoCallee one rest front some context ok ext)

  -- the calls among items
  record Called (Among : Item → Indices → Type 0) (step : Step) (h : Func) : Type 0 where
    places : List Place
    name : List ℕ
    args : List Expr
    indices : Indices
    among : Among (call places name args step.at) indices
    turns : step.turns ≡ turns_of indices
    named : function_named p name ≡ Some h

  called_as : (A B : Item → Indices → Type 0)
      → ((x : Item) (indices : Indices) → A x indices → B x indices)
      → (step : Step) (h : Func)
      → Called A step h
      → Called B step h
  called_as A B to step h c = record {
    places = c.places;
    name = c.name;
    args = c.args;
    indices = c.indices;
    among = to _ _ c.among;
    turns = c.turns;
    named = c.named;
  }

  abbrev InstanceMakes : (calls : ℕ) → Type 0
  InstanceMakes calls =
      (h : Func) (path : Path) (number : ℕ)
      → IsInstance p path h
      → HasPath es number path
      → Makes number (instance_table p calls h) (Calls p h)

  module _ (calls : ℕ) (inner : InstanceMakes calls) (g : Func) (path : Path) (number : ℕ)
      (is_instance : IsInstance p path g) (leads : HasPath es number path) where
    -- the instance that a call makes
    entry_made : (name : List ℕ) (k : Func)
        → function_named p name ≡ Some k
        → (step : Step)
        → Calls p g step k
        → Makes number (enters (position_of p name) step (instance_table p calls k)) (λ s h. (s ≡ step) × (h ≡ k))
    entry_made name k named step calls_it front some context ok ext =
        record { good = good; made = λ s h c. rw (c.0, c.1) made }
      where
        own : Instance
        own = entered (position_of p name) number step

        whole : List Instance
        whole = instances_after (length front) (front ++ own ∷ []) (instance_table p calls k)

        here : slice_get es (length front) ≡ Some own
        here =
            let all =
            extends_then (front ++ own ∷ []) whole es
            (table_extends (length front) (front ++ own ∷ []) (instance_table p calls k)) ext in
            ap (λ l. slice_get l (length front)) all.is
            ∙ at_left (front ++ own ∷ []) all.more (length front) own (at_end front own)

        has_path : HasPath es (length front) (inside path step)
        has_path = of_call some here leads

        is_inner : IsInstance p (inside path step) k
        is_inner = inside_is is_instance calls_it

        size : length (front ++ own ∷ []) ≡ length front + 1
        size = length-append front (own ∷ [])

        grown : Grows (length front) (front ++ own ∷ []) whole (Calls p k)
        grown =
            inner k (inside path step) (length front) is_inner has_path (front ++ own ∷ []) (omega (arith, size))
            (at_entry context.of_program) ok ext

        made : IsMade number step k
        made = record {
          at = length front;
          instance = own;
          stands = here;
          later = some;
          parent = refl;
          site = refl;
          turns = refl;
          func = top_named p name k apart named;
        }

        own_good : IsGood (length front) own
        own_good = record {
          path = inside path step;
          func = k;
          leads = has_path;
          is_instance = is_inner;
          stands = top_named p name k apart named;
          makes = grown.made;
        }

        good : (n : ℕ) (i : Instance) → length front ≤ n → n < length whole → slice_get es n ≡ Some i → IsGood n i
        good n i least most e = elim (cases_lt (length front) n) [
          | inl less ↦ grown.good n i (omega (arith, size)) most e
          | inr more ↦
              let same : length front ≡ n = omega arith in
              let it : own ≡ i = some_once here (rw same e) in
              rw (← same, ← it) own_good
        ]

    module _ (outer : Indices) where
      abbrev CallAmong : Item → Item → Indices → Type 0
      CallAmong x y indices = OccursIn x outer y indices

      call_made : (places : List Place) (name : List ℕ) (args : List Expr) (at : ℕ) (o : Option Func)
          → function_named p name ≡ o
          → ((y : Item) (indices : Indices)
          → (y ≡ call places name args at) × (indices ≡ outer)
          → Occurs g.items [] y indices)
          → Makes number (call_table p g (instance_table p calls) outer o places name args at)
          (Called (λ y indices. (y ≡ call places name args at) × (indices ≡ outer)))
      call_made places name args at None named sub =
          none_made number (in_order nothing) (λ number front. refl) _ (λ step h c.
          let same : c.name ≡ name = cc (c.among.0) in absurd (cc (c.named, named, ap (function_named p) same)))
      call_made places name args at (Some k) named sub =
          let step : Step = record { at = at; turns = turns_of outer } in
          let it : Calls p g step k = record {
            places = places;
            name = name;
            args = args;
            indices = outer;
            occurs = sub _ _ (refl, refl);
            turns = refl;
            named = named;
          } in
          let C : Callees = λ s h. (s ≡ step) × (h ≡ k) in
          let load_row =
          counted (sum_by weight args) at ▹ entry p g (instance_table p calls) outer name k at ▹ nothing in
          let args_row = in_order (each (λ x. rules (expr_rules p g outer x)) args) ▹ load_row in
          λ front some context ok ext.
          made_as number front _ C _ only
          (skip number C (in_order (takers p g outer k.results places)) args_row
          (none_takers outer p g k.results places)
          (skip number C (in_order (each (λ x. rules (expr_rules p g outer x)) args)) load_row
          (none_args outer p g args)
          (skip number C (counted (sum_by weight args) at)
          (entry p g (instance_table p calls) outer name k at ▹ nothing) (none_counted (sum_by weight args) at)
          (last number C (entry p g (instance_table p calls) outer name k at) (entry_made name k named step it))))
          front some context ok ext)
        where
          only : (s : Step) (h : Func)
              → Called (λ y indices. (y ≡ call places name args at) × (indices ≡ outer)) s h
              → (s ≡ record { at = at; turns = turns_of outer }) × (h ≡ k)
          only s h c =
              let same_name : c.name ≡ name = cc (c.among.0) in
              let same_at : s.at ≡ at = cc (c.among.0) in
              let same_turns : s.turns ≡ turns_of outer = c.turns ∙ ap turns_of c.among.1 in (
                sym (same_step at (turns_of outer) s (sym same_at) (sym same_turns)),
                some_once (ap (function_named p) (sym same_name) ∙ c.named) named,
              )

    turns_made : (items : Items) (index : List ℕ) (outer : Indices) (at : ℕ) (turns : List ℤ)
        → ((turn : ℤ)
        → IsAmong turn turns
        → MakesRow number (items_row p g (instance_table p calls) (outer ++ (index, turn) ∷ []) items)
        (Called (λ y indices. Occurs items (outer ++ (index, turn) ∷ []) y indices)))
        → MakesRow number
        (each (λ turn.
        in_order
        (mark (counts 1 at) ▹ items_row p g (instance_table p calls) (outer ++ (index, turn) ∷ []) items))
        turns) (λ s h.
        (turn : ℤ)
        × IsAmong turn turns
        × Called (λ y indices. Occurs items (outer ++ (index, turn) ∷ []) y indices) s h)
    turns_made items index outer at [] each_turn front some context ok ext =
        nothing_grows number front front refl _ (λ s h c. c.1)
    turns_made items index outer at (turn ∷ turns) each_turn front some context ok ext =
        let Here : Callees = Called (λ y indices. Occurs items (outer ++ (index, turn) ∷ []) y indices) in
        let Later : Callees = λ s h.
        (t : ℤ) × IsAmong t turns × Called (λ y indices. Occurs items (outer ++ (index, t) ∷ []) y indices) s h in
        let turn_row =
        mark (counts 1 at) ▹ items_row p g (instance_table p calls) (outer ++ (index, turn) ∷ []) items in
        made_as number front _ (λ s h. Here s h ⊎ Later s h) _ one_of
        (row_made number (in_order turn_row)
        (each (λ turn.
        in_order (mark (counts 1 at) ▹ items_row p g (instance_table p calls) (outer ++ (index, turn) ∷ []) items))
        turns) Here Later
        (skip number Here (mark (counts 1 at))
        (items_row p g (instance_table p calls) (outer ++ (index, turn) ∷ []) items) (λ number front. refl)
        (each_turn turn (inl refl)))
        (turns_made items index outer at turns (λ t has. each_turn t (inr has)))
        front some context ok ext)
      where
        one_of : (s : Step) (h : Func)
            → ((t : ℤ)
            × IsAmong t (turn ∷ turns)
            × Called (λ y indices. Occurs items (outer ++ (index, t) ∷ []) y indices) s h)
            → Called (λ y indices. Occurs items (outer ++ (index, turn) ∷ []) y indices) s h
            ⊎ ((t : ℤ)
            × IsAmong t turns
            × Called (λ y indices. Occurs items (outer ++ (index, t) ∷ []) y indices) s h)
        one_of s h (t, inl same, c) =
            inl (subst (λ t. Called (λ y indices. Occurs items (outer ++ (index, t) ∷ []) y indices) s h) same c)
        one_of s h (t, inr has, c) = inr (t, has, c)

    mutual
      item_made : (x : Item) (outer : Indices)
          → ((y : Item) (indices : Indices) → OccursIn x outer y indices → Occurs g.items [] y indices)
          → Makes number (item_table p g (instance_table p calls) outer x)
          (Called (λ y indices. OccursIn x outer y indices))
      item_made (equation place x) outer sub =
          none_made number (item_table p g (instance_table p calls) outer (equation place x))
          (λ number front.
          ap (λ f. instances_after number f (counted (weight x) place.at))
          (none_target outer (declared g place.name) place number front)
          ∙ none_counted (weight x) place.at number front)
          _ (λ step h c. absurd (cc (c.among.0)))
      item_made (initial place amount value) outer sub =
          none_made number (initial_table outer (declared g place.name) place amount)
          (none_initial outer (declared g place.name) place amount) _ (λ step h c. absurd (cc (c.among.0)))
      item_made (call places name args at) outer sub =
          call_made outer places name args at (function_named p name) refl sub
      item_made (loop index lo hi items at) outer sub =
          let turns = loop_turns (manifest_value outer lo) (manifest_value outer hi) in
          let turns_row =
          each (λ turn.
          in_order
          (mark (counts 1 at) ▹ items_row p g (instance_table p calls) (outer ++ (index, turn) ∷ []) items))
          turns in
          λ front some context ok ext.
          made_as number front _ (λ s h.
          (turn : ℤ)
          × IsAmong turn turns
          × Called (λ y indices. Occurs items (outer ++ (index, turn) ∷ []) y indices) s h)
          _
          (λ s h c.
          let o = c.among in (
            o.0,
            turn_among outer lo hi o.0 o.1,
            record {
              places = c.places;
              name = c.name;
              args = c.args;
              indices = c.indices;
              among = o.2;
              turns = c.turns;
              named = c.named;
            },
          ))
          (turns_made items index outer at turns
          (λ turn has.
          items_made items (outer ++ (index, turn) ∷ [])
          (λ y indices o. sub y indices (turn, among_turn outer lo hi turn has, o))) front some context
          (third_holds context (rules (value_rules outer lo)) (rules (value_rules outer hi)) (in_order turns_row) ok)
          ext)

      items_made : (items : Items) (outer : Indices)
          → ((y : Item) (indices : Indices) → Occurs items outer y indices → Occurs g.items [] y indices)
          → MakesRow number (items_row p g (instance_table p calls) outer items)
          (Called (λ y indices. Occurs items outer y indices))
      items_made no_item outer sub front some context ok ext =
          nothing_grows number front front refl _ (λ s h c. c.among)
      items_made (item x rest) outer sub front some context ok ext =
          let Here : Callees = Called (λ y indices. OccursIn x outer y indices) in
          let Later : Callees = Called (λ y indices. Occurs rest outer y indices) in
          made_as number front _ (λ s h. Here s h ⊎ Later s h) _ one_of
          (row_made number (item_table p g (instance_table p calls) outer x)
          (items_row p g (instance_table p calls) outer rest) Here Later
          (item_made x outer (λ y indices o. sub y indices (inl o)))
          (items_made rest outer (λ y indices o. sub y indices (inr o)))
          front some context ok ext)
        where
          one_of : (s : Step) (h : Func)
              → Called (λ y indices. Occurs (item x rest) outer y indices) s h
              → Called (λ y indices. OccursIn x outer y indices) s h
              ⊎ Called (λ y indices. Occurs rest outer y indices) s h
          one_of s h c = by c.among
            where
              by :
                  OccursIn x outer (call c.places c.name c.args s.at) c.indices
                  ⊎ Occurs rest outer (call c.places c.name c.args s.at) c.indices
                  → Called (λ y indices. OccursIn x outer y indices) s h
                  ⊎ Called (λ y indices. Occurs rest outer y indices) s h
              by (inl o) =
                  inl (record {
                    places = c.places;
                    name = c.name;
                    args = c.args;
                    indices = c.indices;
                    among = o;
                    turns = c.turns;
                    named = c.named;
                  })
              by (inr o) =
                  inr (record {
                    places = c.places;
                    name = c.name;
                    args = c.args;
                    indices = c.indices;
                    among = o;
                    turns = c.turns;
                    named = c.named;
                  })

  -- an instance, with all that it enters
  pub instance_made : (calls : ℕ) → InstanceMakes calls
  instance_made zero h path number is_instance leads front some context ok ext = absurd (cc (ok))
  instance_made (suc calls) h path number is_instance leads front some context ok ext =
      let the_items = items_row p h (instance_table p calls) [] h.items in
      let given_row = each_from (λ d decl. each_place (given d) decl) 0 h.params in
      let needs_row = each_from (λ d decl. each_place (λ k. needs d k decl.at) decl) 0 (decls h) in
      made_as number front _ (Called (λ y indices. Occurs h.items [] y indices)) (Calls p h)
      (λ s k c. record {
        places = c.places;
        name = c.name;
        args = c.args;
        indices = c.indices;
        among = c.occurs;
        turns = c.turns;
        named = c.named;
      })
      (skip number _ (mark (counts _ h.at)) (in_order given_row ▹ in_order the_items ▹ in_order needs_row ▹ nothing)
      (λ number front. refl)
      (skip number _ (in_order given_row) (in_order the_items ▹ in_order needs_row ▹ nothing)
      (none_each_from _ (λ d decl. none_places (given d) decl) 0 h.params)
      (then_none number _ (in_order the_items) (in_order needs_row ▹ nothing)
      (items_made calls (instance_made calls) h path number is_instance leads h.items [] (λ y indices o. o))
      (skip number NoCallee (in_order needs_row) nothing
      (none_each_from _ (λ d decl. none_places (λ k. needs d k decl.at) decl) 0 (decls h)) (end_made number))))
      front some context ok ext)
