-- Where each call has a position of its own, the elements of the program have one number each.
use Rattle.std.proofs.Common.{◌≡◌, refl, sym, subst, ◌∙◌, ap, arith, ℕ, zero, suc, ◌+◌, ◌≤◌, inl, inr, ℤ, pos}
use Rattle.std.proofs.Common.{negsuc, ◌+ℤ◌, Bool, true, false, cond, List, [], ◌∷◌, ◌++◌, map, length, slice_get}
use Rattle.std.proofs.Common.{sum_by, codes, append_assoc, append-nil, Option, Some, None}
use Rattle.std.specs.Prelude.{nat_eq}
use Rattle.std.specs.List.{range_with_len}
use Rattle.std.proofs.lemmas.Int.{ints}
use Rattle.std.proofs.lemmas.List.{map-append}
use Rattle.std.proofs.lemmas.Option.{slice_get_within}
use Rattle.lists.proofs.Places.{at_left, at_right}
use Rattle.fault_order.specs.Rules.{Rules, parts}
use Rattle.fault_order.specs.Ranked.{IsClear}
use Rattle.silage_syntax.specs.declared.tree.Decl.{Decl}
use Rattle.silage_syntax.specs.Tree.{Manifest, Place, Expr, Item, equation, call, loop, initial, Items, no_item, item}
use Rattle.silage_syntax.specs.Tree.{Func, Program}
use Rattle.silage_syntax.specs.Manifests.{Indices, manifest_value}
use Rattle.silage_syntax.specs.Names.{decls, declared, function_named, element_count, main_of}
use Rattle.silage_meaning.specs.Instances.{Step, turns_of}
use Rattle.name_rules.specs.NameFaults.{name_faults}
use Rattle.element_rules.specs.declared.fault.PlacedFault.{PlacedFault}
use Rattle.element_rules.specs.declared.fault.PlacedFault.TheVariants.{Delay}
use Rattle.element_rules.specs.declared.elements.Instance.{Instance}
use Rattle.element_rules.specs.declared.elements.Element.{Element as Entry}
use Rattle.element_rules.specs.declared.elements.Elements.{Elements}
use Rattle.element_rules.specs.Tables.{Mark, defines, given, needs, counts, presets, Table, rules, mark, in_order}
use Rattle.element_rules.specs.Tables.{Row, nothing, ◌▹◌, each, each_from}
use Rattle.element_rules.specs.Expansion.{entered, instances_after, IsExpansion}
use Rattle.name_rules.specs.TopNames.{position_of}
use Rattle.element_rules.specs.ElementRules.{picked, subscript_rules, number_rules, samples, weight, counted}
use Rattle.element_rules.specs.ElementRules.{each_place, definition, target_table, array_table, initial_value}
use Rattle.element_rules.specs.ElementRules.{initial_table, taker_table, takers, expr_rules, call_table, item_table}
use Rattle.element_rules.specs.ElementRules.{items_row, instance_table, max_nested, main_table, loop_turns, count_up}
use Rattle.element_rules.proofs.NamedTops.{top_named}
use Rattle.element_rules.proofs.SoundNames.{names_apart}
use Rattle.element_rules.specs.CallPositions.{AreDistinct, calls_of, calls_in, HasOwnPositions}
use Rattle.element_rules.specs.Numbers.{HasDistinctNumbers}
use Rattle.element_rules.proofs.OncePaths.{Enters, RowEnters, IsOnce, RowIsOnce, Spread, table_spread, number_once}
use Rattle.element_rules.proofs.OnceEntries.{entry_once}
use Rattle.element_rules.proofs.LoopTurns.{IsAmong}

-- Tables that enter no instance.
abbrev IsFlat : Table → Type 0
IsFlat T = IsOnce T × ((s : Step) → Enters T s → ⊥)

abbrev IsFlatRow : Row → Type 0
IsFlatRow row = RowIsOnce row × ((s : Step) → RowEnters row s → ⊥)

then_flat : (T : Table) (row : Row) → IsFlat T → IsFlatRow row → IsFlatRow (T ▹ row)
then_flat T row x y = ((x.0, y.0, λ s a b. x.1 s a), λ s h. elim h [ inl a ↦ x.1 s a | inr b ↦ y.1 s b ])

nothing_flat : IsFlatRow nothing
nothing_flat = (tt, λ s h. h)

each_flat : {A : Type 0} (G : A → Table) → ((x : A) → IsFlat (G x)) → (xs : List A) → IsFlatRow (each G xs)
each_flat G all [] = nothing_flat
each_flat G all (x ∷ xs) = then_flat (G x) (each G xs) (all x) (each_flat G all xs)

each_from_flat : {A : Type 0} (G : ℕ → A → Table)
    → ((k : ℕ) (x : A) → IsFlat (G k x))
    → (k : ℕ) (xs : List A)
    → IsFlatRow (each_from G k xs)
each_from_flat G all k [] = nothing_flat
each_from_flat G all k (x ∷ xs) = then_flat (G k x) (each_from G (k + 1) xs) (all k x) (each_from_flat G all (k + 1) xs)

mark_flat : (m : Mark) → IsFlat (mark m)
mark_flat m = (tt, λ s h. h)

rules_flat : (R : Rules PlacedFault) → IsFlat (rules R)
rules_flat R = (tt, λ s h. h)

rules_then : (R : Rules PlacedFault) (row : Row) → IsFlatRow row → IsFlatRow (rules R ▹ row)
rules_then R row x = then_flat (rules R) row (rules_flat R) x

none_flat : IsFlat (in_order nothing)
none_flat = (tt, λ s h. h)

places_flat : (M : ℕ → Mark) (d : Decl) → IsFlat (each_place M d)
places_flat M d = each_flat (λ k. mark (M k)) (λ k. mark_flat (M k)) (range_with_len 0 (element_count d.dims))

either_flat : (b : Bool) (S T : Table) → IsFlat S → IsFlat T → IsFlat (cond b S T)
either_flat true S T x y = x
either_flat false S T x y = y

counted_flat : (load at : ℕ) → IsFlat (counted load at)
counted_flat load at =
    either_flat (nat_eq load 0) (in_order nothing) (mark (counts load at)) none_flat (mark_flat (counts load at))

definition_flat : (d : ℕ) (place : Option ℕ) (at : ℕ) → IsFlat (definition d place at)
definition_flat d None at = none_flat
definition_flat d (Some k) at = mark_flat (defines d k at)

value_flat : (d : ℕ) (place : Option ℕ) (sample : Option ℤ) (at : ℕ) → IsFlat (initial_value d place sample at)
value_flat d None sample at = none_flat
value_flat d (Some k) None at = none_flat
value_flat d (Some k) (Some (pos s)) at = mark_flat (presets d k s at)
value_flat d (Some k) (Some (negsuc s)) at = none_flat

target_flat : (indices : Indices) (o : Option (ℕ × Decl)) (place : Place) → IsFlat (target_table indices o place)
target_flat indices None place = none_flat
target_flat indices (Some d) place =
    let D = definition d.0 (picked indices d.1.dims place.subs) place.at in
    rules_then (parts (subscript_rules indices d.1.dims place.subs)) (D ▹ nothing)
    (then_flat D nothing (definition_flat d.0 (picked indices d.1.dims place.subs) place.at) nothing_flat)

array_flat : (o : Option (ℕ × Decl)) (place : Place) → IsFlat (array_table o place)
array_flat None place = none_flat
array_flat (Some d) place = places_flat (λ k. defines d.0 k place.at) d.1

initial_flat : (indices : Indices) (o : Option (ℕ × Decl)) (place : Place) (amount : Manifest)
    → IsFlat (initial_table indices o place amount)
initial_flat indices None place amount = none_flat
initial_flat indices (Some d) place amount =
    let V = initial_value d.0 (picked indices d.1.dims place.subs) (manifest_value indices amount) place.at in
    let C = mark (counts 1 place.at) in
    let N = number_rules indices samples Delay amount in
    rules_then (parts (subscript_rules indices d.1.dims place.subs)) (rules N ▹ V ▹ C ▹ nothing)
    (rules_then N (V ▹ C ▹ nothing)
    (then_flat V (C ▹ nothing)
    (value_flat d.0 (picked indices d.1.dims place.subs) (manifest_value indices amount) place.at)
    (then_flat C nothing (mark_flat (counts 1 place.at)) nothing_flat)))

-- a step of a call at one of these positions, in turns of the loops around
record In (outer : Indices) (xs : List ℕ) (s : Step) : Type 0 where
  place : ℕ
  there : slice_get xs place ≡ Some s.at
  more : List ℤ
  turns : s.turns ≡ turns_of outer ++ more

-- turns of which no two are the same
abbrev AreApart : List ℤ → Type 0
AreApart [] = Unit {0}
AreApart (t ∷ ts) = (IsAmong t ts → ⊥) × AreApart ts

turns_above : (first : ℤ) (a n : ℕ) (u : ℤ)
    → IsAmong u (map (λ k. first +ℤ pos k) (range_with_len a n))
    → (k : ℕ) × (a ≤ k) × (u ≡ first +ℤ pos k)
turns_above first a zero u h = absurd h
turns_above first a (suc n) u (inl e) = (a, omega arith, e)
turns_above first a (suc n) u (inr h) =
    let r = turns_above first (a + 1) n u h in (r.0, (let l = r.1 in omega arith), r.2)

range_apart : (first : ℤ) (a n : ℕ) → AreApart (map (λ k. first +ℤ pos k) (range_with_len a n))
range_apart first a zero = tt
range_apart first a (suc n) = (
  λ h.
      let r = turns_above first (a + 1) n (first +ℤ pos a) h in let low = r.1 in let is = r.2 in omega (arith, ints),
  range_apart first (a + 1) n,
)

turns_apart : (lo hi : Option ℤ) → AreApart (loop_turns lo hi)
turns_apart None hi = tt
turns_apart (Some first) None = tt
turns_apart (Some first) (Some last) = range_apart first 0 (count_up first last)

cancel : (xs more less : List ℤ) (t u : ℤ) → xs ++ t ∷ more ≡ xs ++ u ∷ less → t ≡ u
cancel [] more less t u e = cc e
cancel (x ∷ xs) more less t u e = cancel xs more less t u (cc e)

left_distinct : (xs ys : List ℕ) → AreDistinct (xs ++ ys) → AreDistinct xs
left_distinct xs ys d i j x e f = d i j x (at_left xs ys i x e) (at_left xs ys j x f)

right_distinct : (xs ys : List ℕ) → AreDistinct (xs ++ ys) → AreDistinct ys
right_distinct xs ys d i j x e f =
    let same =
    d (length xs + i) (length xs + j) x (at_right xs ys (length xs + i) i x refl e)
    (at_right xs ys (length xs + j) j x refl f) in
    omega arith

crossed : (xs ys : List ℕ)
    → AreDistinct (xs ++ ys)
    → (i j x : ℕ)
    → slice_get xs i ≡ Some x
    → slice_get ys j ≡ Some x
    → ⊥
crossed xs ys d i j x e f =
    let same = d i (length xs + j) x (at_left xs ys i x e) (at_right xs ys (length xs + j) j x refl f) in
    let less = slice_get_within xs i x e in
    omega arith

module _ (p : Program) (g : Func) (table_of : Func → Table) where
  taker_flat : (indices : Indices) (result : Decl) (place : Place) → IsFlat (taker_table p g indices result place)
  taker_flat indices result place =
      either_flat (nat_eq (length result.dims) 0) (target_table indices (declared g place.name) place)
      (array_table (declared g place.name) place) (target_flat indices (declared g place.name) place)
      (array_flat (declared g place.name) place)

  takers_flat : (indices : Indices) (results : List Decl) (places : List Place)
      → IsFlatRow (takers p g indices results places)
  takers_flat indices [] places = nothing_flat
  takers_flat indices (r ∷ results) [] = nothing_flat
  takers_flat indices (r ∷ results) (q ∷ places) =
      then_flat (taker_table p g indices r q) (takers p g indices results places) (taker_flat indices r q)
      (takers_flat indices results places)

  args_flat : (indices : Indices) (args : List Expr)
      → IsFlat (in_order (each (λ x. rules (expr_rules p g indices x)) args))
  args_flat indices args =
      each_flat (λ x. rules (expr_rules p g indices x)) (λ x. rules_flat (expr_rules p g indices x)) args

  equation_flat : (outer : Indices) (place : Place) (x : Expr)
      → IsFlat (item_table p g table_of outer (equation place x))
  equation_flat outer place x =
      let C = counted (weight x) place.at in
      then_flat (target_table outer (declared g place.name) place) (rules (expr_rules p g outer x) ▹ C ▹ nothing)
      (target_flat outer (declared g place.name) place)
      (rules_then (expr_rules p g outer x) (C ▹ nothing)
      (then_flat C nothing (counted_flat (weight x) place.at) nothing_flat))

  abbrev load : List Expr → ℕ → Table
  load args at = counted (sum_by weight args) at

  call_in :
      (o : Option Func) (outer : Indices) (places : List Place) (name : List ℕ) (args : List Expr) (at : ℕ) (s : Step)
      → Enters (call_table p g table_of outer o places name args at) s
      → In outer (at ∷ []) s
  call_in None outer places name args at s h = absurd h
  call_in (Some k) outer places name args at s (inl h) = absurd ((takers_flat outer k.results places).1 s h)
  call_in (Some k) outer places name args at s (inr (inl h)) = absurd ((args_flat outer args).1 s h)
  call_in (Some k) outer places name args at s (inr (inr (inl h))) =
      absurd ((counted_flat (sum_by weight args) at).1 s h)
  call_in (Some k) outer places name args at s (inr (inr (inr (inl h)))) =
      record {
        place = 0;
        there = ap (λ (z : Step). Some z.at) (sym h);
        more = [];
        turns = ap (λ (z : Step). z.turns) h ∙ sym (append-nil (turns_of outer));
      }
  call_in (Some k) outer places name args at s (inr (inr (inr (inr h)))) = absurd h

  abbrev turn_table : Indices → List ℕ → ℕ → Items → ℤ → Table
  turn_table outer index at items turn =
      in_order (mark (counts 1 at) ▹ items_row p g table_of (outer ++ (index, turn) ∷ []) items)

  -- a step of one of the turns
  record InTurn (outer : Indices) (turns : List ℤ) (xs : List ℕ) (s : Step) : Type 0 where
    turn : ℤ
    among : IsAmong turn turns
    place : ℕ
    there : slice_get xs place ≡ Some s.at
    more : List ℤ
    is : s.turns ≡ turns_of outer ++ turn ∷ more

  one_turn :
      (outer : Indices) (index : List ℕ) (turn : ℤ) (xs : List ℕ) (s : Step) (h : In (outer ++ (index, turn) ∷ []) xs s)
      → s.turns ≡ turns_of outer ++ turn ∷ h.more
  one_turn outer index turn xs s h =
      h.turns ∙ ap (λ (l : List ℤ). l ++ h.more) (map-append (λ (i : List ℕ × ℤ). i.1) outer ((index, turn) ∷ []))
      ∙ append_assoc (turns_of outer) (turn ∷ []) h.more

  module _ (items : Items) (index : List ℕ) (at : ℕ) (outer : Indices)
      (each_in : (t : ℤ) (s : Step)
      → RowEnters (items_row p g table_of (outer ++ (index, t) ∷ []) items) s
      → In (outer ++ (index, t) ∷ []) (calls_in items) s) where
    turns_in : (turns : List ℤ) (s : Step)
        → RowEnters (each (turn_table outer index at items) turns) s
        → InTurn outer turns (calls_in items) s
    turns_in [] s h = absurd h
    turns_in (t ∷ turns) s (inl (inl h)) = absurd h
    turns_in (t ∷ turns) s (inl (inr h)) =
        let r = each_in t s h in
        record {
          turn = t;
          among = inl refl;
          place = r.place;
          there = r.there;
          more = r.more;
          is = one_turn outer index t (calls_in items) s r;
        }
    turns_in (t ∷ turns) s (inr h) =
        let r = turns_in turns s h in
        record { turn = r.turn; among = inr r.among; place = r.place; there = r.there; more = r.more; is = r.is }

    other_turn : (t : ℤ) (turns : List ℤ)
        → (IsAmong t turns → ⊥)
        → (s : Step)
        → Enters (turn_table outer index at items t) s
        → InTurn outer turns (calls_in items) s
        → ⊥
    other_turn t turns apart s (inl h) r = absurd h
    other_turn t turns apart s (inr h) r =
        let l = each_in t s h in
        let same : t ≡ r.turn =
        cancel (turns_of outer) l.more r.more t r.turn (sym (one_turn outer index t (calls_in items) s l) ∙ r.is) in
        apart (subst (λ (u : ℤ). IsAmong u turns) (sym same) r.among)

    turns_once : ((t : ℤ) → RowIsOnce (items_row p g table_of (outer ++ (index, t) ∷ []) items))
        → (turns : List ℤ)
        → AreApart turns
        → RowIsOnce (each (turn_table outer index at items) turns)
    turns_once all [] apart = tt
    turns_once all (t ∷ turns) apart = (
      (tt, all t, λ s x y. x),
      turns_once all turns apart.1,
      λ s a b. other_turn t turns apart.0 s a (turns_in turns s b),
    )

  mutual
    item_in : (x : Item) (outer : Indices) (s : Step)
        → Enters (item_table p g table_of outer x) s
        → In outer (calls_of x) s
    item_in (equation place x) outer s h = absurd ((equation_flat outer place x).1 s h)
    item_in (call places name args at) outer s h = call_in (function_named p name) outer places name args at s h
    item_in (loop index lo hi items at) outer s (inl h) = absurd h
    item_in (loop index lo hi items at) outer s (inr (inl h)) = absurd h
    item_in (loop index lo hi items at) outer s (inr (inr (inl h))) =
        let t =
        turns_in items index at outer (λ t s h. items_in items (outer ++ (index, t) ∷ []) s h)
        (loop_turns (manifest_value outer lo) (manifest_value outer hi)) s h in
        record { place = t.place; there = t.there; more = t.turn ∷ t.more; turns = t.is }
    item_in (loop index lo hi items at) outer s (inr (inr (inr h))) = absurd h
    item_in (initial place amount v) outer s h =
        absurd ((initial_flat outer (declared g place.name) place amount).1 s h)

    items_in : (items : Items) (outer : Indices) (s : Step)
        → RowEnters (items_row p g table_of outer items) s
        → In outer (calls_in items) s
    items_in no_item outer s h = absurd h
    items_in (item x rest) outer s (inl h) =
        let r = item_in x outer s h in
        record {
          place = r.place;
          there = at_left (calls_of x) (calls_in rest) r.place s.at r.there;
          more = r.more;
          turns = r.turns;
        }
    items_in (item x rest) outer s (inr h) =
        let r = items_in rest outer s h in
        record {
          place = length (calls_of x) + r.place;
          there = at_right (calls_of x) (calls_in rest) (length (calls_of x) + r.place) r.place s.at refl r.there;
          more = r.more;
          turns = r.turns;
        }

  module _ (callees : (name : List ℕ) (k : Func) → function_named p name ≡ Some k → IsOnce (table_of k)) where
    call_once : (o : Option Func) (outer : Indices) (places : List Place) (name : List ℕ) (args : List Expr) (at : ℕ)
        → function_named p name ≡ o
        → IsOnce (call_table p g table_of outer o places name args at)
    call_once None outer places name args at named = tt
    call_once (Some k) outer places name args at named =
        let t = takers_flat outer k.results places in
        let a = args_flat outer args in
        let c = counted_flat (sum_by weight args) at in (
          t.0,
          (a.0, (c.0, (callees name k named, tt, λ s x y. y), λ s x y. c.1 s x), λ s x y. a.1 s x),
          λ s x y. t.1 s x,
        )

    mutual
      item_once : (x : Item) (outer : Indices) → AreDistinct (calls_of x) → IsOnce (item_table p g table_of outer x)
      item_once (equation place x) outer d = (equation_flat outer place x).0
      item_once (call places name args at) outer d = call_once (function_named p name) outer places name args at refl
      item_once (loop index lo hi items at) outer d = (
        tt,
        (
          tt,
          (
            turns_once items index at outer (λ t s h. items_in items (outer ++ (index, t) ∷ []) s h)
                (λ t. items_once items (outer ++ (index, t) ∷ []) d)
                (loop_turns (manifest_value outer lo) (manifest_value outer hi))
                (turns_apart (manifest_value outer lo) (manifest_value outer hi)),
            tt,
            λ s x y. y,
          ),
          λ s x y. x,
        ),
        λ s x y. x,
      )
      item_once (initial place amount v) outer d = (initial_flat outer (declared g place.name) place amount).0

      items_once : (items : Items) (outer : Indices)
          → AreDistinct (calls_in items)
          → RowIsOnce (items_row p g table_of outer items)
      items_once no_item outer d = tt
      items_once (item x rest) outer d = (
        item_once x outer (left_distinct (calls_of x) (calls_in rest) d),
        items_once rest outer (right_distinct (calls_of x) (calls_in rest) d),
        λ s a b.
            let l = item_in x outer s a in
            let r = items_in rest outer s b in
            crossed (calls_of x) (calls_in rest) d l.place r.place s.at l.there r.there,
      )

module _ (p : Program) (names : IsClear (name_faults p)) (positions : HasOwnPositions p) where
  instance_once : (calls : ℕ) (g : Func) → AreDistinct (calls_in g.items) → IsOnce (instance_table p calls g)
  instance_once zero g d = tt
  instance_once (suc calls) g d =
      let given_flat =
      each_from_flat (λ d decl. each_place (given d) decl) (λ d decl. places_flat (given d) decl) 0 g.params in
      let needs_flat =
      each_from_flat (λ d decl. each_place (λ k. needs d k decl.at) decl)
      (λ d decl. places_flat (λ k. needs d k decl.at) decl) 0 (decls g) in
      let all =
      items_once p g (instance_table p calls) (λ name k named. instance_once calls k (named_distinct name k named))
      g.items [] d in (
        tt,
        (
          given_flat.0,
          (all, (needs_flat.0, tt, λ s x y. y), λ s x y. elim y [ inl n ↦ needs_flat.1 s n | inr n ↦ n ]),
          λ s x y. given_flat.1 s x,
        ),
        λ s x y. x,
      )
    where
      named_distinct : (name : List ℕ) (k : Func) → function_named p name ≡ Some k → AreDistinct (calls_in k.items)
      named_distinct name k named = positions (position_of p name) k (top_named p name k (names_apart p names) named)

  module _ (es : Elements) (made : IsExpansion p es) where
    pub spread : (o : Option Func) → main_of p ≡ o → Spread es.instances 0 1 (length es.instances) (λ s. Unit {0})
    spread None is = record {
      parent = λ n i low high e.
          let none : es.instances ≡ [] = made.instances ∙ ap (λ o. instances_after 0 [] (main_table p o)) is in
          absurd (omega (arith, ap length none));
      once = λ m n i j low high low' high' e f g h.
          let none : es.instances ≡ [] = made.instances ∙ ap (λ o. instances_after 0 [] (main_table p o)) is in
          absurd (omega (arith, ap length none));
    }
    spread (Some f) is =
        let own : Instance = entered (position_of p (codes "main")) 0 (record { at = 0; turns = [] }) in
        let all : es.instances ≡ instances_after 0 (own ∷ []) (instance_table p max_nested f) =
        made.instances ∙ ap (λ o. instances_after 0 [] (main_table p o)) is in
        let once =
        instance_once max_nested f
        (positions (position_of p (codes "main")) f (top_named p (codes "main") f (names_apart p names) is)) in
        let x =
        table_spread es.instances (instance_table p max_nested f) 0 (own ∷ []) (omega arith) once
        (record { more = []; is = all ∙ sym (append-nil _) }) in
        let size = ap length all in
        record {
          parent = λ n i low high e. elim (x.parent n i low (omega arith) e)
              [ inl h ↦ inl (h.0, tt) | inr h ↦ inr (h.0, (let t = h.1 in omega arith)) ];
          once = λ m n i j low high low' high' e f g h. x.once m n i j low (omega arith) low' (omega arith) e f g h;
        }

    -- the elements of a checked program have one number each
    pub distinct_numbers : HasDistinctNumbers es
    distinct_numbers e k l x y =
        let same : x.instance ≡ y.instance =
        number_once es.instances (spread (main_of p) refl) e.instance x.instance y.instance x.leads y.leads in
        let listed : slice_get es.elements k
        ≡ Some (record { inst = y.instance; decl = e.declaration; place = e.offset }) =
        x.listed ∙ ap (λ (n : ℕ). Some (record { inst = n; decl = e.declaration; place = e.offset })) same in
        entry_once p es.instances 0 k l _ (ap (λ (z : List Entry). slice_get z k) (sym made.elements) ∙ listed)
        (ap (λ (z : List Entry). slice_get z l) (sym made.elements) ∙ y.listed)
