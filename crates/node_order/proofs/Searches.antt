-- The search for an order: a stack of nodes, each of which waits for the one above it.
use Rattle.std.proofs.Common.{◌≡◌, ◌≢◌, ◌∙◌, refl, sym, ap, subst, arith, ℕ, zero, suc, ◌+◌, ◌<◌, ◌≤◌, inl, inr, ⊎_elim}
use Rattle.std.proofs.Common.{List, [], ◌∷◌, ◌++◌, length, get_or-set_same, get_or-set_other}
use Rattle.std.specs.Prelude.{slice_set}
use Rattle.std.specs.List.{sum_by}
use Rattle.std.proofs.lemmas.Bool.{cases_lt, cases_eq}
use Rattle.std.proofs.lemmas.List.{length-set}
use Rattle.std.proofs.lemmas.List.Sums.{sum_by-set}
use Rattle.signal_graph.specs.declared.graph.Node.{Node}
use Rattle.node_order.specs.Topological.{nth, IsAt, HasOperand, IsOrdered, CanBeOrdered}
use Rattle.node_order.specs.declared.search.Mark.{Mark}
use Rattle.node_order.specs.declared.search.Mark.TheVariants.{New, Open, Placed}
use Rattle.node_order.specs.declared.search.Search.{Search}
use Rattle.node_order.specs.Private.Search.{mark_of, IsSearch, Visits, Keeps, lacks_place}
use Rattle.node_order.proofs.Pushes.{len, below, top, top_at, at_more, at_last, at_split, each}

-- what is left to do with a node
abbrev weight : Mark → ℕ
weight New = 2
weight Open = 1
weight Placed = 0

pub remaining : Search → ℕ
remaining s = sum_by weight s.marks

-- the search below a root
pub record IsUnder (nodes : List Node) (root : ℕ) (old : Search) (stack : List ℕ) (s : Search) : Type 0 where
  pub search : IsSearch nodes stack s
  pub keeps : Keeps old s
  pub bottom : 0 < length stack → nth stack 0 ≡ root
  pub done : length stack ≡ 0 → mark_of s root ≡ Placed

-- an order with one node more
module _ (nodes : List Node) where
  operands_more : (order : List ℕ) (v : ℕ)
      → IsOrdered nodes order
      → ((u : ℕ) → HasOperand nodes v u → IsAt order u)
      → (i u : ℕ)
      → i < length (order ++ v ∷ [])
      → HasOperand nodes (nth (order ++ v ∷ []) i) u
      → (j : ℕ) × (j < i) × (nth (order ++ v ∷ []) j ≡ u)
  operands_more order v is ready i u lt r =
      ⊎_elim
      (λ (less : i < length order).
      let h = is.operands i u less (subst (λ (w : ℕ). HasOperand nodes w u) (below order v i less) r) in
      let before = h.1 in
      (h.0, h.1, below order v h.0 (omega arith) ∙ h.2))
      (λ (past : length order ≤ i).
      let at : i ≡ length order = omega (arith, len order v) in
      let h = ready u (subst (λ (w : ℕ). HasOperand nodes w u) (top_at order v i at) r) in
      let inside = h.1 in
      (h.0, omega arith, below order v h.0 inside ∙ h.2))
      (cases_lt i (length order))

  ordered_more : (order : List ℕ) (v : ℕ)
      → IsOrdered nodes order
      → v < length nodes
      → ((u : ℕ) → HasOperand nodes v u → IsAt order u)
      → IsOrdered nodes (order ++ v ∷ [])
  ordered_more order v is there ready = record {
    there = each order v (λ (w : ℕ). w < length nodes) is.there there;
    operands = operands_more order v is ready;
  }

  -- a prefix of an order
  pub ordered_less : (rest : List ℕ) (v : ℕ) → IsOrdered nodes (rest ++ v ∷ []) → IsOrdered nodes rest
  ordered_less rest v is = record {
    there = λ i lt. subst (λ (w : ℕ). w < length nodes) (below rest v i lt) (is.there i (omega (arith, len rest v)));
    operands = λ i u lt r.
        let h = is.operands i u (omega (arith, len rest v))
        (subst (λ (w : ℕ). HasOperand nodes w u) (sym (below rest v i lt)) r) in
        let before = h.1 in
        (h.0, h.1, sym (below rest v h.0 (omega arith)) ∙ h.2);
  }

module _ (s : Search) (x : ℕ) (m : Mark) (order : List ℕ) (inside : x < length s.marks) where
  abbrev changed : Search
  changed = record { order = order; marks = slice_set s.marks x m }

  mark_here : mark_of changed x ≡ m
  mark_here = get_or-set_same s.marks x m New inside

  mark_else : (w : ℕ) → w ≢ x → mark_of changed w ≡ mark_of s w
  mark_else w other = get_or-set_other s.marks x w m New other

  sum_changed : (f : Mark → ℕ) (was : Mark)
      → mark_of s x ≡ was
      → sum_by f (slice_set s.marks x m) + f was ≡ sum_by f s.marks + f m
  sum_changed f was is =
      ap (λ (k : Mark). sum_by f (slice_set s.marks x m) + f k) (sym is) ∙ sum_by-set f s.marks x m New inside

no_open_new : Open ≡ New → ⊥
no_open_new e = cc

no_open_placed : Open ≡ Placed → ⊥
no_open_placed e = cc

no_new_placed : New ≡ Placed → ⊥
no_new_placed e = cc

module _ (nodes : List Node) (can : CanBeOrdered nodes) where
  abbrev h : ℕ → ℕ
  h = can.rank

  -- each node on the stack is higher than those below it
  rises : (stack : List ℕ) (s : Search)
      → IsSearch nodes stack s
      → (i j : ℕ)
      → i < j
      → j < length stack
      → h (nth stack i) < h (nth stack j)
  rises stack s is i zero less lt = absurd (omega arith)
  rises stack s is i (suc j) less lt =
      let last : h (nth stack j) < h (nth stack (suc j)) =
      can.rises (nth stack j) (nth stack (suc j)) (is.there j (omega arith)) (is.chain j (suc j) (omega arith) lt) in
      ⊎_elim
      (λ (early : i < j). let before = rises stack s is i j early (omega arith) in omega arith)
      (λ (late : j ≤ i). let at : i ≡ j = omega arith in let same = ap (λ (k : ℕ). h (nth stack k)) at in omega arith)
      (cases_lt i j)

  module _ (root : ℕ) (old : Search) (stack : List ℕ) (v : ℕ) (s : Search)
      (is : IsUnder nodes root old (stack ++ v ∷ []) s) where
    search : IsSearch nodes (stack ++ v ∷ []) s
    search = is.search

    last_in : length stack < length (stack ++ v ∷ [])
    last_in = omega (arith, len stack v)

    pub node_there : v < length nodes
    node_there = subst (λ (w : ℕ). w < length nodes) (top stack v) (search.there (length stack) last_in)

    v_open : mark_of s v ≡ Open
    v_open = subst (λ (w : ℕ). mark_of s w ≡ Open) (top stack v) (search.open_nodes (length stack) last_in)

    -- those below it on the stack are lower
    lower : (i : ℕ) → i < length stack → h (nth stack i) < h v
    lower i lt =
        subst (λ (w : ℕ). h (nth stack i) < h w) (top stack v)
        (subst (λ (w : ℕ). h w < h (nth (stack ++ v ∷ []) (length stack))) (below stack v i lt)
        (rises (stack ++ v ∷ []) s search i (length stack) lt last_in))

    -- a new operand goes onto the stack
    module _ (u : ℕ) (r : HasOperand nodes v u) (fresh : mark_of s u ≡ New) where
      abbrev st : List ℕ
      st = stack ++ v ∷ []

      pub u_in : u < length s.marks
      u_in = let c = search.count in let t = can.closed v u node_there r in omega arith

      abbrev pushed_search : Search
      pushed_search = changed s u Open s.order u_in

      u_open : mark_of pushed_search u ≡ Open
      u_open = mark_here s u Open s.order u_in

      u_else : (w : ℕ) → w ≢ u → mark_of pushed_search w ≡ mark_of s w
      u_else w other = mark_else s u Open s.order u_in w other

      open_still : (w : ℕ) → mark_of s w ≡ Open → mark_of pushed_search w ≡ Open
      open_still w e =
          u_else w (λ same. no_open_new (sym e ∙ ap (mark_of s) same ∙ fresh)) ∙ e

      pushed_chain : (i j : ℕ)
          → j ≡ i + 1
          → j < length (st ++ u ∷ [])
          → HasOperand nodes (nth (st ++ u ∷ []) i) (nth (st ++ u ∷ []) j)
      pushed_chain i j e lt =
          ⊎_elim
          (λ (early : j < length st).
          subst (λ (w : ℕ). HasOperand nodes (nth (st ++ u ∷ []) i) w) (sym (below st u j early))
          (subst (λ (w : ℕ). HasOperand nodes w (nth st j)) (sym (below st u i (omega arith)))
          (search.chain i j e early)))
          (λ (late : length st ≤ j).
          let at : j ≡ length st = omega (arith, len st u) in
          let i_last : i ≡ length stack = omega (arith, len stack v) in
          subst (λ (w : ℕ). HasOperand nodes (nth (st ++ u ∷ []) i) w) (sym (top_at st u j at))
          (subst (λ (w : ℕ). HasOperand nodes w u) (sym (below st u i (omega (arith, len stack v)) ∙
          top_at stack v i i_last)) r))
          (cases_lt j (length st))

      pushed : IsUnder nodes root old (st ++ u ∷ []) pushed_search
      pushed = record {
        search = record {
          count = length-set s.marks u Open ∙ search.count;
          ordered = search.ordered;
          placed = λ w e. search.placed w
              (sym (u_else w (λ same. no_open_placed (sym u_open ∙ ap (mark_of pushed_search) (sym same) ∙ e))) ∙ e);
          places = let c = sum_changed s u Open s.order u_in lacks_place New fresh in let p = search.places in
              omega arith;
          there = each st u (λ (w : ℕ). w < length nodes) search.there (can.closed v u node_there r);
          open_nodes = each st u (λ (w : ℕ). mark_of pushed_search w ≡ Open)
              (λ i lt. open_still (nth st i) (search.open_nodes i lt)) u_open;
          on_stack = λ w e. ⊎_elim
              (λ (same : w ≡ u). subst (λ (x : ℕ). IsAt (st ++ u ∷ []) x) (sym same) (at_last st u))
              (λ (other : w ≢ u). at_more st u w (search.on_stack w (sym (u_else w other) ∙ e)))
              (cases_eq w u);
          chain = pushed_chain;
        };
        keeps = λ w e. u_else w (λ same. no_new_placed (sym fresh ∙ ap (mark_of s) (sym same) ∙ is.keeps w e))
            ∙ is.keeps w e;
        bottom = λ some. below st u 0 (omega (arith, len stack v)) ∙ is.bottom (omega (arith, len stack v));
        done = λ none. absurd (omega (arith, len st u));
      }

      pushed_less : remaining pushed_search < remaining s
      unfolding remaining
      pushed_less = let c = sum_changed s u Open s.order u_in weight New fresh in omega arith

    -- v gets its place
    module _ (none : (u : ℕ) → HasOperand nodes v u → mark_of s u ≡ New → ⊥) where
      pub v_in : v < length s.marks
      v_in = let c = search.count in let t = node_there in omega arith

      abbrev next_order : List ℕ
      next_order = s.order ++ v ∷ []

      abbrev settled_search : Search
      settled_search = changed s v Placed next_order v_in

      v_placed : mark_of settled_search v ≡ Placed
      v_placed = mark_here s v Placed next_order v_in

      v_else : (w : ℕ) → w ≢ v → mark_of settled_search w ≡ mark_of s w
      v_else w other = mark_else s v Placed next_order v_in w other

      not_higher : (u : ℕ) → HasOperand nodes v u → IsAt (stack ++ v ∷ []) u → ⊥
      not_higher u r at =
          let up = can.rises v u node_there r in
          ⊎_elim
          (λ (on : IsAt stack u).
          let less = lower on.0 on.1 in
          let same = ap h on.2 in
          absurd (omega arith))
          (λ (same : v ≡ u). let e = ap h same in absurd (omega arith))
          (at_split stack v u at)

      ready : (u : ℕ) → HasOperand nodes v u → IsAt s.order u
      ready u r = by (mark_of s u) refl
        where
          by : (m : Mark) → mark_of s u ≡ m → IsAt s.order u
          by New e = absurd (none u r e)
          by Open e = absurd (not_higher u r (search.on_stack u e))
          by Placed e = search.placed u e

      other_below : (i : ℕ) → i < length stack → nth stack i ≢ v
      other_below i lt = λ same. absurd (let less = lower i lt in let e = ap h same in omega arith)

      settled_on : (w : ℕ) → mark_of settled_search w ≡ Open → IsAt stack w
      settled_on w e =
          let other : w ≢ v = λ same. no_open_placed (sym e ∙ ap (mark_of settled_search) same ∙ v_placed) in
          ⊎_elim (λ (on : IsAt stack w). on) (λ (same : v ≡ w). absurd (other (sym same)))
          (at_split stack v w (search.on_stack w (sym (v_else w other) ∙ e)))

      root_done : length stack ≡ 0 → mark_of settled_search root ≡ Placed
      root_done empty =
          let first : root ≡ v = sym (is.bottom (omega (arith, len stack v))) ∙ top_at stack v 0 (sym empty) in
          ap (mark_of settled_search) first ∙ v_placed

      settled : IsUnder nodes root old stack settled_search
      settled = record {
        search = record {
          count = length-set s.marks v Placed ∙ search.count;
          ordered = ordered_more nodes s.order v search.ordered node_there ready;
          placed = λ w e. ⊎_elim
              (λ (same : w ≡ v). subst (λ (x : ℕ). IsAt next_order x) (sym same) (at_last s.order v))
              (λ (other : w ≢ v). at_more s.order v w (search.placed w (sym (v_else w other) ∙ e)))
              (cases_eq w v);
          places = let c = sum_changed s v Placed next_order v_in lacks_place Open v_open in
              let p = search.places in omega (arith, len s.order v);
          there = λ i lt. subst (λ (w : ℕ). w < length nodes) (below stack v i lt)
              (search.there i (omega (arith, len stack v)));
          open_nodes = λ i lt. v_else (nth stack i) (other_below i lt)
              ∙ subst (λ (w : ℕ). mark_of s w ≡ Open) (below stack v i lt)
              (search.open_nodes i (omega (arith, len stack v)));
          on_stack = settled_on;
          chain = λ i j e lt.
              subst (λ (w : ℕ). HasOperand nodes (nth stack i) w) (below stack v j lt)
              (subst (λ (w : ℕ). HasOperand nodes w (nth (stack ++ v ∷ []) j)) (below stack v i (omega arith))
              (search.chain i j e (omega (arith, len stack v))));
        };
        keeps = λ w e. ⊎_elim
            (λ (same : w ≡ v). ap (mark_of settled_search) same ∙ v_placed)
            (λ (other : w ≢ v). v_else w other ∙ is.keeps w e)
            (cases_eq w v);
        bottom = λ some. sym (below stack v 0 some) ∙ is.bottom (omega (arith, len stack v));
        done = root_done;
      }

      settled_less : remaining settled_search < remaining s
      unfolding remaining
      settled_less = let c = sum_changed s v Placed next_order v_in weight Open v_open in omega arith

    -- a step of the search goes on with it, and leaves less to do
    pub visited : (new_stack : List ℕ) (new : Search)
        → Visits nodes v stack s new_stack new
        → IsUnder nodes root old new_stack new × (remaining new < remaining s)
    visited new_stack new (inl x) =
        subst (λ (st : List ℕ). IsUnder nodes root old st new × (remaining new < remaining s)) (sym x.pushed)
        (subst (λ (p : Search). IsUnder nodes root old ((stack ++ v ∷ []) ++ x.operand ∷ []) p ×
        (remaining p < remaining s)) (sym x.search)
        (pushed x.operand x.read x.fresh, pushed_less x.operand x.read x.fresh))
    visited new_stack new (inr x) =
        subst (λ (st : List ℕ). IsUnder nodes root old st new × (remaining new < remaining s)) (sym x.same)
        (subst (λ (p : Search). IsUnder nodes root old stack p × (remaining p < remaining s)) (sym x.search)
        (settled x.none, settled_less x.none))
