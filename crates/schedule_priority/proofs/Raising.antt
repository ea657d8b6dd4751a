-- Heights that are raised, from the nodes without consumers on.
use Rattle.std.proofs.Common.{◌≡◌, ◌≢◌, ◌∙◌, sym, ap, subst, arith, ℕ, ◌+◌, ◌*◌, ◌<◌, ◌≤◌, ◌⊎◌, inl, inr, ⊎_elim, List}
use Rattle.std.proofs.Common.{[], ◌∷◌, ◌++◌, length}
use Rattle.std.specs.Prelude.{slice_index_or}
use Rattle.std.proofs.lemmas.Bool.{cases_lt, cases_eq}
use Rattle.std.proofs.lemmas.List.{get_or_past}
use Rattle.datapath.specs.declared.types.Datapath.{Datapath}
use Rattle.plan_core.specs.Operands.{node_of, edge_of, delay_at}
use Rattle.plan_core.specs.Heights.{ReadsNow, latency_of}
use Rattle.plan_core.specs.declared.schedule.Assigned.{Assigned}
use Rattle.plan_core.proofs.Readers.{reader_there}
use Rattle.schedule_priority.specs.Problem.{IsProblem}
use Rattle.node_order.specs.Topological.{IsAt, HasOperand}
use Rattle.schedule_priority.specs.Private.Heights.{height_in, most_height, AreHeightsOf, RaisesTo, RaisesOperands}
use Rattle.schedule_priority.specs.Private.Heights.{IsRaising}
use Rattle.node_order.proofs.Pushes.{len, below, top, at_split}
use Rattle.node_order.proofs.Searches.{ordered_less}
use Rattle.schedule_priority.proofs.Problems.{short, over_now}

module _ (d : Datapath) (a : Assigned) (v height : ℕ) (first : List ℕ) where
  module _ (k : ℕ) (old : List ℕ) (before : RaisesOperands d a v k height first old) where
    -- a port that reads another sample
    pub raised_past : (delay_at a.lowered.nodes v k ≡ 0 → ⊥) → RaisesOperands d a v (k + 1) height first old
    raised_past late = record {
      count = before.count;
      keeps = before.keeps;
      reached = λ q x less r.
          ⊎_elim (λ (early : q < k). before.reached q x early r)
          (λ (past : k ≤ q).
          let at : q ≡ k = omega arith in
          absurd (late (sym (ap (delay_at a.lowered.nodes v) at) ∙ r.now)))
          (cases_lt q k);
      only = before.only;
    }

    -- a port that reads this sample
    module _ (x : ℕ) (new : List ℕ) (reads : ReadsNow a.lowered.nodes v k x)
        (raises : RaisesTo x (height + latency_of d a x) old new) where
      up : (w : ℕ) → height_in old w ≤ height_in new w
      up w =
          ⊎_elim
          (λ (same : w ≡ x).
          let here = raises.here in
          let e = ap (height_in old) same in
          let f = ap (height_in new) same in
          omega arith)
          (λ (other : w ≢ x). let e = raises.others w other in omega arith)
          (cases_eq w x)

      same_node : (q w : ℕ) → q ≡ k → ReadsNow a.lowered.nodes v q w → w ≡ x
      same_node q w at r =
          sym r.reads.node ∙ ap (λ (p : ℕ). (edge_of (node_of a.lowered.nodes v) p).node) at ∙ reads.reads.node

      reached_more : (q w : ℕ)
          → q < k + 1
          → ReadsNow a.lowered.nodes v q w
          → latency_of d a w + height ≤ height_in new w
      reached_more q w less r =
          ⊎_elim
          (λ (early : q < k). let b = before.reached q w early r in let u = up w in omega arith)
          (λ (past : k ≤ q).
          let same = same_node q w (omega arith) r in
          let here = raises.here in
          subst (λ (y : ℕ). latency_of d a y + height ≤ height_in new y) (sym same) (omega arith))
          (cases_lt q k)

      abbrev OnlyAt : ℕ → Type 0
      OnlyAt w =
          (height_in new w ≡ height_in first w)
          ⊎ ((q : ℕ) × ReadsNow a.lowered.nodes v q w × (height_in new w ≡ latency_of d a w + height))

      only_here : OnlyAt x
      only_here =
          let here = raises.here in
          ⊎_elim
          (λ (less : height_in old x < height + latency_of d a x). inr (k, reads, omega arith))
          (λ (not : height + latency_of d a x ≤ height_in old x).
          let kept : height_in new x ≡ height_in old x = omega arith in
          ⊎_elim (λ (e : height_in old x ≡ height_in first x). inl (kept ∙ e))
          (λ (h : (q : ℕ) × ReadsNow a.lowered.nodes v q x × (height_in old x ≡ latency_of d a x + height)).
          inr (h.0, h.1, kept ∙ h.2)) (before.only x))
          (cases_lt (height_in old x) (height + latency_of d a x))

      only_more : (w : ℕ) → OnlyAt w
      only_more w =
          ⊎_elim
          (λ (same : w ≡ x). subst OnlyAt (sym same) only_here)
          (λ (other : w ≢ x).
          let kept = raises.others w other in
          ⊎_elim (λ (e : height_in old w ≡ height_in first w). inl (kept ∙ e))
          (λ (h : (q : ℕ) × ReadsNow a.lowered.nodes v q w × (height_in old w ≡ latency_of d a w + height)).
          inr (h.0, h.1, kept ∙ h.2)) (before.only w))
          (cases_eq w x)

      pub raised_more : RaisesOperands d a v (k + 1) height first new
      raised_more = record {
        count = raises.count ∙ before.count;
        keeps = λ w. (let b = before.keeps w in let u = up w in omega arith);
        reached = reached_more;
        only = only_more;
      }

module _ (d : Datapath) (a : Assigned) (is : IsProblem d a) where
  module _ (rest : List ℕ) (v : ℕ) (old new : List ℕ) (before : IsRaising d a (rest ++ v ∷ []) old)
      (r : RaisesOperands d a v (length (node_of a.lowered.nodes v).edges) (height_in old v) old new) where
    last_in : length rest < length (rest ++ v ∷ [])
    last_in = omega (arith, len rest v)

    popped_there : v < length a.lowered.nodes
    popped_there =
        subst (λ (w : ℕ). w < length a.lowered.nodes) (top rest v) (before.ordered.there (length rest) last_in)

    -- the operands of v are still to come
    operand_left : (u : ℕ) → HasOperand a.lowered.nodes v u → IsAt rest u
    operand_left u h =
        let x = before.ordered.operands (length rest) u last_in
        (subst (λ (w : ℕ). HasOperand a.lowered.nodes w u) (sym (top rest v)) h) in
        let less = x.1 in
        ⊎_elim (λ (on : IsAt rest u). on)
        (λ (same : v ≡ u). first_place x.0 less x.2 same)
        (at_split rest v u (x.0, omega (arith, len rest v), x.2))
      where
        first_place : (j : ℕ) → j < length rest → slice_index_or (rest ++ v ∷ []) j 0 ≡ u → v ≡ u → IsAt rest u
        first_place j less e same =
            (j, less, sym (below rest v j less) ∙ e)

    abbrev AboveIn : List ℕ → ℕ → Type 0
    AboveIn heights c =
        (q x : ℕ) → ReadsNow a.lowered.nodes c q x → latency_of d a x + height_in heights c ≤ height_in heights x

    v_above : height_in new v ≡ height_in old v → AboveIn new v
    v_above same q x h = let p = h.reads.port in let b = r.reached q x p h in omega arith

    above_more : (c : ℕ) → c < length a.lowered.nodes → IsAt rest c ⊎ AboveIn new c
    above_more c there =
        ⊎_elim
        (λ (at : IsAt (rest ++ v ∷ []) c). ⊎_elim (λ (on : IsAt rest c). inl on)
        (λ (same : v ≡ c). subst (λ (w : ℕ). IsAt rest w ⊎ AboveIn new w) same
        (⊎_elim (λ (e : height_in new v ≡ height_in old v). inr (v_above e))
        (λ (h : (q : ℕ) × ReadsNow a.lowered.nodes v q v × (height_in new v ≡ latency_of d a v + height_in old v)).
        inl (operand_left v (over_now a.lowered.nodes v h.0 v h.1))) (r.only v)))
        (at_split rest v c at))
        (λ (up : AboveIn old c).
        ⊎_elim (λ (e : height_in new c ≡ height_in old c). inr (λ q x h.
        (let b = up q x h in let k = r.keeps x in omega arith)))
        (λ (h : (q : ℕ) × ReadsNow a.lowered.nodes v q c × (height_in new c ≡ latency_of d a c + height_in old v)).
        inl (operand_left c (over_now a.lowered.nodes v h.0 c h.1))) (r.only c))
        (before.above c there)

    abbrev ReachedIn : List ℕ → ℕ → Type 0
    ReachedIn heights x =
        (height_in heights x ≡ latency_of d a x)
        ⊎ ((c : ℕ) × (q : ℕ) × ReadsNow a.lowered.nodes c q x
        × (height_in heights x ≤ latency_of d a x + height_in heights c))

    reached_still : (x : ℕ) → height_in new x ≡ height_in old x → ReachedIn old x → ReachedIn new x
    reached_still x same (inl e) = inl (same ∙ e)
    reached_still x same (inr h) = let k = r.keeps h.0 in let b = h.3 in inr (h.0, h.1, h.2, omega arith)

    reached_next : (x : ℕ) → x < length a.lowered.nodes → ReachedIn new x
    reached_next x there =
        ⊎_elim (λ (e : height_in new x ≡ height_in old x). reached_still x e (before.reached x there))
        (λ (h : (q : ℕ) × ReadsNow a.lowered.nodes v q x × (height_in new x ≡ latency_of d a x + height_in old v)).
        let k = r.keeps v in let e = h.2 in inr (v, h.0, h.1, omega arith)) (r.only x)

    small_more : (x : ℕ)
        → x < length a.lowered.nodes
        → height_in new x + 8 * length rest ≤ most_height (length a.lowered.nodes)
    small_more x there =
        let n = len rest v in
        ⊎_elim (λ (e : height_in new x ≡ height_in old x). let b = before.small x there in omega arith)
        (λ (h : (q : ℕ) × ReadsNow a.lowered.nodes v q x × (height_in new x ≡ latency_of d a x + height_in old v)).
        let b = before.small v popped_there in let s = short d a is x in let e = h.2 in omega arith) (r.only x)

    pub raising_goes_on : IsRaising d a rest new
    raising_goes_on = record {
      ordered = ordered_less a.lowered.nodes rest v before.ordered;
      count = r.count ∙ before.count;
      alone = λ x there. (let b = before.alone x there in let k = r.keeps x in omega arith);
      above = above_more;
      reached = reached_next;
      small = small_more;
    }

  pub raising_ends : (order heights : List ℕ)
      → length order ≡ 0
      → IsRaising d a order heights
      → AreHeightsOf d a heights
  raising_ends order heights empty all = record {
    count = all.count;
    heights = λ v there. record {
      alone = all.alone v there;
      above = λ c q h. up c (reader_there a.lowered.nodes c q v h.reads) q v h;
      reached = by v (all.reached v there);
    };
    small = λ v. ⊎_elim
        (λ (there : v < length a.lowered.nodes).
        let b = all.small v there in let n = all.count in omega arith)
        (λ (past : length a.lowered.nodes ≤ v).
        let n = all.count in let e = get_or_past heights v 0 (omega arith) in omega arith)
        (cases_lt v (length a.lowered.nodes));
  }
    where
      up : (c : ℕ)
          → c < length a.lowered.nodes
          → (q x : ℕ)
          → ReadsNow a.lowered.nodes c q x
          → latency_of d a x + height_in heights c ≤ height_in heights x
      up c there q x h =
          ⊎_elim (λ (at : IsAt order c). absurd (let less = at.1 in omega arith))
          (λ (f : (p y : ℕ) → ReadsNow a.lowered.nodes c p y
          → latency_of d a y + height_in heights c ≤ height_in heights y). f q x h)
          (all.above c there)

      by : (x : ℕ)
          → (height_in heights x ≡ latency_of d a x)
          ⊎ ((c : ℕ)
          × (q : ℕ)
          × ReadsNow a.lowered.nodes c q x
          × (height_in heights x ≤ latency_of d a x + height_in heights c))
          → (height_in heights x ≡ latency_of d a x)
          ⊎ ((c : ℕ)
          × (q : ℕ)
          × ReadsNow a.lowered.nodes c q x
          × (height_in heights x ≡ latency_of d a x + height_in heights c))
      by x (inl e) = inl e
      by x (inr h) =
          let less = h.3 in
          let more = up h.0 (reader_there a.lowered.nodes h.0 h.1 x h.2.reads) h.1 x h.2 in
          inr (h.0, h.1, h.2, omega arith)
