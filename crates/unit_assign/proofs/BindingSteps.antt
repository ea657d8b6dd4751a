-- The units of the first nodes, with one more.
use Rattle.std.proofs.Common.{◌≡◌, ◌≢◌, ◌↔◌, ◌∙◌, sym, ap, subst, refl, arith, ⊎_elim, ℕ, ◌+◌, ◌<◌, ◌≤◌, ◌==◌, List, []}
use Rattle.std.proofs.Common.{◌∷◌, ◌++◌, length, take, replicate, count_by, slice_index_or, slice_set, Bool, true}
use Rattle.std.proofs.Common.{false, eq-eqb, ne_eqb}
use Rattle.std.proofs.lemmas.Bool.{cases_lt, cases_eq}
use Rattle.std.proofs.lemmas.List.{get_or_read, get_or-set_same, get_or-set_other, length-set, length-replicate}
use Rattle.std.proofs.lemmas.List.{get_or-replicate, get_or_past, length_push, get_or_append_left, get_or_push}
use Rattle.std.proofs.lemmas.List.{take_all, take_at}
use Rattle.std.proofs.lemmas.List.Sums.{count_by_more_yes, count_by_more_no, count_by-le-length}
use Rattle.datapath.specs.declared.types.Datapath.{Datapath}
use Rattle.signal_graph.specs.declared.graph.Node.{Node}
use Rattle.plan_core.specs.Hardware.{port_of, HasRoute}
use Rattle.plan_core.specs.Operands.{node_of, edge_of, Reads}
use Rattle.plan_core.specs.Assigned.{IsUnitFor}
use Rattle.unit_assign.specs.Private.UnitSets.{Has, none_of_32, all_of_32, set_at}
use Rattle.unit_assign.specs.Private.Bindings.{load_in, IsOneMore, AreLightest, AreAllowed, IsNarrowed, IsBinding}
use Rattle.unit_assign.specs.declared.binding.Binding.{Binding}
use Rattle.bit_sets.specs.declared.set32.Set32.{Set32}
use Rattle.bit_sets.proofs.Bits.{has_all}
use Rattle.unit_assign.proofs.Prefixes.{units_more}

module _ (p : ℕ → Bool) (xs : List ℕ) (x : ℕ) where
  at_end : slice_index_or (xs ++ x ∷ []) (length xs) x ≡ x
  at_end = get_or_push xs x x (length xs) refl

  whole : take (length xs + 1) (xs ++ x ∷ []) ≡ xs ++ x ∷ []
  whole = take_all (length xs + 1) (xs ++ x ∷ []) (let e = length_push xs x in omega arith)

  count_yes : p x ≡ true → count_by p (xs ++ x ∷ []) ≡ count_by p xs + 1
  count_yes is =
      ap (λ (ys : List ℕ). count_by p ys) (sym whole)
      ∙ count_by_more_yes p (xs ++ x ∷ []) (length xs) x (let e = length_push xs x in omega arith)
      (ap (λ (y : ℕ). p y) at_end ∙ is)
      ∙ ap (λ (ys : List ℕ). count_by p ys + 1) (take_at xs (x ∷ []) (length xs) refl)

  count_no : p x ≡ false → count_by p (xs ++ x ∷ []) ≡ count_by p xs
  count_no is =
      ap (λ (ys : List ℕ). count_by p ys) (sym whole)
      ∙ count_by_more_no p (xs ++ x ∷ []) (length xs) x (let e = length_push xs x in omega arith)
      (ap (λ (y : ℕ). p y) at_end ∙ is)
      ∙ ap (λ (ys : List ℕ). count_by p ys) (take_at xs (x ∷ []) (length xs) refl)

module _ (d : Datapath) (nodes : List Node) where
  module _ (v unit k : ℕ) (first old : List Set32) (item drivers all : Set32) (operand : ℕ)
      (before : IsNarrowed d nodes v unit k first old)
      (port : k < length (node_of nodes v).edges) (reads : operand ≡ (edge_of (node_of nodes v) k).node)
      (inside : operand < length old) (item_is : item ≡ slice_index_or old operand item)
      (both : (u : ℕ) → Has all u ↔ (Has item u × Has drivers u))
      (routes : (u : ℕ) → Has drivers u ↔ HasRoute d u (port_of unit k)) where
    To : (n x u : ℕ) → Type 0
    To n x u = (q : ℕ) → q < n → Reads nodes v q x → HasRoute d u (port_of unit q)

    at_operand : (x u : ℕ)
        → x < length first
        → x ≡ operand
        → Has (set_at (slice_set old operand all) x) u
        ↔ (Has (set_at first x) u × ((q : ℕ) → q < k + 1 → Reads nodes v q x → HasRoute d u (port_of unit q)))
    at_operand x u there at =
        let set_is : set_at (slice_set old operand all) x ≡ all =
        ap (λ (i : ℕ). set_at (slice_set old operand all) i) at ∙ get_or-set_same old operand all none_of_32 inside in
        let was : set_at old x ≡ item =
        ap (λ (i : ℕ). set_at old i) at ∙ sym (get_or_read old operand item inside item_is none_of_32) in
        let now = before.sets x u there in (
          λ h.
              let two = (both u).0 (subst (λ (s : Set32). Has s u) set_is h) in
              let one = now.0 (subst (λ (s : Set32). Has s u) (sym was) two.0) in (
                one.0,
                λ q less r.
                    ⊎_elim (λ (b : q < k). one.1 q b r)
                    (λ (b : k ≤ q).
                    let e : k ≡ q = omega arith in
                    subst (λ (i : ℕ). HasRoute d u (port_of unit i)) e ((routes u).0 two.1))
                    (cases_lt q k),
              ),
          λ h.
              subst (λ (s : Set32). Has s u) (sym set_is)
              ((both u).1 (
                subst (λ (s : Set32). Has s u) was (now.1 (h.0, λ q less r. h.1 q (omega arith) r)),
                (routes u).1 (h.1 k (omega arith) (record { port = port; node = sym reads ∙ sym at })),
              )),
        )

    at_rest : (x u : ℕ)
        → x < length first
        → x ≢ operand
        → Has (set_at (slice_set old operand all) x) u
        ↔ (Has (set_at first x) u × ((q : ℕ) → q < k + 1 → Reads nodes v q x → HasRoute d u (port_of unit q)))
    at_rest x u there other =
        let set_is : set_at (slice_set old operand all) x ≡ set_at old x =
        get_or-set_other old operand x all none_of_32 other in
        let now = before.sets x u there in (
          λ h.
              let one = now.0 (subst (λ (s : Set32). Has s u) set_is h) in (
                one.0,
                λ q less r.
                    ⊎_elim (λ (b : q < k). one.1 q b r)
                    (λ (b : k ≤ q).
                    let e : q ≡ k = omega arith in
                    absurd (other (sym r.node ∙ ap (λ (i : ℕ). (edge_of (node_of nodes v) i).node) e ∙ sym reads)))
                    (cases_lt q k),
              ),
          λ h.
              subst (λ (s : Set32). Has s u) (sym set_is) (now.1 (h.0, λ q less r. h.1 q (omega arith) r)),
        )

    pub narrowed_more : IsNarrowed d nodes v unit (k + 1) first (slice_set old operand all)
    narrowed_more = record {
      count = length-set old operand all ∙ before.count;
      sets = λ x u there.
          ⊎_elim (at_operand x u there) (at_rest x u there) (cases_eq x operand);
    }

  pub narrowed_none : (v unit : ℕ) (sets : List Set32) → IsNarrowed d nodes v unit 0 sets sets
  narrowed_none v unit sets = record {
    count = refl;
    sets = λ x u there. (λ h. (h, λ q less r. absurd (omega arith)), λ h. h.0);
  }

  pub bound_none : (units loads : List ℕ) (sets : List Set32) (n m : ℕ)
      → units ≡ []
      → loads ≡ replicate n 0
      → sets ≡ replicate m all_of_32
      → n ≡ length d.units
      → m ≡ length nodes
      → length d.units ≤ 32
      → (lightest : Set32)
      → lightest ≡ all_of_32
      → IsBinding d nodes (record { units = units; loads = loads; allowed = sets; lightest = lightest })
  bound_none units loads sets n m none zero full n_is m_is few lightest all =
      let empty : length units ≡ 0 = ap length none in
      record {
        count = omega arith;
        units = λ v less. absurd (omega arith);
        load_count = ap length loads_are ∙ length-replicate n 0 ∙ n_is;
        loads = λ u there.
            ap (λ (xs : List ℕ). load_in xs u) loads_are ∙ get_or-replicate n u 0 0 (omega arith)
            ∙ sym (ap (λ (xs : List ℕ). count_by (λ (w : ℕ). w == u) xs) none);
        lightest = record {
          fewest = λ kind u w x y h.
              let a = no_load u in let b = no_load w in omega (arith, a, b);
          every = λ kind u w x y h e. has_unit w y.there;
          some = λ kind u x. (u, x, has_unit u x.there);
        };
        sets = record {
          count = ap length full ∙ length-replicate m all_of_32 ∙ m_is;
          allowed = λ x u there unit_there. (
            λ h c q less r. absurd (omega arith),
            λ h. subst (λ (s : Set32). Has s u)
                (sym (ap (λ (xs : List Set32). set_at xs x) full
                ∙ get_or-replicate m x all_of_32 none_of_32 (omega arith)))
                (has_all 32 u (omega arith)),
          );
        };
      }
    where
      loads_are : loads ≡ replicate n 0
      loads_are = zero

      has_unit : (u : ℕ) → u < length d.units → Has lightest u
      has_unit u there =
          subst (λ (s : Set32). Has s u) (sym all) (has_all 32 u (omega (arith, there, few)))

      no_load : (u : ℕ) → load_in loads u ≡ 0
      no_load u =
          ⊎_elim (λ (less : u < n). ap (λ (xs : List ℕ). load_in xs u) loads_are ∙ get_or-replicate n u 0 0 less)
          (λ (past : n ≤ u). get_or_past loads u 0 (subst (λ (m : ℕ). m ≤ u) (sym (ap length loads_are ∙
          length-replicate n 0)) past))
          (cases_lt u n)

  module _ (old : Binding) (is : IsBinding d nodes old) (v unit : ℕ) (count : length old.units ≡ v)
      (there : v < length nodes) (fits : IsUnitFor d nodes old.units v unit) where
    unit_is_there : unit < length d.units
    unit_is_there = fits.candidate.right.kind.there

    load_is : (load : ℕ) → load ≡ slice_index_or old.loads unit load
        → load ≡ count_by (λ (w : ℕ). w == unit) old.units
    load_is load read =
        get_or_read old.loads unit load (let e = is.load_count in let t = unit_is_there in omega arith) read 0
        ∙ is.loads unit unit_is_there

    pub load_few : (load at : ℕ) → at ≡ unit → load ≡ slice_index_or old.loads at load → load ≤ v
    load_few load at at_is read =
        let a = load_is load (read ∙ ap (λ (i : ℕ). slice_index_or old.loads i load) at_is) in
        let b = count_by-le-length (λ (w : ℕ). w == unit) old.units in
        omega arith

    loads_more : (load : ℕ)
        → load ≡ slice_index_or old.loads unit load
        → (u : ℕ)
        → u < length d.units
        → load_in (slice_set old.loads unit (load + 1)) u ≡ count_by (λ (w : ℕ). w == u) (old.units ++ unit ∷ [])
    loads_more load read u u_there =
        ⊎_elim
        (λ (e : u ≡ unit).
        ap (λ (i : ℕ). load_in (slice_set old.loads unit (load + 1)) i) e
        ∙ get_or-set_same old.loads unit (load + 1) 0
        (let c = is.load_count in let t = unit_is_there in omega arith)
        ∙ ap (λ (n : ℕ). n + 1) (load_is load read)
        ∙ sym (count_yes (λ (w : ℕ). w == unit) old.units unit (eq-eqb unit unit refl))
        ∙ ap (λ (i : ℕ). count_by (λ (w : ℕ). w == i) (old.units ++ unit ∷ [])) (sym e))
        (λ (other : u ≢ unit).
        get_or-set_other old.loads unit u (load + 1) 0 other
        ∙ is.loads u u_there
        ∙ sym (count_no (λ (w : ℕ). w == u) old.units unit (ne_eqb unit u (λ e. other (sym e)))))
        (cases_eq u unit)

    allowed_more : (new : List Set32)
        → IsNarrowed d nodes v unit (length (node_of nodes v).edges) old.allowed new
        → AreAllowed d nodes (old.units ++ unit ∷ []) (v + 1) new
    allowed_more new narrowed = record {
      count = narrowed.count ∙ is.sets.count;
      allowed = λ x u x_there u_there.
          let step = narrowed.sets x u (let e = is.sets.count in omega arith) in
          let now = is.sets.allowed x u x_there u_there in (
            λ h c q less r.
                let two = step.0 h in
                ⊎_elim
                (λ (b : c < v).
                subst (λ (w : ℕ). HasRoute d u (port_of w q))
                (sym (get_or_append_left old.units (unit ∷ []) 0 c (omega arith)))
                (now.0 two.0 c q (omega arith) r))
                (λ (b : v ≤ c).
                let e : c ≡ v = omega arith in
                let at : length old.units ≡ c = omega arith in
                let r_v : Reads nodes v q x = subst (λ (i : ℕ). Reads nodes i q x) e r in
                subst (λ (w : ℕ). HasRoute d u (port_of w q))
                (sym (get_or_push old.units unit 0 c at)) (two.1 q r_v.port r_v))
                (cases_lt c v),
            λ h.
                step.1 (
                  now.1 (λ c q less r.
                      subst (λ (w : ℕ). HasRoute d u (port_of w q))
                      (get_or_append_left old.units (unit ∷ []) 0 c less) (h c q (omega arith) r)),
                  λ q less r.
                      subst (λ (w : ℕ). HasRoute d u (port_of w q)) (get_or_push old.units unit 0 v count)
                      (h v q (omega arith) r),
                ),
          );
    }

    -- the unit has one node more
    pub one_more : (loads : List ℕ) (load at : ℕ)
        → at ≡ unit
        → load ≡ slice_index_or old.loads at load
        → loads ≡ slice_set old.loads at (load + 1)
        → IsOneMore old.loads loads unit
    one_more loads load at at_is read loads_are =
        let inside : at < length old.loads =
        let c = is.load_count in let t = unit_is_there in omega (arith, c, t, at_is) in
        subst (IsOneMore old.loads loads) at_is
        (record {
          more = ap (λ (ls : List ℕ). load_in ls at) loads_are ∙ get_or-set_same old.loads at (load + 1) 0 inside
              ∙ ap (λ (n : ℕ). n + 1) (get_or_read old.loads at load inside read 0);
          same = λ u other.
              ap (λ (ls : List ℕ). load_in ls u) loads_are ∙ get_or-set_other old.loads at u (load + 1) 0 other;
        })

    pub bound_more : (units loads : List ℕ) (load at : ℕ) (new : List Set32)
        → units ≡ old.units ++ unit ∷ []
        → at ≡ unit
        → load ≡ slice_index_or old.loads at load
        → loads ≡ slice_set old.loads at (load + 1)
        → IsNarrowed d nodes v unit (length (node_of nodes v).edges) old.allowed new
        → (lightest : Set32)
        → AreLightest d loads lightest
        → IsBinding d nodes (record { units = units; loads = loads; allowed = new; lightest = lightest })
    bound_more units loads load at new units_are at_is read loads_are narrowed lightest light =
        let pushed = length_push old.units unit in
        let longer : length (old.units ++ unit ∷ []) ≡ v + 1 = omega arith in
        let read_at : load ≡ slice_index_or old.loads unit load =
        read ∙ ap (λ (i : ℕ). slice_index_or old.loads i load) at_is in
        let set_at_unit : slice_set old.loads at (load + 1) ≡ slice_set old.loads unit (load + 1) =
        ap (λ (i : ℕ). slice_set old.loads i (load + 1)) at_is in
        let all_loads : loads ≡ slice_set old.loads unit (load + 1) = loads_are ∙ set_at_unit in
        subst (λ (us : List ℕ). IsBinding d nodes
        (record { units = us; loads = loads; allowed = new; lightest = lightest })) (sym units_are)
        (record {
          count = omega arith;
          units = units_more d nodes old.units unit is.units
              (subst (λ (i : ℕ). IsUnitFor d nodes old.units i unit) (sym count) fits);
          load_count = ap length all_loads ∙ length-set old.loads unit (load + 1) ∙ is.load_count;
          loads = λ u there_u. ap (λ (ls : List ℕ). load_in ls u) all_loads ∙ loads_more load read_at u there_u;
          lightest = light;
          sets = subst (λ (n : ℕ). AreAllowed d nodes (old.units ++ unit ∷ []) n new) (sym longer)
              (allowed_more new narrowed);
        })
