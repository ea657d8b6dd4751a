-- Whether a node can be on a unit, and the best of these units.
use Rattle.std.proofs.Common.{◌≡◌, ◌↔◌, ◌∙◌, sym, ap, subst, refl, arith, inl, inr, ⊎_elim, ℕ, ◌+◌, ◌<◌, ◌≤◌, ◌==◌}
use Rattle.std.proofs.Common.{List, length, count_by, slice_index_or, Bool, true, false, Option, Some, None, IfSome}
use Rattle.std.proofs.Common.{if◌then◌else◌, nat_le, leb-true, leb-false}
use Rattle.std.proofs.lemmas.Bool.{cases_lt}
use Rattle.std.proofs.lemmas.List.{take_all, get_or_read}
use Rattle.datapath.specs.declared.types.Datapath.{Datapath}
use Rattle.signal_graph.specs.declared.graph.Node.{Node}
use Rattle.plan_core.specs.Hardware.{kind_of, port_of, HasRoute}
use Rattle.plan_core.specs.Operands.{node_of, edge_of, Reads}
use Rattle.plan_core.specs.Assigned.{unit_in, IsRightUnit, IsCandidate, load_of}
use Rattle.plan_core.specs.Refusals.{IsNextNode, LacksOperand, LacksConsumer}
use Rattle.plan_core.specs.declared.delay_lines.Lowered.{Lowered}
use Rattle.bit_sets.specs.Bits.{IsFirstOf}
use Rattle.unit_assign.specs.Private.UnitSets.{Has, none_of_32, set_at}
use Rattle.unit_assign.specs.Private.Wiring.{IsProblem}
use Rattle.unit_assign.specs.Private.Bindings.{load_in, AreLightest, IsAllowed, AreAllowed, HasRouteFrom, IsLeft}
use Rattle.unit_assign.specs.Private.Bindings.{IsBestOf, IsBest, lighter_of}
use Rattle.bit_sets.specs.declared.set32.Set32.{Set32}
use Rattle.unit_assign.specs.declared.wiring.Wiring.{Wiring}
use Rattle.unit_assign.proofs.MissingSteps.{route_or_not, port_few, unit_there, node_is}

module _ (d : Datapath) (l : Lowered) (wiring : Wiring) (problem : IsProblem d l wiring) (units : List ℕ) (v u : ℕ)
    (next : IsNextNode d l units v) where
  NoOperandLacks : Type 0
  NoOperandLacks = (q : ℕ) → LacksOperand d l units v u q → ⊥

  by_routes : IsRightUnit d (node_of l.nodes v) u
      → ((q : ℕ) → LacksOperand d l units v u q → ⊥)
      → ((c q : ℕ) → c < v → Reads l.nodes c q v → HasRoute d u (port_of (unit_in units c) q))
      → IsCandidate d l.nodes units v u
  by_routes right none routes = record {
    right = right;
    operands = λ q x less r.
        ⊎_elim (λ (h : HasRoute d (unit_in units x) (port_of u q)). h)
        (λ (no : HasRoute d (unit_in units x) (port_of u q) → ⊥).
        absurd (none q (record { operand = x; reads = r; lacks = inl (less, no) })))
        (route_or_not d l wiring problem u q (unit_in units x) right.kind.there
        (port_few l problem.wired v q next.there r.port));
    itself = λ q r.
        ⊎_elim (λ (h : HasRoute d u (port_of u q)). h)
        (λ (no : HasRoute d u (port_of u q) → ⊥).
        absurd (none q (record { operand = v; reads = r; lacks = inr (refl, no) })))
        (route_or_not d l wiring problem u q u right.kind.there (port_few l problem.wired v q next.there r.port));
    consumers = routes;
  }

  pub nothing_missing : IsRightUnit d (node_of l.nodes v) u
      → ((q : ℕ) → LacksOperand d l units v u q → ⊥)
      → ((c q : ℕ) → LacksConsumer d l units v u c q → ⊥)
      → IsCandidate d l.nodes units v u
  nothing_missing right none no_consumer =
      by_routes right none
      (λ c q less r.
      let at : c < length units = let e = next.count in omega arith in
      let there : c < length l.nodes = let e = next.there in omega arith in
      ⊎_elim (λ (h : HasRoute d u (port_of (unit_in units c) q)). h)
      (λ (no : HasRoute d u (port_of (unit_in units c) q) → ⊥).
      absurd (no_consumer c q (record { before = less; reads = r; lacks = no })))
      (route_or_not d l wiring problem (unit_in units c) q u (unit_there d l.nodes units next.before c at)
      (port_few l problem.wired c q there r.port)))

-- the units on which node v has a route from a node, by the number of the node
module _ (d : Datapath) (nodes : List Node) (units : List ℕ) (v u q operand : ℕ) (set : Set32) where
  pub from_itself : operand ≡ v
      → Has set u ↔ HasRoute d u (port_of u q)
      → Has set u ↔ HasRouteFrom d nodes units v u q operand
  from_itself same is = (
    λ h. (λ less. absurd (omega arith), λ _. is.0 h),
    λ h. is.1 (h.1 same),
  )

  pub from_bound : operand < v
      → Has set u ↔ HasRoute d (unit_in units operand) (port_of u q)
      → Has set u ↔ HasRouteFrom d nodes units v u q operand
  from_bound less is = (
    λ h. (λ _. is.0 h, λ same. absurd (omega arith)),
    λ h. is.1 (h.0 less),
  )

  pub from_later : v < operand → Has set u → Has set u ↔ HasRouteFrom d nodes units v u q operand
  from_later more has = (
    λ h. (λ less. absurd (omega arith), λ same. absurd (omega arith)),
    λ h. has,
  )

-- the units that are left after some ports of node v
module _ (d : Datapath) (nodes : List Node) (units : List ℕ) (v : ℕ) where
  pub left_first : (right allowed all : Set32)
      → ((u : ℕ) → Has right u ↔ IsRightUnit d (node_of nodes v) u)
      → ((u : ℕ) → u < length d.units → Has allowed u ↔ IsAllowed d nodes units v v u)
      → ((u : ℕ) → Has all u ↔ (Has right u × Has allowed u))
      → (u : ℕ)
      → Has all u ↔ IsLeft d nodes units v 0 u
  left_first right allowed all right_is allowed_is both u = (
    λ h.
        let two = (both u).0 h in
        let its = (right_is u).0 two.0 in
        record {
          right = its;
          consumers = (allowed_is u its.kind.there).0 two.1;
          operands = λ q x less r. absurd (omega arith);
        },
    λ h. (both u).1 ((right_is u).1 h.right, (allowed_is u h.right.kind.there).1 h.consumers),
  )

  pub left_more : (k operand : ℕ) (left takers all : Set32)
      → k < length (node_of nodes v).edges
      → operand ≡ (edge_of (node_of nodes v) k).node
      → ((u : ℕ) → Has left u ↔ IsLeft d nodes units v k u)
      → ((u : ℕ) → u < length d.units → Has takers u ↔ HasRouteFrom d nodes units v u k operand)
      → ((u : ℕ) → Has all u ↔ (Has left u × Has takers u))
      → (u : ℕ)
      → Has all u ↔ IsLeft d nodes units v (k + 1) u
  left_more k operand left takers all port reads left_is takers_are both u = (
    λ h.
        let two = (both u).0 h in
        let was = (left_is u).0 two.0 in
        record {
          right = was.right;
          consumers = was.consumers;
          operands = λ q x less r.
              ⊎_elim (λ (b : q < k). was.operands q x b r)
              (λ (b : k ≤ q).
              let at : k ≡ q = omega arith in
              let its : operand ≡ x =
              reads ∙ ap (λ (i : ℕ). (edge_of (node_of nodes v) i).node) at ∙ r.node in
              subst (λ (i : ℕ). HasRouteFrom d nodes units v u i x) at
              (subst (λ (y : ℕ). HasRouteFrom d nodes units v u k y) its
              ((takers_are u was.right.kind.there).0 two.1)))
              (cases_lt q k);
        },
    λ h.
        (both u).1 (
          (left_is u).1 (record {
            right = h.right;
            consumers = h.consumers;
            operands = λ q x less r. h.operands q x (omega arith) r;
          }),
          (takers_are u h.right.kind.there).1
              (h.operands k operand (omega arith) (record { port = port; node = sym reads })),
        ),
  )

  pub left_all : (k : ℕ) (left : Set32)
      → length (node_of nodes v).edges ≤ k
      → ((u : ℕ) → Has left u ↔ IsLeft d nodes units v k u)
      → (u : ℕ)
      → Has left u ↔ IsCandidate d nodes units v u
  left_all k left all left_is u = (
    λ h.
        let its = (left_is u).0 h in
        record {
          right = its.right;
          operands = λ q x less r. (its.operands q x (let p = r.port in omega arith) r).0 less;
          itself = λ q r. (its.operands q v (let p = r.port in omega arith) r).1 refl;
          consumers = its.consumers;
        },
    λ h.
        (left_is u).1 (record {
          right = h.right;
          consumers = h.consumers;
          operands = λ q x less r. (
            λ before. h.operands q x before r,
            λ same. h.itself q (subst (λ (y : ℕ). Reads nodes v q y) same r),
          );
        }),
  )

module _ (d : Datapath) (nodes : List Node) (units : List ℕ) (v : ℕ) where
  best_to : (n m : ℕ) (best : Option ℕ)
      → IsBest d nodes units v n best
      → ((w : ℕ) → n ≤ w → w < m → IsCandidate d nodes units v w → ⊥)
      → ((w : ℕ) → w < n → IsCandidate d nodes units v w → w < m)
      → IsBest d nodes units v m best
  best_to n m None is past before = λ u less can.
      ⊎_elim (λ (b : u < n). is u b can) (λ (b : n ≤ u). past u b less can) (cases_lt u n)
  best_to n m (Some u) is past before =
      let out : (w : ℕ) → w < m → IsCandidate d nodes units v w → w < n =
      λ w less can.
      ⊎_elim (λ (b : w < n). b) (λ (b : n ≤ w). absurd (past w b less can)) (cases_lt w n) in
      record {
        below = before u is.below is.candidate;
        candidate = is.candidate;
        fewest = λ w less can. is.fewest w (out w less can) can;
        first = λ w less can e. is.first w (out w less can) can e;
      }

  same_load : (n w : ℕ) → n ≡ w → load_of d nodes units v n ≡ load_of d nodes units v w
  same_load n w e = ap (λ (x : ℕ). load_of d nodes units v x) e

  best_last : (n : ℕ)
      → IsCandidate d nodes units v n
      → ((w : ℕ) → w < n → IsCandidate d nodes units v w → load_of d nodes units v n < load_of d nodes units v w)
      → IsBestOf d nodes units v (n + 1) n
  best_last n can fewer = record {
    below = omega arith;
    candidate = can;
    fewest = λ w less other.
        ⊎_elim (λ (b : w < n). (let f = fewer w b other in omega arith))
        (λ (b : n ≤ w). (let e = same_load n w (omega arith) in omega arith))
        (cases_lt w n);
    first = λ w less other e.
        ⊎_elim (λ (b : w < n). absurd (let f = fewer w b other in omega arith)) (λ (b : n ≤ w). b) (cases_lt w n);
  }

  best_stays : (n u : ℕ)
      → IsBestOf d nodes units v n u
      → load_of d nodes units v u ≤ load_of d nodes units v n
      → IsBestOf d nodes units v (n + 1) u
  best_stays n u is less_or = record {
    below = (let b = is.below in omega arith);
    candidate = is.candidate;
    fewest = λ w less other.
        ⊎_elim (λ (b : w < n). is.fewest w b other)
        (λ (b : n ≤ w). (let e = same_load n w (omega arith) in omega arith))
        (cases_lt w n);
    first = λ w less other e.
        ⊎_elim (λ (b : w < n). is.first w b other e) (λ (b : n ≤ w). (let x = is.below in omega arith)) (cases_lt w n);
  }

  -- the best of the candidates below n, where those from n on are left
  pub record IsChoosing (left : Set32) (best : Option ℕ) : Type 0 where
    pub n : ℕ
    pub best_is : IsBest d nodes units v n best
    pub left_are : (u : ℕ) → Has left u ↔ (IsCandidate d nodes units v u × (n ≤ u))

  pub choosing_begins : (candidates : Set32)
      → ((u : ℕ) → Has candidates u ↔ IsCandidate d nodes units v u)
      → IsChoosing candidates None
  choosing_begins candidates are_all = record {
    n = 0;
    best_is = λ u less can. absurd (omega arith);
    left_are = λ u. (λ h. ((are_all u).0 h, omega arith), λ h. (are_all u).1 h.0);
  }

  pub choosing_ends : (left : Set32) (best : Option ℕ)
      → IsChoosing left best
      → ((u : ℕ) → Has left u → ⊥)
      → IsBest d nodes units v (length d.units) best
  choosing_ends left best so_far none =
      best_to so_far.n (length d.units) best so_far.best_is
      (λ w past less can. none w ((so_far.left_are w).1 (can, past)))
      (λ w less can. can.right.kind.there)

  module _ (loads : List ℕ) (count : length units ≡ v)
      (are : (u : ℕ) → u < length d.units → load_in loads u ≡ count_by (λ (w : ℕ). w == u) units) where
    load_is : (u : ℕ) → u < length d.units → load_in loads u ≡ load_of d nodes units v u
    load_is u there =
        are u there ∙ sym (ap (λ (us : List ℕ). count_by (λ (w : ℕ). w == u) us) (take_all v units (omega arith)))

    best_more_yes : (n : ℕ) (best : Option ℕ)
        → n < length d.units
        → IsBest d nodes units v n best
        → IsCandidate d nodes units v n
        → IsBest d nodes units v (n + 1) (Some (lighter_of loads best n))
    best_more_yes n None there is can = best_last n can (λ w less other. absurd (is w less other))
    best_more_yes n (Some u) there is can = by (nat_le (load_in loads u) (load_in loads n)) refl
      where
        u_load : load_in loads u ≡ load_of d nodes units v u
        u_load = load_is u is.candidate.right.kind.there

        n_load : load_in loads n ≡ load_of d nodes units v n
        n_load = load_is n there

        by : (t : Bool)
            → nat_le (load_in loads u) (load_in loads n) ≡ t
            → IsBestOf d nodes units v (n + 1) (if t then u else n)
        by true e =
            best_stays n u is
            (let less_or = leb-true (load_in loads u) (load_in loads n) e in
            let a = u_load in let b = n_load in omega arith)
        by false e =
            best_last n can
            (λ w less other.
            let more = leb-false (load_in loads u) (load_in loads n) e in
            let few = is.fewest w less other in let a = u_load in let b = n_load in omega arith)

    -- the first of those that are lightest of their kind
    pub best_lightest : (candidates lightest both rest : Set32) (u : ℕ)
        → ((w : ℕ) → Has candidates w ↔ IsCandidate d nodes units v w)
        → AreLightest d loads lightest
        → ((w : ℕ) → Has both w ↔ (Has candidates w × Has lightest w))
        → IsFirstOf both.bits u rest.bits
        → IsBest d nodes units v (length d.units) (Some u)
    best_lightest candidates lightest both rest u are_all light both_is takes =
        let two = (both_is u).0 takes.taken.there in
        let can = (are_all u).0 two.0 in
        let kind = kind_of (node_of nodes v).op in
        let its = load_is u can.right.kind.there in
        record {
          below = can.right.kind.there;
          candidate = can;
          fewest = λ w less other.
              let a = light.fewest kind u w can.right.kind other.right.kind two.1 in
              let b = load_is w other.right.kind.there in
              omega (arith, a, b, its);
          first = λ w less other e.
              ⊎_elim
              (λ (earlier : w < u).
              let b = load_is w other.right.kind.there in
              absurd
              (takes.first w earlier
              ((both_is w).1 (
                (are_all w).1 other,
                light.every kind u w can.right.kind other.right.kind two.1 (b ∙ e ∙ sym its),
              ))))
              (λ (later : u ≤ w). later)
              (cases_lt w u);
        }

    pub choosing_goes_on : (old new : Set32) (best : Option ℕ) (u : ℕ)
        → IsChoosing old best
        → IsFirstOf old.bits u new.bits
        → IsChoosing new (Some (lighter_of loads best u))
    choosing_goes_on old new best u so_far takes =
        let its = (so_far.left_are u).0 takes.taken.there in
        let n : ℕ = so_far.n in
        let after : n ≤ u = its.1 in
        record {
          n = u + 1;
          best_is = best_more_yes u best its.0.right.kind.there
              (best_to n u best so_far.best_is
              (λ w past less can. takes.first w less ((so_far.left_are w).1 (can, past)))
              (λ w less can. omega arith))
              its.0;
          left_are = λ w. (
            λ h.
                let two = (takes.taken.rest w).0 h in
                let was = (so_far.left_are w).0 two.0 in
                let other = two.1 in (
                  was.0,
                  ⊎_elim (λ (less : w < u). absurd (takes.first w less two.0)) (λ (more : u ≤ w). omega arith)
                      (cases_lt w u),
                ),
            λ h.
                let past = h.1 in
                (takes.taken.rest w).1 (
                  (so_far.left_are w).1 (h.0, omega arith),
                  λ same. absurd (omega arith),
                ),
          );
        }

-- each unit that is best is there
pub best_there : (d : Datapath) (nodes : List Node) (units : List ℕ) (v n : ℕ) (best : Option ℕ) (count : ℕ)
    → count ≡ length d.units
    → IsBest d nodes units v n best
    → IfSome best (λ u. u < count)
best_there d nodes units v n None count same is = tt
best_there d nodes units v n (Some u) count same is = let there = is.candidate.right.kind.there in omega arith

-- the set of node v, as the code reads it
pub set_read : (d : Datapath) (nodes : List Node) (units : List ℕ) (allowed : List Set32)
    → AreAllowed d nodes units (length units) allowed
    → (v : ℕ) (item : Set32)
    → v < length nodes
    → item ≡ slice_index_or allowed v item
    → item ≡ set_at allowed v
set_read d nodes units allowed are v item there is =
    get_or_read allowed v item (let e = are.count in omega arith) is none_of_32

-- before the first port, as the code reads the node and its set
pub left_begin :
    (d : Datapath) (nodes : List Node) (units : List ℕ) (v : ℕ) (node : Node) (right item all : Set32)
    (allowed : List Set32)
    → v < length nodes
    → length units ≡ v
    → node ≡ slice_index_or nodes v node
    → item ≡ slice_index_or allowed v item
    → AreAllowed d nodes units (length units) allowed
    → ((u : ℕ) → Has right u ↔ IsRightUnit d node u)
    → ((u : ℕ) → Has all u ↔ (Has right u × Has item u))
    → (u : ℕ)
    → Has all u ↔ IsLeft d nodes units v 0 u
left_begin d nodes units v node right item all allowed there count is item_is are right_is both =
    left_first d nodes units v right item all
    (λ u. subst (λ (n : Node). Has right u ↔ IsRightUnit d n u) (node_is nodes v node there is) (right_is u))
    (λ u inside.
    subst (λ (s : Set32). Has s u ↔ IsAllowed d nodes units v v u)
    (sym (set_read d nodes units allowed are v item there item_is))
    (subst (λ (n : ℕ). Has (set_at allowed v) u ↔ IsAllowed d nodes units n v u) count (are.allowed v u there inside)))
    both
