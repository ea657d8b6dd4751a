-- A graph has one binding to units or one fault, and not both.
use Rattle.std.proofs.Common.{◌≡◌, ◌⊎◌, ◌∙◌, sym, ap, subst, refl, arith, inl, inr, ⊎_elim, ℕ, ◌<◌, ◌≤◌, List, length}
use Rattle.std.proofs.Common.{take, Result, Ok, Err}
use Rattle.std.proofs.lemmas.Bool.{cases_lt}
use Rattle.std.proofs.lemmas.List.{get_or-take, length-take-le, take_all}
use Rattle.operations.specs.declared.units.Kind.{Kind}
use Rattle.operations.specs.declared.units.PortRef.{PortRef}
use Rattle.datapath.specs.declared.types.Datapath.{Datapath}
use Rattle.plan_core.specs.Hardware.{kind_of, port_of}
use Rattle.plan_core.specs.Operands.{node_of}
use Rattle.plan_core.specs.Assigned.{unit_in, IsRightUnit, IsCandidate, IsUnitFor, AreUnits, IsAssigned}
use Rattle.plan_core.specs.Refusals.{IsNextNode, IsOperandWithout, IsConsumerWithout}
use Rattle.plan_core.specs.declared.delay_lines.Lowered.{Lowered}
use Rattle.plan_core.specs.declared.schedule.Assigned.{Assigned}
use Rattle.plan_core.proofs.OneAssigned.{one_units, one_assigned}
use Rattle.unit_assign.specs.Bound.{AreUnitsOf}
use Rattle.unit_assign.specs.Faults.{IsUnitFault}
use Rattle.unit_assign.specs.declared.fault.UnitFault.{UnitFault}
use Rattle.unit_assign.specs.declared.fault.UnitFault.TheVariants.{TooWide, NoUnit, NoRoute, Memory}
use Rattle.unit_assign.proofs.Prefixes.{unit_same, units_first}

-- three cases for two numbers
data Order (a b : ℕ) : Type 0 where
  below : a < b → Order a b
  equal : a ≡ b → Order a b
  above : b < a → Order a b

order : (a b : ℕ) → Order a b
order a b =
    ⊎_elim (λ (l : a < b). below l)
    (λ (h : b ≤ a). ⊎_elim (λ (l : b < a). above l) (λ (k : a ≤ b). equal (omega arith)) (cases_lt b a)) (cases_lt a b)

module _ (d : Datapath) (l : Lowered) where
  -- what is wrong with node v, where the nodes before it have these units
  record Lacks (units : List ℕ) (v : ℕ) (port : PortRef) : Type 0 where
    u : ℕ
    right : IsRightUnit d (node_of l.nodes v) u
    first : (w : ℕ) → w < u → IsRightUnit d (node_of l.nodes v) w → ⊥
    missing : IsOperandWithout d l units v u port ⊎ IsConsumerWithout d l units v u port

  abbrev Stops : List ℕ → ℕ → UnitFault → Type 0
  Stops units v (TooWide w) = (w ≡ v) × (d.word < (node_of l.nodes v).width)
  Stops units v (NoUnit kind w) =
      (w ≡ v) × ((node_of l.nodes v).width ≤ d.word) × (kind ≡ kind_of (node_of l.nodes v).op)
      × ((u : ℕ) → IsRightUnit d (node_of l.nodes v) u → ⊥)
  Stops units v (NoRoute unit port w) =
      (w ≡ v) × ((node_of l.nodes v).width ≤ d.word) × ((u : ℕ) → IsCandidate d l.nodes units v u → ⊥)
      × Lacks units v (port_of unit port)
  Stops units v Memory = ⊥

  record At (fault : UnitFault) : Type 0 where
    units : List ℕ
    v : ℕ
    next : IsNextNode d l units v
    stops : Stops units v fault

  fault_at : (fault : UnitFault) → IsUnitFault d l fault → At fault
  fault_at (TooWide v) h = record { units = h.units; v = v; next = h.next; stops = (refl, h.wide) }
  fault_at (NoUnit kind v) h =
      record { units = h.units; v = v; next = h.next; stops = (refl, h.width, h.kind, h.none) }
  fault_at (NoRoute unit port v) h = record {
    units = h.units;
    v = v;
    next = h.next;
    stops = (
      refl,
      h.width,
      h.none,
      record { u = h.u; right = h.right; first = h.first; missing = h.missing },
    );
  }
  fault_at Memory h = absurd h

  not_bound : (units : List ℕ) (v u : ℕ) (fault : UnitFault) → Stops units v fault → IsUnitFor d l.nodes units v u → ⊥
  not_bound units v u (TooWide w) h is = let a = h.1 in let b = is.width in omega arith
  not_bound units v u (NoUnit kind w) h is = h.3 u is.candidate.right
  not_bound units v u (NoRoute unit port w) h is = h.2 u is.candidate
  not_bound units v u Memory h is = h

  -- the fault's node has a unit where more nodes have one
  stops_inside : (units all : List ℕ) (v : ℕ) (fault : UnitFault)
      → IsNextNode d l units v
      → AreUnits d l.nodes all
      → v < length all
      → Stops units v fault
      → ⊥
  stops_inside units all v fault next are longer stops =
      let count = length-take-le v all (omega arith) in
      let n = next.count in
      let same : units ≡ take v all =
      one_units d l.nodes units (take v all) next.before (units_first d l.nodes all v (omega arith) are) (omega arith)
      in
      not_bound units v (unit_in all v) fault stops
      (unit_same d l.nodes all units v (unit_in all v)
      (λ x before. sym (get_or-take v all x 0 before) ∙ ap (λ (us : List ℕ). unit_in us x) (sym same))
      (sym same ∙ sym (takes units v n)) (are v longer))
    where
      takes : (us : List ℕ) (n : ℕ) → length us ≡ n → take n us ≡ us
      takes us n e = take_all n us (omega arith)

  module _ (units : List ℕ) (v u : ℕ) where
    Missing : PortRef → Type 0
    Missing port = IsOperandWithout d l units v u port ⊎ IsConsumerWithout d l units v u port

    operand_once : (a b : PortRef) → IsOperandWithout d l units v u a → IsOperandWithout d l units v u b → a ≡ b
    operand_once a b x y =
        elim (order x.q y.q) [
          | below h ↦ absurd (y.first x.q h x.lacks)
          | equal h ↦ x.is ∙ ap (λ (q : ℕ). port_of u q) h ∙ sym y.is
          | above h ↦ absurd (x.first y.q h y.lacks)
        ]

    consumer_once : (a b : PortRef) → IsConsumerWithout d l units v u a → IsConsumerWithout d l units v u b → a ≡ b
    consumer_once a b x y =
        elim (order x.c y.c) [
          | below h ↦ absurd (y.first x.c x.q (inl h) x.lacks)
          | equal e ↦
              elim (order x.q y.q) [
                | below h ↦ absurd (y.first x.c x.q (inr (e, h)) x.lacks)
                | equal h ↦
                    x.is ∙ ap (λ (c : ℕ). port_of (unit_in units c) x.q) e
                    ∙ ap (λ (q : ℕ). port_of (unit_in units y.c) q) h ∙ sym y.is
                | above h ↦ absurd (x.first y.c y.q (inr (sym e, h)) y.lacks)
              ]
          | above h ↦ absurd (x.first y.c y.q (inl h) y.lacks)
        ]

    missing_once : (a b : PortRef)
        → IsOperandWithout d l units v u a ⊎ IsConsumerWithout d l units v u a
        → IsOperandWithout d l units v u b ⊎ IsConsumerWithout d l units v u b
        → a ≡ b
    missing_once a b (inl x) (inl y) = operand_once a b x y
    missing_once a b (inl x) (inr y) = absurd (y.operands x.q x.lacks)
    missing_once a b (inr x) (inl y) = absurd (x.operands y.q y.lacks)
    missing_once a b (inr x) (inr y) = consumer_once a b x y

  lacks_once : (units : List ℕ) (v : ℕ) (a b : PortRef) → Lacks units v a → Lacks units v b → a ≡ b
  lacks_once units v a b x y =
      elim (order x.u y.u) [
        | below h ↦ absurd (y.first x.u h x.right)
        | equal h ↦
            missing_once units v y.u a b
            (subst (λ (u : ℕ). IsOperandWithout d l units v u a ⊎ IsConsumerWithout d l units v u a) h x.missing)
            y.missing
        | above h ↦ absurd (x.first y.u h y.right)
      ]

  no_route : PortRef → ℕ → UnitFault
  no_route port v = NoRoute port.unit port.port v

  one_stop : (units : List ℕ) (v : ℕ) (f g : UnitFault) → Stops units v f → Stops units v g → f ≡ g
  one_stop units v (TooWide a) (TooWide b) x y = ap TooWide (x.0 ∙ sym y.0)
  one_stop units v (TooWide a) (NoUnit k b) x y = absurd (let m = x.1 in let n = y.1 in omega arith)
  one_stop units v (TooWide a) (NoRoute s p b) x y = absurd (let m = x.1 in let n = y.1 in omega arith)
  one_stop units v (TooWide a) Memory x y = absurd y
  one_stop units v (NoUnit k a) (TooWide b) x y = absurd (let m = x.1 in let n = y.1 in omega arith)
  one_stop units v (NoUnit k a) (NoUnit j b) x y =
      ap (λ (i : Kind). NoUnit i a) (x.2 ∙ sym y.2) ∙ ap (λ (w : ℕ). NoUnit j w) (x.0 ∙ sym y.0)
  one_stop units v (NoUnit k a) (NoRoute s p b) x y = absurd (x.3 y.3.u y.3.right)
  one_stop units v (NoUnit k a) Memory x y = absurd y
  one_stop units v (NoRoute r q a) (TooWide b) x y = absurd (let m = x.1 in let n = y.1 in omega arith)
  one_stop units v (NoRoute r q a) (NoUnit k b) x y = absurd (y.3 x.3.u x.3.right)
  one_stop units v (NoRoute r q a) (NoRoute s p b) x y =
      let ports = lacks_once units v (port_of r q) (port_of s p) x.3 y.3 in
      ap (λ (t : PortRef). NoRoute t.unit t.port a) ports ∙ ap (λ (w : ℕ). NoRoute s p w) (x.0 ∙ sym y.0)
  one_stop units v (NoRoute r q a) Memory x y = absurd y
  one_stop units v Memory g x y = absurd x

  pub one_fault : (f g : UnitFault) → IsUnitFault d l f → IsUnitFault d l g → f ≡ g
  one_fault f g x y =
      let a = fault_at f x in
      let b = fault_at g y in
      elim (order a.v b.v) [
        | below h ↦
            (let e = b.next.count in
            absurd (stops_inside a.units b.units a.v f a.next b.next.before (omega arith) a.stops))
        | equal h ↦
            (let m = a.next.count in
            let n = b.next.count in
            let units : a.units ≡ b.units =
            one_units d l.nodes a.units b.units a.next.before b.next.before (omega arith) in
            one_stop b.units b.v f g
            (subst (λ (w : ℕ). Stops b.units w f) h (subst (λ (us : List ℕ). Stops us a.v f) units a.stops)) b.stops)
        | above h ↦
            (let e = a.next.count in
            absurd (stops_inside b.units a.units b.v g b.next a.next.before (omega arith) b.stops))
      ]

  pub bound_or_not : (a : Assigned) → a.lowered ≡ l → IsAssigned d a → (fault : UnitFault) → IsUnitFault d l fault → ⊥
  bound_or_not a same is fault h =
      let at = fault_at fault h in
      let there = at.next.there in
      let count = is.count ∙ ap (λ (k : Lowered). length k.nodes) same in
      stops_inside at.units a.units at.v fault at.next
      (subst (λ (k : Lowered). AreUnits d k.nodes a.units) same is.units)
      (omega arith) at.stops

  abbrev bound : List ℕ → Assigned
  bound units = record { lowered = l; units = units }

  -- all units are found, and no fault is
  module _ (r : Result (List ℕ) UnitFault) (units : List ℕ) (ok : r ≡ Ok units) (are : AreUnitsOf d l units) where
    pub units_found : (others : List ℕ) → AreUnitsOf d l others → (r ≡ Ok others) ⊎ (r ≡ Err Memory)
    units_found others other_are =
        let same = one_assigned d (bound units) (bound others) refl are other_are in
        inl (ok ∙ ap (λ (a : Assigned). Ok a.units) same)

    pub units_refused : (fault : UnitFault) → IsUnitFault d l fault → (r ≡ Err fault) ⊎ (r ≡ Err Memory)
    units_refused fault h = absurd (bound_or_not (bound units) refl are fault h)

  -- a node has no unit, or memory is out
  module _ {A : Type 0} (r : Result A UnitFault) (f : UnitFault) (err : r ≡ Err f)
      (why : (f ≡ Memory) ⊎ IsUnitFault d l f) where
    pub err_found : (a : Assigned) → a.lowered ≡ l → IsAssigned d a → (x : A) → (r ≡ Ok x) ⊎ (r ≡ Err Memory)
    err_found a same is x =
        ⊎_elim (λ (e : f ≡ Memory). inr (err ∙ ap (λ (y : UnitFault). Err y) e))
        (λ (h : IsUnitFault d l f). absurd (bound_or_not a same is f h)) why

    pub err_refused : (fault : UnitFault) → IsUnitFault d l fault → (r ≡ Err fault) ⊎ (r ≡ Err Memory)
    err_refused fault h =
        ⊎_elim (λ (e : f ≡ Memory). inr (err ∙ ap (λ (y : UnitFault). Err y) e))
        (λ (g : IsUnitFault d l f). inl (err ∙ ap (λ (y : UnitFault). Err y) (one_fault f fault g h))) why

  -- the units with a copy of the graph
  module _ (r : Result Assigned UnitFault) (b : Assigned) (ok : r ≡ Ok b) (same : b.lowered ≡ l)
      (is : IsAssigned d b) where
    pub ok_found : (a : Assigned) → a.lowered ≡ l → IsAssigned d a → (r ≡ Ok a) ⊎ (r ≡ Err Memory)
    ok_found a a_same a_is =
        inl (ok ∙ ap (λ (x : Assigned). Ok x) (one_assigned d b a (same ∙ sym a_same) is a_is))

    pub ok_refused : (fault : UnitFault) → IsUnitFault d l fault → (r ≡ Err fault) ⊎ (r ≡ Err Memory)
    ok_refused fault h = absurd (bound_or_not b same is fault h)

  pub copied : (units : List ℕ) (a : Assigned) → AreUnitsOf d l units → a.lowered ≡ l → a.units ≡ units
      → IsAssigned d a
  copied units a are same units_are = record {
    count = ap length units_are ∙ are.count ∙ ap (λ (k : Lowered). length k.nodes) (sym same);
    units = subst (λ (k : Lowered). AreUnits d k.nodes a.units) (sym same)
        (subst (λ (us : List ℕ). AreUnits d l.nodes us) (sym units_are) are.units);
  }
