-- A binary search finds the lifetime of a node at a port.
use Rattle.std.proofs.Common.{◌≡◌, ◌∙◌, ◌⊎◌, inl, inr, sym, ap, subst, refl, arith, ⊎_elim, Bool, true, false, ℕ, ◌<◌}
use Rattle.std.proofs.Common.{◌≤◌, List, length, get_or}
use Rattle.std.specs.List.{position_or_len}
use Rattle.std.specs.List.Sorted.{IsPartitionedBy, IsPartitionPoint}
use Rattle.std.proofs.lemmas.Bool.{cases_lt, false_from_ne_true}
use Rattle.std.proofs.lemmas.Bool.Decides.{nat_tests}
use Rattle.std.proofs.lemmas.List.Sums.{position_or_len_is}
use Rattle.operations.specs.declared.units.PortRef.{PortRef}
use Rattle.datapath.specs.declared.types.Datapath.{Datapath}
use Rattle.plan_core.specs.Stages.{written_around}
use Rattle.plan_core.specs.Arcs.{arc_of, no_arc, IsArcBefore}
use Rattle.plan_core.specs.declared.schedule.Assigned.{Assigned}
use Rattle.plan_core.specs.declared.schedule.Schedule.{Schedule}
use Rattle.plan_core.specs.declared.registers.Arc.{Arc}
use Rattle.plan_core.specs.declared.registers.Registers.{Registers}
use Rattle.microcode_asm.specs.ScheduleText.{is_arc_for}
use Rattle.microcode_asm.specs.Printable.{HasArc, AreArcs}
use Rattle.microcode_asm.specs.Private.Shown.{is_before}

-- the arc is for node v, and is written in cycle w, at the port
record IsSought (port : PortRef) (w v : ℕ) (arc : Arc) : Type 0 where
  unit : arc.port.unit ≡ port.unit
  port_is : arc.port.port ≡ port.port
  cycle : arc.w ≡ w
  node : arc.node ≡ v

sought_for : (port : PortRef) (w v : ℕ) (arc : Arc) → is_arc_for v port arc ≡ true → arc.w ≡ w → IsSought port w v arc
sought_for port w v arc is_it cycle = record {
  unit = grind (arith, nat_tests);
  port_is = grind (arith, nat_tests);
  cycle = cycle;
  node = grind (arith, nat_tests);
}

for_node : (v : ℕ) (port : PortRef) (arc : Arc) → is_arc_for v port arc ≡ true → arc.node ≡ v
for_node v port arc is_it = grind (arith, nat_tests)

is_for : (port : PortRef) (w v : ℕ) (arc : Arc) → IsSought port w v arc → is_arc_for v port arc ≡ true
is_for port w v arc sought = grind (arith, nat_tests)

-- the lifetime that is sought stands not before itself
not_before : (port : PortRef) (w v : ℕ) (arc : Arc) → IsSought port w v arc → is_before port w v arc ≡ false
not_before port w v arc sought = grind (arith, nat_tests)

-- the arc is before the other, field by field
record Precedes (x y : Arc) : Type 0 where
  fields : (x.port.unit < y.port.unit)
      ⊎ ((x.port.unit ≡ y.port.unit)
      × ((x.port.port < y.port.port)
      ⊎ ((x.port.port ≡ y.port.port) × ((x.w < y.w) ⊎ ((x.w ≡ y.w) × (x.node < y.node))))))

precedes : (x y : Arc) → IsArcBefore x y → Precedes x y
precedes x y before = record {
  fields =
      ⊎_elim
      (λ (port : (x.port.unit < y.port.unit) ⊎ ((x.port.unit ≡ y.port.unit) × (x.port.port < y.port.port))).
      ⊎_elim (λ (unit : x.port.unit < y.port.unit). inl unit)
      (λ (rest : (x.port.unit ≡ y.port.unit) × (x.port.port < y.port.port)). inr (rest.0, inl rest.1)) port)
      (λ (rest : (x.port ≡ y.port) × ((x.w < y.w) ⊎ ((x.w ≡ y.w) × (x.node < y.node)))).
      inr (ap (λ (p : PortRef). p.unit) rest.0, inr (ap (λ (p : PortRef). p.port) rest.0, rest.1)))
      before;
}

before_sought : (port : PortRef) (w v : ℕ) (x y : Arc)
    → Precedes x y
    → IsSought port w v y
    → is_before port w v x ≡ true
before_sought port w v x y before sought = grind (arith, nat_tests)

before_before : (port : PortRef) (w v : ℕ) (x y : Arc)
    → Precedes x y
    → is_before port w v y ≡ true
    → is_before port w v x ≡ true
before_before port w v x y before is = grind (arith, nat_tests)

opposite : (b : Bool) → b ≡ true → b ≡ false → ⊥
opposite b is is_not = cc

module _ (d : Datapath) (a : Assigned) (s : Schedule) (xs : List Arc) (r : Registers) (arcs : AreArcs d a s xs r)
    (v : ℕ) (in_list : v < length a.lowered.nodes) (port : PortRef) where
  abbrev w : ℕ
  w = written_around d a s v

  pub parted : IsPartitionedBy (is_before port w v) xs
  parted i j e upto there is =
      ⊎_elim
      (λ (below : i < j).
      before_before port w v (get_or xs i e) (get_or xs j e)
      (precedes (get_or xs i e) (get_or xs j e) (arcs.order i j e below there)) is)
      (λ (above : j ≤ i).
      let same : j ≡ i = omega arith in
      subst (λ (n : ℕ). is_before port w v (get_or xs n e) ≡ true) same is)
      (cases_lt i j)

  -- an arc for the node at the port is the one that is sought
  sought_by : (arc : Arc)
      → (arc.node < length a.lowered.nodes → arc.w ≡ written_around d a s arc.node)
      → is_arc_for v port arc ≡ true
      → IsSought port w v arc
  sought_by arc written is_it =
      sought_for port w v arc is_it
      (let node = for_node v port arc is_it in
      written (subst (λ (n : ℕ). n < length a.lowered.nodes) (sym node) in_list) ∙ ap (written_around d a s) node)

  module _ (has : HasArc xs v port) where
    abbrev k : ℕ
    k = has.place

    sought : IsSought port w v (arc_of xs k)
    sought = record {
      unit = ap (λ (x : PortRef). x.unit) has.is.port_is;
      port_is = ap (λ (x : PortRef). x.port) has.is.port_is;
      cycle =
          arcs.written k no_arc has.there
          (subst (λ (n : ℕ). n < length a.lowered.nodes) (sym has.is.node) in_list)
          ∙ ap (written_around d a s) has.is.node;
      node = has.is.node;
    }

    pub found : (i : ℕ)
        → IsPartitionPoint (λ y. is_before port w v y ≡ true) (λ y. is_before port w v y ≡ false) xs i
        → i ≡ k
    found i point =
        ⊎_elim
        (λ (below : i < k).
        absurd (opposite (is_before port w v (arc_of xs i))
        (before_sought port w v (arc_of xs i) (arc_of xs k)
        (precedes (arc_of xs i) (arc_of xs k) (arcs.order i k no_arc below has.there)) sought)
        (point.1 i no_arc (omega arith) (let there = has.there in omega arith))))
        (λ (upto : k ≤ i).
        ⊎_elim
        (λ (above : k < i).
        absurd (opposite (is_before port w v (arc_of xs k)) (point.0 k no_arc (omega arith) above)
        (not_before port w v (arc_of xs k) sought)))
        (λ (same : i ≤ k). omega arith)
        (cases_lt k i))
        (cases_lt i k)

    pub first_for : k ≡ position_or_len (is_arc_for v port) xs
    first_for =
        let there = has.there in
        sym (position_or_len_is (is_arc_for v port) xs k no_arc (omega arith)
        (λ j below.
        false_from_ne_true (is_arc_for v port (arc_of xs j))
        (λ is_it.
        opposite (is_before port w v (arc_of xs j))
        (before_sought port w v (arc_of xs j) (arc_of xs k)
        (precedes (arc_of xs j) (arc_of xs k) (arcs.order j k no_arc below there)) sought)
        (not_before port w v (arc_of xs j)
        (sought_by (arc_of xs j) (arcs.written j no_arc (omega arith)) is_it))))
        (λ _. is_for port w v (arc_of xs k) sought))
