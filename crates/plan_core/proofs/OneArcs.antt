-- A schedule has one list of lifetimes at most, and they have one unroll factor.
use Rattle.std.proofs.Common.{◌≡◌, sym, subst, subst₂, ap, ◌∙◌, arith, ℕ, ◌+◌, ◌*◌, ◌<◌, ◌≤◌, ◌⊎◌, inl, inr}
use Rattle.std.proofs.Common.{le_antisymm, List, length, Contains}
use Rattle.std.proofs.lemmas.List.{get_or_default}
use Rattle.operations.specs.declared.units.PortRef.{PortRef}
use Rattle.datapath.specs.declared.types.Datapath.{Datapath}
use Rattle.plan_core.specs.Hardware.{port_of}
use Rattle.plan_core.specs.Operands.{Reads}
use Rattle.plan_core.specs.Assigned.{unit_in}
use Rattle.plan_core.specs.ListSchedule.{ends, IsPortBefore}
use Rattle.plan_core.specs.Arcs.{no_arc, arc_of, ReadsArc, read_cycle, IsArcOver, IsWrittenBefore, IsArcBefore}
use Rattle.plan_core.specs.Arcs.{IsArcsOver, IsArcs, IsUnroll}
use Rattle.plan_core.specs.declared.registers.Arc.{Arc}
use Rattle.plan_core.specs.declared.schedule.Assigned.{Assigned}
use Rattle.plan_core.specs.declared.schedule.Schedule.{Schedule}
use Rattle.plan_core.proofs.Sorted.{same_order}

pub ports_differ : (p q : PortRef) → IsPortBefore p q → p ≡ q → ⊥
ports_differ p q (inl h) e = let same = ap (λ (r : PortRef). r.unit) e in omega arith
ports_differ p q (inr h) e = let same = ap (λ (r : PortRef). r.port) e in let less = h.1 in omega arith

pub ports_one_way : (p q : PortRef) → IsPortBefore p q → IsPortBefore q p → ⊥
ports_one_way p q (inl h) (inl k) = omega arith
ports_one_way p q (inl h) (inr k) = let e = k.0 in omega arith
ports_one_way p q (inr h) (inl k) = let e = h.0 in omega arith
ports_one_way p q (inr h) (inr k) = let x = h.1 in let y = k.1 in omega arith

pub written_one_way : (x y : Arc) → IsWrittenBefore x y → IsWrittenBefore y x → ⊥
written_one_way x y (inl h) (inl k) = omega arith
written_one_way x y (inl h) (inr k) = let e = k.0 in omega arith
written_one_way x y (inr h) (inl k) = let e = h.0 in omega arith
written_one_way x y (inr h) (inr k) = let less = h.1 in let more = k.1 in omega arith

arcs_one_way : (x y : Arc) → IsArcBefore x y → IsArcBefore y x → ⊥
arcs_one_way x y (inl h) (inl k) = ports_one_way x.port y.port h k
arcs_one_way x y (inl h) (inr k) = ports_differ x.port y.port h (sym k.0)
arcs_one_way x y (inr h) (inl k) = ports_differ y.port x.port k (sym h.0)
arcs_one_way x y (inr h) (inr k) = written_one_way x y h.1 k.1

arc_from : (x y : Arc) → x.node ≡ y.node → x.port ≡ y.port → x.w ≡ y.w → x.r ≡ y.r → x.copies ≡ y.copies → x ≡ y
arc_from x y node port w r copies =
    ap (λ (n : ℕ). record { node = n; port = x.port; w = x.w; r = x.r; copies = x.copies }) node
    ∙ ap (λ (p : PortRef). record { node = y.node; port = p; w = x.w; r = x.r; copies = x.copies }) port
    ∙ ap (λ (n : ℕ). record { node = y.node; port = y.port; w = n; r = x.r; copies = x.copies }) w
    ∙ ap (λ (n : ℕ). record { node = y.node; port = y.port; w = y.w; r = n; copies = x.copies }) r
    ∙ ap (λ (n : ℕ). record { node = y.node; port = y.port; w = y.w; r = y.r; copies = n }) copies

-- lifetimes by when words are written and read
module _ (written_at : (v : ℕ) → ℕ) (read_at : (v c q : ℕ) → ℕ) (d : Datapath) (a : Assigned) where
  reads-same : (x y : Arc) (c : ℕ) → x.node ≡ y.node → x.port ≡ y.port → ReadsArc a x c → ReadsArc a y c
  reads-same x y c node port r = record {
    reads = subst (λ (p : PortRef). Reads a.lowered.nodes c p.port y.node) port
        (subst (λ (n : ℕ). Reads a.lowered.nodes c x.port.port n) node r.reads);
    unit = r.unit ∙ ap (λ (p : PortRef). p.unit) port;
  }

  last-below : (x y : Arc)
      → x.node ≡ y.node
      → x.port ≡ y.port
      → IsArcOver written_at read_at d a x
      → IsArcOver written_at read_at d a y
      → x.r ≤ y.r
  last-below x y node port h k =
      let c = h.read.0 in
      subst (λ (n : ℕ). n ≤ y.r)
      (sym
      (h.read.2 ∙ ap (λ (p : PortRef). read_at x.node c p.port) port ∙ ap (λ (v : ℕ). read_at v c y.port.port) node))
      (k.last c (reads-same x y c node port h.read.1))

  copies-below : (x y : Arc)
      → x.w ≡ y.w
      → x.r ≡ y.r
      → IsArcOver written_at read_at d a x
      → IsArcOver written_at read_at d a y
      → x.copies ≤ y.copies
  copies-below x y w r h k =
      h.least y.copies k.count (subst₂ (λ (m n : ℕ). m ≤ n + y.copies * d.period) (sym r) (sym w) k.covered)

  one_arc : (x y : Arc)
      → x.node ≡ y.node
      → x.port ≡ y.port
      → IsArcOver written_at read_at d a x
      → IsArcOver written_at read_at d a y
      → x ≡ y
  one_arc x y node port h k =
      let w = h.written ∙ ap written_at node ∙ sym k.written in
      let r = le_antisymm (last-below x y node port h k) (last-below y x (sym node) (sym port) k h) in
      let copies = le_antisymm (copies-below x y w r h k) (copies-below y x (sym w) (sym r) k h) in
      arc_from x y node port w r copies

  arc-in : (xs ys : List Arc)
      → IsArcsOver written_at read_at d a xs
      → IsArcsOver written_at read_at d a ys
      → (x : Arc)
      → Contains xs x
      → Contains ys x
  arc-in xs ys h k x (i, less, is) =
      let at = subst (λ (z : Arc). IsArcOver written_at read_at d a z) is (h.each i x less) in
      let reader = at.read.1 in
      let other = k.every at.read.0 x.port.port x.node reader.reads in
      let port : port_of (unit_in a.units at.read.0) x.port.port ≡ x.port = ap
      (λ (u : ℕ). port_of u x.port.port) reader.unit in
      let same = one_arc (arc_of ys other.0) x other.2.node (other.2.port_is ∙ port)
      (k.each other.0 no_arc other.1) at in
      (other.0, other.1, get_or_default ys other.0 x no_arc other.1 ∙ same)

  pub one_arcs_over : (xs ys : List Arc)
      → IsArcsOver written_at read_at d a xs
      → IsArcsOver written_at read_at d a ys
      → xs ≡ ys
  one_arcs_over xs ys h k =
      same_order IsArcBefore arcs_one_way xs ys h.order k.order (λ x. arc-in xs ys h k x) (λ x. arc-in ys xs k h x)

pub one_arcs : (d : Datapath) (a : Assigned) (s : Schedule) (xs ys : List Arc)
    → IsArcs d a s xs
    → IsArcs d a s ys
    → xs ≡ ys
one_arcs d a s = one_arcs_over (ends d a s) (λ (v c q : ℕ). read_cycle d a s c q) d a

unroll-below : (arcs : List Arc) (m n : ℕ) → IsUnroll arcs m → IsUnroll arcs n → m ≤ n
unroll-below arcs m n h k = by h.reached
  where
    by : (m ≡ 1) ⊎ ((i : ℕ) × (i < length arcs) × ((arc_of arcs i).copies ≡ m)) → m ≤ n
    by (inl e) = let some = k.some in omega arith
    by (inr x) = let most = k.most x.0 no_arc x.1 in let e = x.2 in omega arith

pub one_unroll : (arcs : List Arc) (m n : ℕ) → IsUnroll arcs m → IsUnroll arcs n → m ≡ n
one_unroll arcs m n h k = le_antisymm (unroll-below arcs m n h k) (unroll-below arcs n m k h)
