-- The lifetimes of the last reads are those of the schedule.
use Rattle.std.proofs.Common.{◌≡◌, ◌⊎◌, ◌∙◌, sym, ap, subst, refl, arith, inl, inr, true, ⊎_elim, ℕ, ◌+◌, ◌*◌, ◌<◌, ◌≤◌}
use Rattle.std.proofs.Common.{List, length, get_or}
use Rattle.std.specs.Prelude.{map}
use Rattle.std.specs.List.{All, AllPairs, Contains}
use Rattle.std.proofs.Math.Nat.{mod-lt, mul-le-mul_right}
use Rattle.std.proofs.lemmas.Bool.Decides.{nat_tests}
use Rattle.std.proofs.lemmas.List.{get_or-map, length-map}
use Rattle.std.proofs.lemmas.List.Elements.{All-map, All-contains, All-weaker}
use Rattle.datapath.specs.declared.types.Datapath.{Datapath}
use Rattle.plan_core.specs.Hardware.{port_of}
use Rattle.plan_core.specs.Operands.{delay_at, Reads}
use Rattle.plan_core.specs.Heights.{latency_of}
use Rattle.plan_core.specs.ListSchedule.{cycle_of, ends}
use Rattle.plan_core.specs.Stages.{written_around, read_around}
use Rattle.plan_core.specs.Arcs.{arc_of, no_arc, IsArcOver, IsArcBefore, IsArcsOver}
use Rattle.plan_core.specs.declared.schedule.Assigned.{Assigned}
use Rattle.plan_core.specs.declared.schedule.Schedule.{Schedule}
use Rattle.plan_core.specs.declared.registers.Arc.{Arc}
use Rattle.cyclic_life.specs.Private.Reads.{is_alike, AreSame, IsLifeBefore, IsUpTo, lasts, arc_to, no_read}
use Rattle.cyclic_life.specs.Private.Placed.{IsPlacement, read_over, IsReadOver, IsRead, AreReadsOver}
use Rattle.cyclic_life.specs.declared.read.Read.{Read}
use Rattle.cyclic_life.proofs.LastReads.{lasts_keep, lasts_in_order, IsGreatest, lasts_greatest, HasLast, lasts_every}
use Rattle.plan_core.proofs.Readers.{reader_there}
use Rattle.cyclic_life.proofs.Counts.{is_count, covered_by, least_count}
use Rattle.cyclic_life.proofs.ReadOrder.{alike_by}

same_port : (u v p q : ℕ) → u ≡ v → p ≡ q → port_of u p ≡ port_of v q
same_port u v p q unit port = ap (λ (x : ℕ). port_of x p) unit ∙ ap (λ (x : ℕ). port_of v x) port

alike_unit : (x y : Read) → is_alike x y ≡ true → x.unit ≡ y.unit
alike_unit x y alike = grind (arith, nat_tests)

alike_port : (x y : Read) → is_alike x y ≡ true → x.port ≡ y.port
alike_port x y alike = grind (arith, nat_tests)

alike_node : (x y : Read) → is_alike x y ≡ true → x.node ≡ y.node
alike_node x y alike = grind (arith, nat_tests)

arc_before : (period : ℕ) (x y : Read) → IsLifeBefore x y → IsArcBefore (arc_to period x) (arc_to period y)
arc_before period x y before =
    ⊎_elim (λ (unit : x.unit < y.unit). inl (inl unit))
    (λ (rest : (x.unit ≡ y.unit) × _).
    ⊎_elim (λ (port : x.port < y.port). inl (inr (rest.0, port)))
    (λ (written : (x.port ≡ y.port) × ((x.w < y.w) ⊎ ((x.w ≡ y.w) × (x.node < y.node)))).
    inr (same_port x.unit y.unit x.port y.port rest.0 written.0, written.1))
    rest.1)
    before

map_in_order : {A B : Type 0} (R : A → A → Type 0) (S : B → B → Type 0) (f : A → B) (e : A) (xs : List A)
    → ((x y : A) → R x y → S (f x) (f y))
    → AllPairs R xs
    → AllPairs S (map f xs)
map_in_order R S f e xs kept order i j d below there =
    let in_xs : j < length xs = subst (λ (n : ℕ). j < n) (length-map xs f) there in
    rw (get_or-map f xs i e d (omega arith), get_or-map f xs j e d in_xs)
    (kept (get_or xs i e) (get_or xs j e) (order i j e below in_xs))

module _ (d : Datapath) (a : Assigned) (s : Schedule) (placed : IsPlacement d a s) where
  port_low : {w : (v : ℕ) → ℕ} {r : (v c q : ℕ) → ℕ} (x : Read) → IsReadOver w r a x → x.port < 3
  port_low x is =
      let ports = placed.ports is.c (reader_there a.lowered.nodes is.c x.port x.node is.reads) in
      let port = is.reads.port in
      omega arith

  pub reads_low : {w : (v : ℕ) → ℕ} {r : (v c q : ℕ) → ℕ} (xs : List Read)
      → AreReadsOver w r a xs
      → All (λ (x : Read). x.port < 3) xs
  reads_low {w} {r} xs reads = All-weaker (IsReadOver w r a) (λ (x : Read). x.port < 3) port_low xs reads.each

-- Words that are written in the period, and read at most four periods later.
module _ (written_at : (v : ℕ) → ℕ) (read_at : (v c q : ℕ) → ℕ) (d : Datapath) (a : Assigned)
    (written_within : (x : Read) → IsReadOver written_at read_at a x → x.w < 4096)
    (read_within : (x : Read) → IsReadOver written_at read_at a x → x.r ≤ x.w + 4 * d.period) where
  abbrev IsIt : Read → Type 0
  IsIt x = IsReadOver written_at read_at a x

  abbrev IsIts : Arc → Type 0
  IsIts arc = IsArcOver written_at read_at d a arc

  pub reads_written : (xs : List Read) → AreReadsOver written_at read_at a xs → All (λ (x : Read). x.w < 4096) xs
  reads_written xs reads = All-weaker IsIt (λ (x : Read). x.w < 4096) written_within xs reads.each

  module _ (xs : List Read) (reads : AreReadsOver written_at read_at a xs) (order : AllPairs IsUpTo xs) where
    arc_is : (z : Read) → IsIt z → IsGreatest xs z → IsIts (arc_to d.period z)
    arc_is z is greatest = record {
      written = is.written;
      last = λ c reads_arc.
          All-contains (λ (y : Read). is_alike y z ≡ true → y.r ≤ z.r) xs
          (read_over written_at read_at a c z.port z.node) greatest
          (reads.every c z.port z.node reads_arc.reads)
          (alike_by (read_over written_at read_at a c z.port z.node) z reads_arc.unit refl (sym is.written) refl);
      read = (is.c, record { reads = is.reads; unit = is.unit }, is.cycle);
      count = is_count d.period z.w z.r;
      covered = covered_by d.period z.w z.r (read_within z is);
      least = least_count d.period z.w z.r;
    }

    pub arcs_are : IsArcsOver written_at read_at d a (map (arc_to d.period) (lasts xs))
    arcs_are = record {
      order = map_in_order IsLifeBefore IsArcBefore (arc_to d.period) no_read (lasts xs) (arc_before d.period)
          (lasts_in_order xs order);
      each = All-map IsIts (arc_to d.period) (lasts xs)
          (λ k e there. arc_is (get_or (lasts xs) k e) (lasts_keep IsIt xs reads.each k e there)
          (lasts_greatest xs order k e there));
      every = λ c q v reads_v.
          let read = read_over written_at read_at a c q v in
          let has = All-contains (HasLast (lasts xs)) xs read (lasts_every xs) (reads.every c q v reads_v) in
          let k : ℕ = has.there.0 in
          let within : k < length (lasts xs) = has.there.1 in
          let arc : arc_of (map (arc_to d.period) (lasts xs)) k ≡ arc_to d.period has.last =
          get_or-map (arc_to d.period) (lasts xs) k has.last no_arc within ∙ ap (arc_to d.period) has.there.2
          in (
            k,
            subst (λ (n : ℕ). k < n) (sym (length-map (lasts xs) (arc_to d.period))) within,
            record {
              node = ap (λ (x : Arc). x.node) arc ∙ sym (alike_node read has.last has.alike);
              port_is = ap (λ (x : Arc). x.port) arc
                  ∙ sym (same_port read.unit has.last.unit read.port has.last.port (alike_unit read has.last has.alike)
                  (alike_port read has.last has.alike));
            },
          );
    }

-- what the reads are, their order does not change
pub reads_moved : (written_at : (v : ℕ) → ℕ) (read_at : (v c q : ℕ) → ℕ) (a : Assigned) (xs ys : List Read)
    → AreSame xs ys
    → AreReadsOver written_at read_at a xs
    → AreReadsOver written_at read_at a ys
reads_moved written_at read_at a xs ys same reads = record {
  each = λ i e there.
      All-contains (IsReadOver written_at read_at a) xs (get_or ys i e) reads.each (same.known i e there);
  every = λ c q v reads_v.
      All-contains (Contains ys) xs (read_over written_at read_at a c q v) same.kept (reads.every c q v reads_v);
}

-- where one sample is in flight at a time
module _ (d : Datapath) (a : Assigned) (s : Schedule) (placed : IsPlacement d a s)
    (ended : (v : ℕ) → v < length a.lowered.nodes → cycle_of s v + latency_of d a v ≤ d.period) where
  pub in_period : (x : Read) → IsRead d a s x → x.w < 4096
  in_period x is =
      let there = placed.operands is.c x.port x.node is.reads in
      omega (arith, ended x.node there, placed.latencies x.node there, is.written, placed.period)

  pub in_samples : (x : Read) → IsRead d a s x → x.r ≤ x.w + 4 * d.period
  in_samples x is =
      let within = ended is.c (reader_there a.lowered.nodes is.c x.port x.node is.reads) in
      let delay = placed.delays is.c x.port x.node is.reads in
      let ago : delay_at a.lowered.nodes is.c x.port * d.period ≤ 3 * d.period = mul-le-mul_right d.period delay in
      let latency = placed.latencies is.c (reader_there a.lowered.nodes is.c x.port x.node is.reads) in
      omega (arith, within, ago, is.cycle, latency)

-- where samples overlap, and each word is read in its own sample
module _ (d : Datapath) (a : Assigned) (s : Schedule) (placed : IsPlacement d a s) (stages : ℕ) (few : stages ≤ 4)
    (some : 0 < d.period)
    (ended : (v : ℕ) → v < length a.lowered.nodes → cycle_of s v + latency_of d a v ≤ stages * d.period)
    (now : (c q v : ℕ) → Reads a.lowered.nodes c q v → delay_at a.lowered.nodes c q ≡ 0) where
  abbrev IsAround : Read → Type 0
  IsAround x = IsReadOver (written_around d a s) (read_around d a s) a x

  pub in_period_around : (x : Read) → IsAround x → x.w < 4096
  in_period_around x is =
      let below = mod-lt (ends d a s x.node) some in
      omega (arith, is.written, below, placed.period)

  pub in_samples_around : (x : Read) → IsAround x → x.r ≤ x.w + 4 * d.period
  in_samples_around x is =
      let within = ended is.c (reader_there a.lowered.nodes is.c x.port x.node is.reads) in
      let all : stages * d.period ≤ 4 * d.period = mul-le-mul_right d.period few in
      let none : delay_at a.lowered.nodes is.c x.port * d.period ≡ 0 * d.period =
      ap (λ (n : ℕ). n * d.period) (now is.c x.port x.node is.reads) in
      omega (arith, within, all, none, is.cycle, is.written)
