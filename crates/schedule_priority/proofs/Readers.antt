-- The ports that read a node.
use Rattle.std.proofs.Common.{Result, Ok, Err, ◌≡◌, ◌≢◌, ◌∙◌, ◌↔◌, ◌⊎◌, refl, sym, ap, ap₂, subst, arith, inl, inr}
use Rattle.std.proofs.Common.{⊎_elim, ℕ, ◌+◌, ◌/◌, ◌%◌, ◌<◌, ◌≤◌, List, length, All, Contains, get_or-set_same}
use Rattle.std.proofs.Common.{get_or-set_other}
use Rattle.std.specs.Prelude.{slice_index_or, slice_set, OnOk, OnErr}
use Rattle.std.proofs.lemmas.Bool.{cases_lt, cases_eq}
use Rattle.std.proofs.lemmas.List.{length-set, get_or_read}
use Rattle.bit_sets.specs.Bits.{Has}
use Rattle.bit_sets.specs.Sets.{none_of_128}
use Rattle.bit_sets.specs.declared.set128.Set128.{Set128}
use Rattle.operations.specs.declared.units.PortRef.{PortRef}
use Rattle.datapath.specs.declared.types.Datapath.{Datapath}
use Rattle.plan_core.specs.Hardware.{port_of}
use Rattle.plan_core.specs.Operands.{node_of, edge_of, Reads}
use Rattle.plan_core.specs.Assigned.{unit_in}
use Rattle.plan_core.specs.ListSchedule.{IsDestination, AreDestinations}
use Rattle.plan_core.specs.declared.schedule.Assigned.{Assigned}
use Rattle.plan_core.proofs.Readers.{reader_there}
use Rattle.schedule_priority.specs.Problem.{IsProblem}
use Rattle.schedule_priority.specs.Private.Ports.{place, port_in, IsPortOf, ArePortsOf}
use Rattle.schedule_priority.specs.Private.Destinations.{set_at, IsReadBefore, AreReaders, IsReaderSet, AreReadersOf}
use Rattle.schedule_priority.specs.Private.Destinations.{IsReadAt, AddsReads}
use Rattle.schedule_priority.proofs.Problems.{edges_few}

module _ (a : Assigned) where
  pub readers_more : (c k : ℕ) (old new : List Set128)
      → k ≡ length (node_of a.lowered.nodes c).edges
      → AreReaders a c old
      → AddsReads a c k old new
      → AreReaders a (c + 1) new
  readers_more c k old new k_is before adds = record {
    count = adds.count ∙ before.count;
    sets = λ v j there.
        let n = before.count in
        let step = adds.sets v j (omega arith) in
        let was = before.sets v j there in (
          λ h. ⊎_elim
              (λ (x : Has (set_at old v) j).
              let r = was.0 x in
              let less = r.early in
              record { c = r.c; early = omega arith; q = r.q; reads = r.reads; is = r.is })
              (λ (x : IsReadAt a c k v j).
              record { c = c; early = omega arith; q = x.q; reads = x.reads; is = x.is })
              (step.0 h),
          λ h. step.1 (⊎_elim
              (λ (less : h.c < c). inl (was.1 (record { c = h.c; early = less; q = h.q; reads = h.reads; is = h.is })))
              (λ (past : c ≤ h.c).
              let early = h.early in
              let at : h.c ≡ c = omega arith in
              inr (read_last v j h at))
              (cases_lt h.c c)),
        );
  }
    where
      read_last : (v j : ℕ) → (h : IsReadBefore a (c + 1) v j) → h.c ≡ c → IsReadAt a c k v j
      read_last v j h at =
          let r = subst (λ (x : ℕ). Reads a.lowered.nodes x h.q v) at h.reads in
          let port = r.port in
          record {
            q = h.q;
            early = omega arith;
            reads = r;
            is = h.is ∙ ap (λ (x : ℕ). place (unit_in a.units x) h.q) at;
          }

  module _ (c k x : ℕ) (first old : List Set128) (item more : Set128) (before : AddsReads a c k first old)
      (reads : Reads a.lowered.nodes c k x) (inside : x < length old) (item_is : item ≡ slice_index_or old x item)
      (with_port : (j : ℕ) → Has more.bits j ↔ (Has item.bits j ⊎ (j ≡ place (unit_in a.units c) k))) where
    abbrev new : List Set128
    new = slice_set old x more

    later : (v j : ℕ) → IsReadAt a c k v j → IsReadAt a c (k + 1) v j
    later v j r = let e = r.early in record { q = r.q; early = omega arith; reads = r.reads; is = r.is }

    read_here : (j : ℕ) → j ≡ place (unit_in a.units c) k → IsReadAt a c (k + 1) x j
    read_here j e = record { q = k; early = omega arith; reads = reads; is = e }

    earlier_or_here : (v j : ℕ)
        → (r : IsReadAt a c (k + 1) v j)
        → IsReadAt a c k v j ⊎ ((v ≡ x) × (j ≡ place (unit_in a.units c) k))
    earlier_or_here v j r =
        let e = r.early in
        ⊎_elim (λ (less : r.q < k). inl (record { q = r.q; early = less; reads = r.reads; is = r.is }))
        (λ (past : k ≤ r.q).
        let at : r.q ≡ k = omega arith in
        inr (
          sym r.reads.node ∙ ap (λ (q : ℕ). (edge_of (node_of a.lowered.nodes c) q).node) at ∙ reads.node,
          r.is ∙ ap (λ (q : ℕ). place (unit_in a.units c) q) at,
        ))
        (cases_lt r.q k)

    now_here : set_at new x ≡ more.bits
    now_here = ap (λ (s : Set128). s.bits) (get_or-set_same old x more none_of_128 inside)

    was_here : item.bits ≡ set_at old x
    was_here = ap (λ (s : Set128). s.bits) (get_or_read old x item inside item_is none_of_128)

    at_x : (j : ℕ) → x < length first → Has (set_at new x) j ↔ (Has (set_at first x) j ⊎ IsReadAt a c (k + 1) x j)
    at_x j less =
        let step = before.sets x j less in (
          λ h. ⊎_elim
              (λ (i : Has item.bits j). ⊎_elim (λ (f : Has (set_at first x) j). inl f)
              (λ (r : IsReadAt a c k x j). inr (later x j r))
              (step.0 (subst (λ (s : ℕ). Has s j) was_here i)))
              (λ (e : j ≡ place (unit_in a.units c) k). inr (read_here j e))
              ((with_port j).0 (subst (λ (s : ℕ). Has s j) now_here h)),
          λ h. subst (λ (s : ℕ). Has s j) (sym now_here) ((with_port j).1 (⊎_elim
              (λ (f : Has (set_at first x) j). inl (subst (λ (s : ℕ). Has s j) (sym was_here) (step.1 (inl f))))
              (λ (r : IsReadAt a c (k + 1) x j). ⊎_elim
              (λ (b : IsReadAt a c k x j). inl (subst (λ (s : ℕ). Has s j) (sym was_here) (step.1 (inr b))))
              (λ (e : (x ≡ x) × (j ≡ place (unit_in a.units c) k)). inr e.1)
              (earlier_or_here x j r))
              h)),
        )

    elsewhere : (v j : ℕ)
        → v ≢ x
        → v < length first
        → Has (set_at new v) j ↔ (Has (set_at first v) j ⊎ IsReadAt a c (k + 1) v j)
    elsewhere v j other less =
        let step = before.sets v j less in
        let same : set_at new v ≡ set_at old v =
        ap (λ (s : Set128). s.bits) (get_or-set_other old x v more none_of_128 other) in (
          λ h. ⊎_elim (λ (f : Has (set_at first v) j). inl f) (λ (r : IsReadAt a c k v j). inr (later v j r))
              (step.0 (subst (λ (s : ℕ). Has s j) same h)),
          λ h. subst (λ (s : ℕ). Has s j) (sym same) (⊎_elim
              (λ (f : Has (set_at first v) j). step.1 (inl f))
              (λ (r : IsReadAt a c (k + 1) v j). ⊎_elim
              (λ (b : IsReadAt a c k v j). step.1 (inr b))
              (λ (e : (v ≡ x) × (j ≡ place (unit_in a.units c) k)). absurd (other e.0))
              (earlier_or_here v j r))
              h),
        )

    pub adds_more : AddsReads a c (k + 1) first new
    adds_more = record {
      count = length-set old x more ∙ before.count;
      sets = λ v j less. ⊎_elim
          (λ (e : v ≡ x). subst (λ (w : ℕ). Has (set_at new w) j ↔ (Has (set_at first w) j ⊎ IsReadAt a c (k + 1) w j))
          (sym e) (at_x j (let l = before.count in omega arith)))
          (λ (other : v ≢ x). elsewhere v j other less)
          (cases_eq v x);
    }

  -- the same, as the code has it
  pub adds_step : (c k x : ℕ) (first old : List Set128) (item more : Set128) (unit : ℕ)
      → AddsReads a c k first old
      → Reads a.lowered.nodes c k x
      → x < length old
      → item ≡ slice_index_or old x item
      → unit ≡ unit_in a.units c
      → ((j : ℕ) → Has more.bits j ↔ (Has item.bits j ⊎ (j ≡ place unit k)))
      → AddsReads a c (k + 1) first (slice_set old x more)
  adds_step c k x first old item more unit before reads inside item_is unit_is with_port =
      adds_more c k x first old item more before reads inside item_is
      (subst (λ (u : ℕ). (j : ℕ) → Has more.bits j ↔ (Has item.bits j ⊎ (j ≡ place u k))) unit_is with_port)

same_place : (u p w q : ℕ) → p < 3 → q < 3 → place u p ≡ place w q → (u ≡ w) × (p ≡ q)
same_place u p w q a b e = (omega arith, omega arith)

port_back : (u q : ℕ) → q < 3 → port_in (place u q) ≡ port_of u q
port_back u q few =
    let unit : place u q / 3 ≡ u = omega arith in
    let port : place u q % 3 ≡ q = omega arith in
    ap₂ (λ (x y : ℕ). port_of x y) unit port

module _ (d : Datapath) (a : Assigned) (is : IsProblem d a) (v set : ℕ) (readers : IsReaderSet a v set) where
  few : (c q : ℕ) → Reads a.lowered.nodes c q v → q < 3
  few c q r =
      let most = edges_few d a is c (reader_there a.lowered.nodes c q v r) in let port = r.port in omega arith

  read_by : (p : PortRef) → IsPortOf set p → IsDestination a v p
  read_by p h =
      let r = (readers (place p.unit p.port)).0 h.there in
      let same = same_place p.unit p.port (unit_in a.units r.c) r.q h.number (few r.c r.q r.reads) r.is in
      record {
        consumer = r.c;
        reads = subst (λ (q : ℕ). Reads a.lowered.nodes r.c q v) (sym same.1) r.reads;
        unit = sym same.0;
      }

  each_reads : (ports : List PortRef) → All (IsPortOf set) ports → All (IsDestination a v) ports
  each_reads ports each i p less = read_by (slice_index_or ports i p) (each i p less)

  destinations_are : (ports : List PortRef) → ArePortsOf set ports → AreDestinations a v ports
  destinations_are ports are = record {
    order = are.order;
    read = each_reads ports are.each;
    every = λ c q r.
        subst (Contains ports) (port_back (unit_in a.units c) q (few c q r))
        (are.every (place (unit_in a.units c) q) ((readers (place (unit_in a.units c) q)).1 (record {
          c = c;
          early = reader_there a.lowered.nodes c q v r;
          q = q;
          reads = r;
          is = refl;
        })));
  }

-- the set of the ports that read the node, as the code reads it
reader_set : (a : Assigned) (list : List Set128) (v : ℕ) (item : Set128)
    → AreReaders a (length a.lowered.nodes) list
    → v < length a.lowered.nodes
    → item ≡ slice_index_or list v item
    → IsReaderSet a v item.bits
reader_set a list v item readers there is j =
    let n = readers.count in
    subst (λ (s : Set128). Has s.bits j ↔ IsReadBefore a (length a.lowered.nodes) v j)
    (sym (get_or_read list v item (omega arith) is none_of_128)) (readers.sets v j there)

module _ (a : Assigned) (list : List Set128) (are : AreReadersOf a list) (v : ℕ)
    (there : v < length a.lowered.nodes) where
  pub set_there : v < length list
  set_there = let count = are.readers.count in omega (arith, there, count)

  module _ (item : Set128) (item_is : item ≡ slice_index_or list v item) where
    readers : IsReaderSet a v item.bits
    readers = reader_set a list v item are.readers there item_is

    -- the ports of the set of a node are its destinations
    pub listed : {A E : Type 0} (r : Result A E) (ports : List PortRef)
        → OnOk r (ArePortsOf item.bits ports)
        → OnOk r (AreDestinations a v ports)
    listed (Ok x) ports h = destinations_are are.problem.0 a are.problem.1 v item.bits readers ports h
    listed (Err e) ports h = tt

    -- and some of them are some
    pub some_listed : {A E : Type 0} (r : Result A E) (ports : List PortRef)
        → OnErr r (All (IsPortOf item.bits) ports)
        → OnErr r (All (IsDestination a v) ports)
    some_listed (Ok x) ports h = tt
    some_listed (Err e) ports h = each_reads are.problem.0 a are.problem.1 v item.bits readers ports h
