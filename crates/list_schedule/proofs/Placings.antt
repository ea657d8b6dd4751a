-- The nodes that are placed so far, and one more.
use Rattle.std.proofs.Common.{◌≡◌, ◌≢◌, ◌∙◌, refl, sym, ap, subst, arith, ℕ, ◌+◌, ◌<◌, ◌≤◌, ◌⊎◌, inl, inr, ⊎_elim, List}
use Rattle.std.proofs.Common.{[], ◌∷◌, ◌++◌, length, max, All, Contains, get_or-set_same, get_or-set_other, Option}
use Rattle.std.proofs.Common.{Some, None}
use Rattle.std.specs.Prelude.{slice_index_or}
use Rattle.std.proofs.lemmas.Bool.{cases_lt, cases_eq}
use Rattle.std.proofs.lemmas.List.{length-set}
use Rattle.std.proofs.lemmas.List.Elements.{Contains-push, Contains-push_cases, Contains-append_left}
use Rattle.operations.specs.declared.units.PortRef.{PortRef}
use Rattle.datapath.specs.declared.types.Datapath.{Datapath}
use Rattle.plan_core.specs.Operands.{node_of, edge_of, delay_at}
use Rattle.plan_core.specs.Assigned.{unit_in}
use Rattle.plan_core.specs.Heights.{ReadsNow, latency_of, AreHeights, IsPlacedBefore}
use Rattle.plan_core.specs.Reservations.{result_on, IsFreeRouteOver, FitsOver, IsFirstBusOver}
use Rattle.plan_core.specs.ListSchedule.{no_slot, slot_of, IsDestination, AreDestinations, IsEarlier, IsTakenBefore}
use Rattle.plan_core.specs.ListSchedule.{CanIssueOver, IsPlacedOver, IsListScheduleOver}
use Rattle.plan_core.specs.Refusals.{IsWithoutCycleOver}
use Rattle.plan_core.specs.declared.schedule.Assigned.{Assigned}
use Rattle.plan_core.specs.declared.schedule.Transfer.{Transfer}
use Rattle.plan_core.specs.declared.schedule.Slot.{Slot}
use Rattle.plan_core.specs.declared.schedule.Schedule.{Schedule}
use Rattle.plan_core.proofs.OneHeight.{live_of}
use Rattle.plan_core.proofs.Agreeing.{operand_earlier, AllowsAlike, placed_same_over, placed_in_over}
use Rattle.plan_core.proofs.Readers.{reader_there}
use Rattle.bus_alloc.specs.Table.{Placed, Reservations, IsTaken, HasPort, FitsAtOver, IsFirstFitOver, AreTransfersOver}
use Rattle.schedule_priority.specs.Problem.{IsProblem}
use Rattle.schedule_priority.specs.Order.{nth}
use Rattle.schedule_priority.proofs.Problems.{operand_in, edges_few, unit_there}
use Rattle.list_schedule.specs.Placing.{slot_at, of_slots, last_cycle, IsReadyAt, IsFirstReady, HasTableOf}
use Rattle.list_schedule.specs.Placing.{IsOpenAtOver, IsShutAtOver, IsFirstOpenOver, PlacesOver, HasNoCycleOver}
use Rattle.list_schedule.specs.Placing.{ArePlacedOver}

-- the first cycle at which the operands at the first k ports are there
pub record IsReadyUpTo (d : Datapath) (a : Assigned) (slots : List Slot) (v k t : ℕ) : Type 0 where
  pub ready : (q x : ℕ) → q < k → ReadsNow a.lowered.nodes v q x → (slot_at slots x).cycle + latency_of d a x ≤ t
  pub first : (c : ℕ) → IsReadyAt d a slots v c → t ≤ c
  pub small : t ≤ last_cycle + 8

module _ (d : Datapath) (a : Assigned) (slots : List Slot) (v : ℕ) where
  module _ (k t : ℕ) (before : IsReadyUpTo d a slots v k t) where
    pub ready_past : (delay_at a.lowered.nodes v k ≡ 0 → ⊥) → IsReadyUpTo d a slots v (k + 1) t
    ready_past late = record {
      ready = λ q x less r.
          ⊎_elim (λ (early : q < k). before.ready q x early r)
          (λ (past : k ≤ q).
          let at : q ≡ k = omega arith in
          absurd (late (sym (ap (delay_at a.lowered.nodes v) at) ∙ r.now)))
          (cases_lt q k);
      first = before.first;
      small = before.small;
    }

    pub ready_more : (x u : ℕ)
        → ReadsNow a.lowered.nodes v k x
        → u ≡ max t ((slot_at slots x).cycle + latency_of d a x)
        → (slot_at slots x).cycle ≤ last_cycle
        → latency_of d a x ≤ 8
        → IsReadyUpTo d a slots v (k + 1) u
    ready_more x u reads is early few = record {
      ready = λ q y less r.
          ⊎_elim (λ (b : q < k). let z = before.ready q y b r in omega arith)
          (λ (past : k ≤ q).
          let at : q ≡ k = omega arith in
          let same : y ≡ x = sym r.reads.node ∙ ap (λ (p : ℕ). (edge_of (node_of a.lowered.nodes v) p).node) at
          ∙ reads.reads.node in
          subst (λ (w : ℕ). (slot_at slots w).cycle + latency_of d a w ≤ u) (sym same) (omega arith))
          (cases_lt q k);
      first = λ c h. (let z = before.first c h in let y = h k x reads in omega arith);
      small = let z = before.small in omega arith;
    }

module _ (d : Datapath) (a : Assigned) (is : IsProblem d a) where
  -- the unit and the ports of a node are in the table
  module _ (v : ℕ) (there : v < length a.lowered.nodes) (ports : List PortRef) (dests : AreDestinations a v ports)
      (slots : List Slot) (r : Reservations) (table : HasTableOf d a slots r) where
    port_known : (port : PortRef) → IsDestination a v port → HasPort d port
    port_known port h =
        let c = reader_there a.lowered.nodes h.consumer port.port v h.reads in
        let u = unit_there d a is h.consumer c in
        let e = h.unit in
        let few = edges_few d a is h.consumer c in
        let q = h.reads.port in
        (omega arith, omega arith)

    pub ports_known : All (HasPort r.datapath) ports
    ports_known i port less =
        subst (λ (x : Datapath). HasPort x (slice_index_or ports i port)) (sym table.path)
        (port_known _ (dests.read i port less))

not_before : (h : ℕ → ℕ) (x y : ℕ) → x ≡ y → IsPlacedBefore h x y → ⊥
not_before h x y e (inl l) = let f = ap h e in absurd (omega arith)
not_before h x y e (inr l) = let i = l.1 in absurd (omega arith)

not_both : (h : ℕ → ℕ) (x y : ℕ) → IsPlacedBefore h x y → IsPlacedBefore h y x → ⊥
not_both h x y (inl l) (inl m) = absurd (omega arith)
not_both h x y (inl l) (inr m) = let e = m.0 in absurd (omega arith)
not_both h x y (inr l) (inl m) = let e = l.0 in absurd (omega arith)
not_both h x y (inr l) (inr m) = let i = l.1 in let j = m.1 in absurd (omega arith)

-- By any rules of the table, where what else is asked of a cycle can be told of the slots of the nodes that
-- have theirs.
module _ (IsAway : (gap t u : ℕ) → Type 0) (IsSame : (w x : ℕ) → Type 0) (end : ℕ)
    (Allows : Schedule → (height : ℕ → ℕ) → (v t : ℕ) → Type 0) (May : List Slot → (v t : ℕ) → Type 0) (d : Datapath)
    (a : Assigned) (is : IsProblem d a) (short : end ≤ last_cycle) (alike : AllowsAlike IsAway IsSame end Allows d a)
    (allows_is : (slots : List Slot) (height : ℕ → ℕ)
    → AreHeights d a height
    → (v : ℕ)
    → v < length a.lowered.nodes
    → (t : ℕ)
    → (May slots v t → Allows (of_slots slots) height v t) × (Allows (of_slots slots) height v t → May slots v t))
  where
    abbrev Taking : Reservations → (unit : ℕ) → Slot → Type 0
    Taking table = IsTaken table.placed

    abbrev Free : (IsTaken : (unit : ℕ) → Slot → Type 0) → (u w : ℕ) → PortRef → (b : ℕ) → Type 0
    Free taken u w port b = IsFreeRouteOver IsAway IsSame d taken u w port b

    abbrev First : (IsTaken : (unit : ℕ) → Slot → Type 0) → (u w : ℕ) → Transfer → Type 0
    First taken u w transfer = IsFirstBusOver IsAway IsSame d taken u w transfer

    abbrev Fitting : (IsTaken : (unit : ℕ) → Slot → Type 0) → (PortRef → Type 0) → (u t : ℕ) → Type 0
    Fitting taken IsTo u t = FitsOver IsAway IsSame d taken end IsTo u t

    abbrev FitsIn : Reservations → (u t : ℕ) → List PortRef → Type 0
    FitsIn table u t ports = FitsAtOver IsAway IsSame end table u t ports

    abbrev Can : Schedule → (height : ℕ → ℕ) → (v t : ℕ) → Type 0
    Can s h v t = CanIssueOver IsAway IsSame end Allows d a s h v t

    abbrev IsPlacedIn : Schedule → (height : ℕ → ℕ) → (v : ℕ) → Type 0
    IsPlacedIn s h v = IsPlacedOver IsAway IsSame end Allows d a s h v

    abbrev Open : List Slot → Reservations → (v : ℕ) → List PortRef → (t : ℕ) → Type 0
    Open slots table v ports t = IsOpenAtOver IsAway IsSame end May d a slots table v ports t

    abbrev Shut : List Slot → Reservations → (v : ℕ) → List PortRef → (t : ℕ) → Type 0
    Shut slots table v ports t = IsShutAtOver IsAway IsSame end May d a slots table v ports t

    abbrev FirstOpen : List Slot → Reservations → (v : ℕ) → List PortRef → Option ℕ → Type 0
    FirstOpen slots table v ports answer = IsFirstOpenOver IsAway IsSame end May d a slots table v ports answer

    abbrev Places : (v : ℕ) → List Slot → Reservations → List Slot → Reservations → Type 0
    Places v slots table new taken_in = PlacesOver IsAway IsSame end May d a v slots table new taken_in

    abbrev HasNoCycle : (v : ℕ) → List Slot → Reservations → Type 0
    HasNoCycle v slots table = HasNoCycleOver IsAway IsSame end May d a v slots table

    abbrev ArePlaced : (order : List ℕ) (k : ℕ) → List Slot → Reservations → Type 0
    ArePlaced order k slots table = ArePlacedOver IsAway IsSame end Allows d a order k slots table

    -- where nothing else is asked of a cycle, the first one from where the operands are there on at which node v fits
    pub first_found : ((slots : List Slot) (v t : ℕ) → May slots v t)
        → (slots : List Slot) (table : Reservations) (v from : ℕ) (ports : List PortRef) (answer : Option ℕ)
        → IsFirstReady d a slots v from
        → IsFirstFitOver IsAway IsSame end table (unit_in a.units v) from ports answer
        → FirstOpen slots table v ports answer
    first_found any slots table v from ports None ready found = λ t h fits may. found t (ready.first t h) fits
    first_found any slots table v from ports (Some t) ready found = record {
      is_open = record {
        ready = λ q x r. (let b = ready.ready q x r in let after = found.after in omega arith);
        fits = found.fits;
        may = any slots v t;
      };
      first = λ c less h fits may. found.first c (ready.first c h) less fits;
    }

    module _ (order : List ℕ) (k : ℕ) (slots : List Slot) (table : Reservations)
        (b : ArePlaced order k slots table) where
      -- what the table says, of this datapath
      fits_here : (u t : ℕ) (ports : List PortRef)
          → FitsIn table u t ports
          → Fitting (IsTaken table.placed) (Contains ports) u t
      fits_here u t ports =
          subst (λ (x : Datapath). FitsOver IsAway IsSame x (IsTaken table.placed) end (Contains ports) u t) b.has.path

      fits_there : (u t : ℕ) (ports : List PortRef)
          → Fitting (IsTaken table.placed) (Contains ports) u t
          → FitsIn table u t ports
      fits_there u t ports =
          subst (λ (x : Datapath). FitsOver IsAway IsSame x (IsTaken table.placed) end (Contains ports) u t)
          (sym b.has.path)

      buses_here : (u t : ℕ) (ports : List PortRef) (transfers : List Transfer)
          → AreTransfersOver IsAway IsSame table u t ports transfers
          → All (First (IsTaken table.placed) u (result_on d u t)) transfers
      buses_here u t ports transfers are =
          subst
          (λ (x : Datapath). All (IsFirstBusOver IsAway IsSame x (IsTaken table.placed) u (result_on x u t)) transfers)
          b.has.path
          are.buses

      -- the nodes before node j of the order are those that are placed before it
      pub earlier_index : (j : ℕ)
          → j < length order
          → (x : ℕ)
          → IsEarlier a b.height (nth order j) x
          → (i : ℕ) × (i < j) × (nth order i ≡ x)
      earlier_index j within x e =
          let at = b.placing.every x e.node in
          ⊎_elim (λ (less : at.0 < j). (at.0, less, at.2))
          (λ (past : j ≤ at.0). absurd (⊎_elim
          (λ (more : j < at.0). not_both b.height x (nth order j) e.before
          (subst (IsPlacedBefore b.height (nth order j)) at.2 (b.placing.before j at.0 more at.1)))
          (λ (same : at.0 ≤ j).
          let i_is : at.0 ≡ j = omega arith in
          not_before b.height x (nth order j) (sym at.2 ∙ ap (nth order) i_is) e.before)
          (cases_lt j at.0)))
          (cases_lt at.0 j)

      index_earlier : (i j : ℕ) → i < j → j < length order → IsEarlier a b.height (nth order j) (nth order i)
      index_earlier i j less within =
          record { node = b.placing.there i (omega arith); before = b.placing.before i j less within }

      module _ (within : k < length order) where
        abbrev v : ℕ
        v = nth order k

        pub next_there : nth order k < length a.lowered.nodes
        next_there = b.placing.there k within

        -- in a schedule in which the nodes before have the same slots
        module _ (z : Schedule) (agree : (x : ℕ) → IsEarlier a b.height v x → slot_at slots x ≡ slot_of z x) where
          pub taken : (u : ℕ) (slot : Slot) → IsTakenBefore a z b.height v u slot → IsTaken table.placed u slot
          taken u slot t =
              let at = earlier_index k within t.x t.earlier in
              let there = b.taken_to at.0 at.1 in
              let unit : unit_in a.units (nth order at.0) ≡ u = ap (unit_in a.units) at.2 ∙ t.unit in
              let its : slot_at slots (nth order at.0) ≡ slot =
              ap (slot_at slots) at.2 ∙ agree t.x t.earlier ∙ t.its_slot in
              subst (λ (w : ℕ). IsTaken table.placed w slot) unit
              (subst (IsTaken table.placed (unit_in a.units (nth order at.0))) its there)

          pub taken_back : (u : ℕ) (slot : Slot) → IsTaken table.placed u slot → IsTakenBefore a z b.height v u slot
          taken_back u slot t =
              let at = b.taken_from u slot t in
              let e = index_earlier at.0 k at.1 within in
              record {
                x = nth order at.0;
                earlier = e;
                unit = at.2;
                its_slot = sym (agree (nth order at.0) e) ∙ at.3;
              }

          route_from : (u w : ℕ) (port : PortRef) (c : ℕ)
              → Free (IsTaken table.placed) u w port c
              → Free (IsTakenBefore a z b.height v) u w port c
          route_from u w port c f = record { route = f.route; free = λ x slot t. f.free x slot (taken x slot t) }

          route_to : (u w : ℕ) (port : PortRef) (c : ℕ)
              → Free (IsTakenBefore a z b.height v) u w port c
              → Free (IsTaken table.placed) u w port c
          route_to u w port c f = record { route = f.route; free = λ x slot t. f.free x slot (taken_back x slot t) }

          bus_from : (u w : ℕ) (x : Transfer)
              → First (IsTaken table.placed) u w x
              → First (IsTakenBefore a z b.height v) u w x
          bus_from u w x f = record {
            route = route_from u w x.port x.bus f.route;
            first = λ c less r. f.first c less (route_to u w x.port c r);
          }

          module _ (ports : List PortRef) (dests : AreDestinations a v ports) where
            dest_in : (port : PortRef) → IsDestination a v port → Contains ports port
            dest_in port h =
                subst (Contains ports) (ap (λ (u : ℕ). record { unit = u; port = port.port }) h.unit)
                (dests.every h.consumer port.port h.reads)

            in_dest : (port : PortRef) → Contains ports port → IsDestination a v port
            in_dest port h = subst (IsDestination a v) h.2 (dests.read h.0 port h.1)

            fits_from : (u t : ℕ)
                → FitsIn table u t ports
                → Fitting (IsTakenBefore a z b.height v) (IsDestination a v) u t
            fits_from u t here =
                let f = fits_here u t ports here in
                record {
                  period = f.period;
                  unit = λ slot x. f.unit slot (taken u slot x);
                  files = λ port h w slot x. f.files port (dest_in port h) w slot (taken w slot x);
                  buses = λ port h. let x = f.buses port (dest_in port h) in
                      (x.0, route_from u (result_on d u t) port x.0 x.1);
                }

            pub fits_to : (u t : ℕ)
                → Fitting (IsTakenBefore a z b.height v) (IsDestination a v) u t
                → FitsIn table u t ports
            fits_to u t f = fits_there u t ports (record {
              period = f.period;
              unit = λ slot x. f.unit slot (taken_back u slot x);
              files = λ port h w slot x. f.files port (in_dest port h) w slot (taken_back w slot x);
              buses = λ port h. let x = f.buses port (in_dest port h) in
                  (x.0, route_to u (result_on d u t) port x.0 x.1);
            })

            operand_same : (q x : ℕ) → ReadsNow a.lowered.nodes v q x → slot_at slots x ≡ slot_of z x
            operand_same q x r =
                agree x
                (operand_earlier d a (live_of d is.path) b.height b.heights v q x (operand_in d a is v q x r.reads) r)

            can_from : (t : ℕ) → Open slots table v ports t → Can z b.height v t
            can_from t o = record {
              operands = λ q x r.
                  subst (λ (slot : Slot). slot.cycle + latency_of d a x ≤ t) (operand_same q x r) (o.ready q x r);
              fits = fits_from (unit_in a.units v) t o.fits;
              allows = alike (of_slots slots) z b.height b.height b.heights b.heights v next_there agree t
                  ((allows_is slots b.height b.heights v next_there t).0 o.may);
            }

            cannot : (t : ℕ) → Shut slots table v ports t → Can z b.height v t → ⊥
            cannot t shut c =
                shut
                (λ q x r. subst (λ (slot : Slot). slot.cycle + latency_of d a x ≤ t) (sym (operand_same q x r))
                (c.operands q x r))
                (fits_to (unit_in a.units v) t c.fits)
                ((allows_is slots b.height b.heights v next_there t).1
                (alike z (of_slots slots) b.height b.height b.heights b.heights v next_there
                (λ x e. sym (agree x e)) t c.allows))

        pub stopped : HasNoCycle v slots table → IsWithoutCycleOver IsAway IsSame end Allows d a v
        stopped none = record {
          height = b.height;
          heights = b.heights;
          there = next_there;
          schedule = of_slots slots;
          before = λ u e.
              let at = earlier_index k within u e in
              subst (IsPlacedIn (of_slots slots) b.height) at.2 (b.each at.0 at.1);
          none = λ t c. cannot (of_slots slots) (λ x e. refl) none.ports none.destinations t (none.none t) c;
        }

        module _ (new : List Slot) (taken_in : Reservations) (places : Places v slots table new taken_in) where
          slot_here : slot_at new v ≡ places.slot
          slot_here =
              ap (λ (xs : List Slot). slot_at xs v) places.slots_are
              ∙ get_or-set_same slots v places.slot no_slot (let c = b.has.count in let t = next_there in omega arith)

          slot_else : (x : ℕ) → x ≢ v → slot_at slots x ≡ slot_at new x
          slot_else x other =
              sym (ap (λ (xs : List Slot). slot_at xs x) places.slots_are
              ∙ get_or-set_other slots v x places.slot no_slot other)

          index_else : (j : ℕ) → j < k → nth order j ≢ v
          index_else j less = λ e. not_before b.height (nth order j) v e (b.placing.before j k less within)

          agrees : (j : ℕ)
              → j < k + 1
              → (x : ℕ)
              → IsEarlier a b.height (nth order j) x
              → slot_at slots x ≡ slot_at new x
          agrees j less x e =
              let at = earlier_index j (omega arith) x e in
              let low = at.1 in
              slot_else x (λ same. index_else at.0 (omega arith) (at.2 ∙ same))

          abbrev z : Schedule
          z = of_slots new

          t_small : places.slot.cycle ≤ last_cycle
          t_small =
              let f = (fits_here (unit_in a.units v) places.slot.cycle places.ports places.cycle.is_open.fits).period in
              omega (arith, f, short)

          here : IsPlacedIn z b.height v
          here =
              let agree = agrees k (omega arith) in
              let u = unit_in a.units v in
              let buses = buses_here u places.slot.cycle places.ports places.slot.transfers places.transfers in
              placed_in_over IsAway IsSame end Allows d a z b.height v places.slot (sym slot_here) (record {
                can = can_from z agree places.ports places.destinations places.slot.cycle places.cycle.is_open;
                least = λ t less c. cannot z agree places.ports places.destinations t (places.cycle.first t less) c;
                destinations = subst (AreDestinations a v) (sym places.transfers.ports) places.destinations;
                buses = λ i x less. bus_from z agree u (result_on d u places.slot.cycle) _ (buses i x less);
              })

          each_more : (j : ℕ) → j < k + 1 → IsPlacedIn z b.height (nth order j)
          each_more j less =
              ⊎_elim
              (λ (early : j < k).
              placed_same_over IsAway IsSame end Allows d a (live_of d is.path) alike (operand_in d a is)
              (of_slots slots) z b.height b.heights
              (nth order j)
              (b.placing.there j (omega arith)) (agrees j less) (slot_else (nth order j) (index_else j early))
              (b.each j early))
              (λ (past : k ≤ j).
              let at : k ≡ j = omega arith in
              subst (λ (i : ℕ). IsPlacedIn z b.height (nth order i)) at here)
              (cases_lt j k)

          abbrev one_more : Placed
          one_more = record { unit = unit_in a.units v; slot = places.slot }

          from_more : (u : ℕ) (slot : Slot)
              → IsTaken (table.placed ++ one_more ∷ []) u slot
              → (j : ℕ) × (j < k + 1) × (unit_in a.units (nth order j) ≡ u) × (slot_at new (nth order j) ≡ slot)
          from_more u slot t =
              ⊎_elim
              (λ (old : IsTaken table.placed u slot).
              let at = b.taken_from u slot old in
              let less = at.1 in
              (at.0, omega arith, at.2, sym (slot_else (nth order at.0) (index_else at.0 at.1)) ∙ at.3))
              (λ (same : one_more ≡ record { unit = u; slot = slot }).
              (k, omega arith, ap (λ (x : Placed). x.unit) same, slot_here ∙ ap (λ (x : Placed). x.slot) same))
              (Contains-push_cases table.placed one_more (record { unit = u; slot = slot }) t)

          to_more : (j : ℕ)
              → j < k + 1
              → IsTaken (table.placed ++ one_more ∷ []) (unit_in a.units (nth order j)) (slot_at new (nth order j))
          to_more j less =
              ⊎_elim
              (λ (early : j < k).
              subst (IsTaken (table.placed ++ one_more ∷ []) (unit_in a.units (nth order j)))
              (slot_else (nth order j) (index_else j early))
              (Contains-append_left table.placed (one_more ∷ []) _ (b.taken_to j early)))
              (λ (past : k ≤ j).
              let at : k ≡ j = omega arith in
              subst (λ (i : ℕ). IsTaken (table.placed ++ one_more ∷ []) (unit_in a.units (nth order i))
              (slot_at new (nth order i))) at
              (subst (IsTaken (table.placed ++ one_more ∷ []) (unit_in a.units v)) (sym slot_here)
              (Contains-push table.placed one_more)))
              (cases_lt j k)

          early_more : (x : ℕ) → (slot_at new x).cycle ≤ last_cycle
          early_more x =
              ⊎_elim
              (λ (same : x ≡ v).
              subst (λ (slot : Slot). slot.cycle ≤ last_cycle) (sym (ap (slot_at new) same ∙ slot_here)) t_small)
              (λ (other : x ≢ v).
              subst (λ (slot : Slot). slot.cycle ≤ last_cycle) (slot_else x other) (b.has.early x))
              (cases_eq x v)

          pub one_placed : ArePlaced order (k + 1) new taken_in
          one_placed = record {
            height = b.height;
            heights = b.heights;
            placing = b.placing;
            has = record {
              count = ap length places.slots_are ∙ length-set slots v places.slot ∙ b.has.count;
              early = early_more;
              path = ap (λ (r : Reservations). r.datapath) places.taken ∙ b.has.path;
            };
            taken_from = λ u slot t.
                from_more u slot (subst (λ (r : Reservations). IsTaken r.placed u slot) places.taken t);
            taken_to = λ j less.
                subst
                (λ (r : Reservations). IsTaken r.placed (unit_in a.units (nth order j)) (slot_at new (nth order j)))
                (sym places.taken) (to_more j less);
            each = each_more;
          }

    -- the same for the order as the code reads it
    module _ (order items : List ℕ) (same : items ≡ order) (k : ℕ) (slots : List Slot) (table : Reservations)
        (b : ArePlaced order k slots table) (within : k < length items) where
      abbrev its : List ℕ → ℕ
      its rs = nth rs k

      inside_order : k < length order
      inside_order = subst (λ (rs : List ℕ). k < length rs) same within

      pub next_in : nth items k < length a.lowered.nodes
      next_in =
          subst (λ (rs : List ℕ). its rs < length a.lowered.nodes) (sym same)
          (next_there order k slots table b inside_order)

      pub goes_on : (new : List Slot) (taken_in : Reservations)
          → Places (nth items k) slots table new taken_in
          → ArePlaced order (k + 1) new taken_in
      goes_on new taken_in h =
          one_placed order k slots table b inside_order new taken_in
          (subst (λ (rs : List ℕ). Places (its rs) slots table new taken_in) same h)

      pub stops : HasNoCycle (nth items k) slots table → IsWithoutCycleOver IsAway IsSame end Allows d a (nth items k)
      stops none =
          subst (λ (rs : List ℕ). IsWithoutCycleOver IsAway IsSame end Allows d a (its rs)) (sym same)
          (stopped order k slots table b inside_order
          (subst (λ (rs : List ℕ). HasNoCycle (its rs) slots table) same none))

    pub all_placed : (order : List ℕ) (k : ℕ) (slots : List Slot) (table : Reservations)
        → length order ≤ k
        → ArePlaced order k slots table
        → IsListScheduleOver IsAway IsSame end Allows d a (of_slots slots)
    all_placed order k slots table all b = record {
      height = b.height;
      heights = b.heights;
      count = b.has.count;
      placed = λ v there.
          let at = b.placing.every v there in
          let less = at.1 in
          subst (IsPlacedIn (of_slots slots) b.height) at.2 (b.each at.0 (omega arith));
    }
