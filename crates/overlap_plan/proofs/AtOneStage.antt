-- Over one stage the rules around the period are those of a sample.
use Rattle.std.proofs.Common.{◌≡◌, ℕ, ◌+◌, ◌-◌, ◌*◌, ◌%◌, ◌<◌, ◌≤◌, ◌⊎◌, inl, inr, ⊎_elim, sym, ap, ◌∙◌, subst, arith}
use Rattle.std.proofs.Common.{length, All}
use Rattle.std.proofs.lemmas.Bool.{cases_lt}
use Rattle.std.proofs.lemmas.List.{get_or_past}
use Rattle.std.proofs.lemmas.List.Elements.{All-weaker}
use Rattle.std.proofs.Math.Nat.{mod-eq_of_lt, mul-le-mul_right}
use Rattle.operations.specs.declared.units.PortRef.{PortRef}
use Rattle.datapath.specs.Allowed.{IsDatapath}
use Rattle.datapath.specs.declared.types.Unit.{Unit as FunctionalUnit}
use Rattle.datapath.specs.declared.types.Datapath.{Datapath}
use Rattle.plan_core.specs.Hardware.{no_unit, unit_of, latency_on, gap_on}
use Rattle.plan_core.specs.Assigned.{unit_in}
use Rattle.plan_core.specs.Heights.{latency_of}
use Rattle.plan_core.specs.Reservations.{result_on, IsGapApart, IsOneCycle, IsFreeRouteOver, IsFreeRoute, FitsOver}
use Rattle.plan_core.specs.Reservations.{Fits}
use Rattle.plan_core.specs.Reservations.{IsFirstBusOver, IsFirstBus}
use Rattle.plan_core.specs.ListSchedule.{slot_of, cycle_of, ends, IsDestination, IsEarlier, IsTakenBefore, CanIssue}
use Rattle.plan_core.specs.ListSchedule.{IsPlaced, IsListSchedule}
use Rattle.plan_core.specs.Stages.{IsGapAround, IsSameAround, IsInStage, CanIssueInStage, IsPlacedInStage}
use Rattle.plan_core.specs.Stages.{IsStageScheduleOver}
use Rattle.plan_core.specs.declared.schedule.Assigned.{Assigned}
use Rattle.plan_core.specs.declared.schedule.Transfer.{Transfer}
use Rattle.plan_core.specs.declared.schedule.Slot.{Slot}
use Rattle.plan_core.specs.declared.schedule.Schedule.{Schedule}
use Rattle.plan_core.proofs.Distances.{distance_on, distance_back}
use Rattle.plan_core.proofs.OneHeight.{live_of}

-- two issues that end in the period are a gap apart around it where they are so in it
module _ (q gap t u : ℕ) (some : 1 ≤ gap) (of_t : t + gap ≤ q) (of_u : u + gap ≤ q) where
  positive : 0 < q
  positive = omega (arith, some, of_t)

  pub to_apart : IsGapAround q gap t u → IsGapApart gap t u
  to_apart apart =
      ⊎_elim
      (λ (before : u < t).
      inr (omega (arith, before, apart.1, distance_back q positive t u before (omega (arith, of_t, some)))))
      (λ (after : t ≤ u).
      inl (omega (arith, after, apart.0, distance_on q positive t u after (omega (arith, of_u, some)))))
      (cases_lt u t)

  pub of_apart : IsGapApart gap t u → IsGapAround q gap t u
  of_apart (inl after) =
      let at = distance_on q positive t u (omega (arith, after)) (omega (arith, of_u, some)) in
      (omega (arith, at, after), omega (arith, at, after, of_u))
  of_apart (inr before) =
      let at = distance_back q positive t u (omega (arith, before, some)) (omega (arith, of_t, some)) in
      (omega (arith, at, before, of_t), omega (arith, at, before))

-- the next operation may begin after a cycle or more, and no later than the result is there
pub gaps_of : (d : Datapath) → IsDatapath d → (u : ℕ) → (1 ≤ gap_on d u) × (gap_on d u ≤ latency_on d u)
gaps_of d path u =
    ⊎_elim (λ h. (path.units u no_unit h).gap) (λ h. past (get_or_past d.units u no_unit h))
    (cases_lt u (length d.units))
  where
    past : unit_of d u ≡ no_unit → (1 ≤ gap_on d u) × (gap_on d u ≤ latency_on d u)
    past e =
        let gap = ap (λ (x : FunctionalUnit). x.gap) e in
        let latency = ap (λ (x : FunctionalUnit). x.latency) e in
        (omega (arith, gap), omega (arith, gap, latency))

module _ (d : Datapath) (path : IsDatapath d) where
  live : (u : ℕ) → 1 ≤ latency_on d u
  live u = live_of d path u

  -- a table whose operations end in the period
  module _ (IsTaken : (unit : ℕ) → Slot → Type 0)
      (early : (u : ℕ) (slot : Slot) → IsTaken u slot → slot.cycle + latency_on d u ≤ d.period) where
    to_one : (u w : ℕ) (slot : Slot)
        → IsTaken u slot
        → w < d.period
        → result_on d u slot.cycle ≡ w
        → IsSameAround d.period (result_on d u slot.cycle) w
    to_one u w slot taken small same = ap (λ (n : ℕ). n % d.period) same

    of_one : (u w : ℕ) (slot : Slot)
        → IsTaken u slot
        → w < d.period
        → IsSameAround d.period (result_on d u slot.cycle) w
        → result_on d u slot.cycle ≡ w
    of_one u w slot taken small same =
        let ended = early u slot taken in
        sym (mod-eq_of_lt (omega (arith, ended, live u))) ∙ same ∙ mod-eq_of_lt small

    abbrev RouteAround : (u w : ℕ) → PortRef → (b : ℕ) → Type 0
    RouteAround u w port b =
        IsFreeRouteOver (IsGapAround d.period) (IsSameAround d.period) d IsTaken u w port b

    route_to : (u w : ℕ) (port : PortRef) (b : ℕ)
        → w < d.period
        → RouteAround u w port b
        → IsFreeRoute d IsTaken u w port b
    route_to u w port b small f = record {
      route = f.route;
      free = λ x slot taken same. f.free x slot taken (to_one x w slot taken small same);
    }

    route_of : (u w : ℕ) (port : PortRef) (b : ℕ)
        → w < d.period
        → IsFreeRoute d IsTaken u w port b
        → RouteAround u w port b
    route_of u w port b small f = record {
      route = f.route;
      free = λ x slot taken same. f.free x slot taken (of_one x w slot taken small same);
    }

    pub bus_to : (u w : ℕ) (transfer : Transfer)
        → w < d.period
        → IsFirstBusOver (IsGapAround d.period) (IsSameAround d.period) d IsTaken u w transfer
        → IsFirstBus d IsTaken u w transfer
    bus_to u w transfer small f = record {
      route = route_to u w transfer.port transfer.bus small f.route;
      first = λ b less r. f.first b less (route_of u w transfer.port b small r);
    }

    pub bus_of : (u w : ℕ) (transfer : Transfer)
        → w < d.period
        → IsFirstBus d IsTaken u w transfer
        → IsFirstBusOver (IsGapAround d.period) (IsSameAround d.period) d IsTaken u w transfer
    bus_of u w transfer small f = record {
      route = route_of u w transfer.port transfer.bus small f.route;
      first = λ b less r. f.first b less (route_to u w transfer.port b small r);
    }

    module _ (IsTo : PortRef → Type 0) (u t : ℕ) where
      abbrev w : ℕ
      w = result_on d u t

      pub fits_to : FitsOver (IsGapAround d.period) (IsSameAround d.period) d IsTaken (1 * d.period) IsTo u t
          → Fits d IsTaken IsTo u t
      fits_to f =
          let small : w < d.period = omega (arith, f.period, live u) in
          record {
            period = omega (arith, f.period);
            unit = λ slot taken.
                to_apart d.period (gap_on d u) slot.cycle t (gaps_of d path u).0
                (omega (arith, early u slot taken, (gaps_of d path u).1))
                (omega (arith, f.period, (gaps_of d path u).1))
                (f.unit slot taken);
            files = λ port is_to x slot taken same.
                f.files port is_to x slot taken (to_one x w slot taken small same);
            buses = λ port is_to. let b = f.buses port is_to in (b.0, route_to u w port b.0 small b.1);
          }

      pub fits_of : Fits d IsTaken IsTo u t
          → FitsOver (IsGapAround d.period) (IsSameAround d.period) d IsTaken (1 * d.period) IsTo u t
      fits_of f =
          let small : w < d.period = omega (arith, f.period, live u) in
          record {
            period = omega (arith, f.period);
            unit = λ slot taken.
                of_apart d.period (gap_on d u) slot.cycle t (gaps_of d path u).0
                (omega (arith, early u slot taken, (gaps_of d path u).1))
                (omega (arith, f.period, (gaps_of d path u).1))
                (f.unit slot taken);
            files = λ port is_to x slot taken same.
                f.files port is_to x slot taken (of_one x w slot taken small same);
            buses = λ port is_to. let b = f.buses port is_to in (b.0, route_of u w port b.0 small b.1);
          }

  -- a schedule; what is loaded was stored in an earlier sample
  module _ (a : Assigned) (s : Schedule) (Loads : (v x ago : ℕ) → Type 0)
      (older : (v x ago : ℕ) → Loads v x ago → 0 < ago) where
    module _ (h : ℕ → ℕ) (v : ℕ)
        (early : (x : ℕ) → IsEarlier a h v x → cycle_of s x + latency_of d a x ≤ d.period) where
      taken_early : (u : ℕ) (slot : Slot) → IsTakenBefore a s h v u slot → slot.cycle + latency_on d u ≤ d.period
      taken_early u slot taken =
          let at = early taken.x taken.earlier in
          subst (λ (n : ℕ). slot.cycle + latency_on d n ≤ d.period) taken.unit
          (subst (λ (z : Slot). z.cycle + latency_of d a taken.x ≤ d.period) taken.its_slot at)

      in_stage : (t : ℕ) → t + latency_of d a v ≤ d.period → IsInStage 1 Loads d a s h v t
      in_stage t fits = record {
        again = omega (arith, fits, (gaps_of d path (unit_in a.units v)).1);
        input = λ e. omega (arith, fits, live (unit_in a.units v));
        output = λ e. omega (arith, live (unit_in a.units v));
        stores = λ x ago loads earlier.
            let some : 1 * d.period ≤ ago * d.period = mul-le-mul_right d.period (older v x ago loads) in
            omega (arith, fits, some);
        loads = λ x ago loads earlier.
            let some : 1 * d.period ≤ ago * d.period = mul-le-mul_right d.period (older x v ago loads) in
            omega (arith, early x earlier, some);
      }

      can_to : (t : ℕ) → CanIssueInStage 1 Loads d a s h v t → CanIssue d a s h v t
      can_to t can = record {
        operands = can.operands;
        fits = fits_to (IsTakenBefore a s h v) taken_early (IsDestination a v) (unit_in a.units v) t can.fits;
        allows = tt {0};
      }

      can_of : (t : ℕ) → CanIssue d a s h v t → CanIssueInStage 1 Loads d a s h v t
      can_of t can = record {
        operands = can.operands;
        fits = fits_of (IsTakenBefore a s h v) taken_early (IsDestination a v) (unit_in a.units v) t can.fits;
        allows = in_stage t can.fits.period;
      }

      ends_small : cycle_of s v + latency_of d a v ≤ d.period → ends d a s v < d.period
      ends_small fits = omega (arith, fits, live (unit_in a.units v))

      pub placed_to : IsPlacedInStage 1 Loads d a s h v → IsPlaced d a s h v
      placed_to p = record {
        can = can_to (cycle_of s v) p.can;
        least = λ t less can. p.least t less (can_of t can);
        destinations = p.destinations;
        buses = All-weaker
            (IsFirstBusOver (IsGapAround d.period) (IsSameAround d.period) d (IsTakenBefore a s h v)
            (unit_in a.units v) (ends d a s v))
            (IsFirstBus d (IsTakenBefore a s h v) (unit_in a.units v) (ends d a s v))
            (λ transfer. bus_to (IsTakenBefore a s h v) taken_early (unit_in a.units v) (ends d a s v) transfer
            (ends_small (omega (arith, p.can.fits.period))))
            (slot_of s v).transfers p.buses;
      }

      pub placed_of : IsPlaced d a s h v → IsPlacedInStage 1 Loads d a s h v
      placed_of p = record {
        can = can_of (cycle_of s v) p.can;
        least = λ t less can. p.least t less (can_to t can);
        destinations = p.destinations;
        buses = All-weaker
            (IsFirstBus d (IsTakenBefore a s h v) (unit_in a.units v) (ends d a s v))
            (IsFirstBusOver (IsGapAround d.period) (IsSameAround d.period) d (IsTakenBefore a s h v)
            (unit_in a.units v) (ends d a s v))
            (λ transfer. bus_of (IsTakenBefore a s h v) taken_early (unit_in a.units v) (ends d a s v) transfer
            (ends_small p.can.fits.period))
            (slot_of s v).transfers p.buses;
      }

    pub scheduled_to : IsStageScheduleOver 1 Loads d a s → IsListSchedule d a s
    scheduled_to is = record {
      height = is.height;
      heights = is.heights;
      count = is.count;
      placed = λ v there.
          placed_to is.height v (λ x e. omega (arith, (is.placed x e.node).can.fits.period)) (is.placed v there);
    }

    pub scheduled_of : IsListSchedule d a s → IsStageScheduleOver 1 Loads d a s
    scheduled_of is = record {
      height = is.height;
      heights = is.heights;
      count = is.count;
      placed = λ v there.
          placed_of is.height v (λ x e. (is.placed x e.node).can.fits.period) (is.placed v there);
    }
