-- A modulo table: what an operation takes, it takes around the period.
use Rattle.std.proofs.Common.{◌≡◌, ◌≢◌, ◌∙◌, ℕ, ◌+◌, ◌-◌, ◌*◌, ◌/◌, ◌%◌, ◌<◌, ◌≤◌, ◌⊎◌, ◌↔◌, List, [], ◌∷◌, ◌++◌}
use Rattle.std.proofs.Common.{length, map, get_or, arith, sym, ap, subst, refl, ⊎_elim, inl, inr}
use Rattle.std.specs.List.{All}
use Rattle.std.proofs.lemmas.Bool.{cases_eq, cases_lt}
use Rattle.std.proofs.Math.Nat.{mod-lt, mod-mod, mod-eq_of_lt, mod-add-mod, add-mod_right}
use Rattle.operations.specs.declared.units.PortRef.{PortRef}
use Rattle.datapath.specs.declared.types.Datapath.{Datapath}
use Rattle.plan_core.specs.Hardware.{latency_on, gap_on}
use Rattle.plan_core.specs.Reservations.{result_on, IsUnitFreeOver, IsFirstBusOver}
use Rattle.plan_core.specs.Stages.{distance, IsGapAround, IsSameAround}
use Rattle.plan_core.specs.declared.schedule.Transfer.{Transfer}
use Rattle.plan_core.proofs.Distances.{at_distance, distance_is, gap_later, gap_before, cases_gap}
use Rattle.bus_alloc.specs.Sets.{mark}
use Rattle.bus_alloc.specs.Private.Rows.{IsOpen, IsFirstOpen, IsFirstOpenAt, IsFirstOpenAround, unit_row}
use Rattle.bus_alloc.specs.Private.Rows.{IsFirstOpenAfter}
use Rattle.std.specs.Prelude.{Some}
use Rattle.bus_alloc.specs.Private.Taking.{IsFirstTransfer, TakesAllAround}
use Rattle.bus_alloc.specs.Private.Stands.{StandsAround, AreRowsAround, place_around}
use Rattle.bus_alloc.specs.Table.{Placed, Reservations, IsTaken, with_placed, HasPort, FitsAround, IsFirstFitAround}
use Rattle.bus_alloc.specs.Table.{AreTransfersAround}
use Rattle.bus_alloc.specs.declared.rows.Rows.{Rows}
use Rattle.bus_alloc.proofs.Growing.{one_placed, unit_free, takes_rows, stands_grown}
use Rattle.bus_alloc.proofs.Standing.{latency_some, open_fits, fits_open, first_bus_of, ports_in, transfers_in}

-- Cycles that are inserted on either side of one, around the period.

-- marks that change at one cycle at most
pub record Marks (old new : List ℕ) (at : ℕ) : Type 0 where
  pub same : mark new at ≡ 1
  pub others : (c : ℕ) → c ≢ at → mark new c ≡ mark old c

-- the cycles less than so far away are marked, and no others are changed
pub record AreMarkedAround (period away cycle : ℕ) (old new : List ℕ) : Type 0 where
  pub near : (c : ℕ) → c < period → ¬ IsGapAround period away cycle c → mark new c ≡ 1
  pub far : (c : ℕ) → c < period → IsGapAround period away cycle c → mark new c ≡ mark old c

pub none_around : (period cycle : ℕ) (words : List ℕ) → 0 < period → AreMarkedAround period 0 cycle words words
none_around period cycle words some = record {
  near = λ c small near.
      absurd (near (omega arith, (let less = mod-lt (c + (period - cycle % period)) some in omega arith)));
  far = λ c small apart. refl;
}

module _ (period away cycle : ℕ) (small : cycle < period) (within : away < period) (base old mid new : List ℕ)
    (before : AreMarkedAround period away cycle base old) (first : Marks old mid ((cycle + away) % period))
    (second : Marks mid new ((cycle + period - away) % period)) where
  some : 0 < period
  some = omega (arith, small)

  kept_one : (c at : ℕ) (a b : List ℕ) → Marks a b at → mark a c ≡ 1 → mark b c ≡ 1
  kept_one c at a b marks one =
      ⊎_elim (λ (same : c ≡ at). ap (mark b) same ∙ marks.same) (λ (other : c ≢ at). marks.others c other ∙ one)
      (cases_eq c at)

  -- the cycle so far on, and the cycle so far back
  on_is : (c : ℕ) → c < period → distance period cycle c ≡ away → c ≡ (cycle + away) % period
  on_is c below at =
      sym (mod-eq_of_lt below) ∙ sym (at_distance period some cycle c) ∙ ap (λ (n : ℕ). (cycle + n) % period) at

  back_is : (c : ℕ) → c < period → distance period cycle c + away ≡ period → c ≡ (cycle + period - away) % period
  back_is c below at =
      sym (mod-eq_of_lt below) ∙ sym (at_distance period some cycle c) ∙ ap (λ (n : ℕ). n % period) there
    where
      there : cycle + distance period cycle c ≡ cycle + period - away
      there = omega (arith, at)

  not_on : (c : ℕ) → away + 1 ≤ distance period cycle c → c ≢ (cycle + away) % period
  not_on c far same =
      let at = distance_is period some cycle ((cycle + away) % period) away within
      (sym (mod-mod (cycle + away) period)) in
      omega (arith, far, at, ap (distance period cycle) same)

  not_back : (c : ℕ) → IsGapAround period (away + 1) cycle c → c ≢ (cycle + period - away) % period
  not_back c far same =
      ⊎_elim
      (λ (none : away < 1).
      let at = distance_is period some cycle ((cycle + period - away) % period) 0 some
      (ap (λ (n : ℕ). n % period) {x = cycle + 0} {y = cycle} (omega arith)
      ∙ sym (add-mod_right cycle period)
      ∙ ap (λ (n : ℕ). n % period) {x = cycle + period} {y = cycle + period - away} (omega arith)
      ∙ sym (mod-mod (cycle + period - away) period)) in
      omega (arith, far.0, at, ap (distance period cycle) same))
      (λ (more : 1 ≤ away).
      let at = distance_is period some cycle ((cycle + period - away) % period) (period - away) (omega arith)
      (ap (λ (n : ℕ). n % period) {x = cycle + (period - away)} {y = cycle + period - away} (omega arith)
      ∙ sym (mod-mod (cycle + period - away) period)) in
      omega (arith, far.1, at, ap (distance period cycle) same))
      (cases_lt away 1)

  pub one_more_around : AreMarkedAround period (away + 1) cycle base new
  one_more_around = record { near = near; far = far }
    where
      near : (c : ℕ) → c < period → ¬ IsGapAround period (away + 1) cycle c → mark new c ≡ 1
      near c below not_far =
          ⊎_elim
          (λ (apart : IsGapAround period away cycle c).
          ⊎_elim
          (λ (less : distance period cycle c < away + 1).
          let at : distance period cycle c ≡ away = omega (arith, less, apart.0) in
          kept_one c ((cycle + period - away) % period) mid new second (ap (mark mid) (on_is c below at) ∙ first.same))
          (λ (more : away + 1 ≤ distance period cycle c).
          ⊎_elim
          (λ (late : period < distance period cycle c + (away + 1)).
          let at : distance period cycle c + away ≡ period = omega (arith, late, apart.1) in
          ap (mark new) (back_is c below at) ∙ second.same)
          (λ (early : distance period cycle c + (away + 1) ≤ period). absurd (not_far (more, early)))
          (cases_lt period (distance period cycle c + (away + 1))))
          (cases_lt (distance period cycle c) (away + 1)))
          (λ (close : IsGapAround period away cycle c → ⊥).
          kept_one c ((cycle + period - away) % period) mid new second
          (kept_one c ((cycle + away) % period) old mid first (before.near c below close)))
          (cases_gap period some away cycle c)

      far : (c : ℕ) → c < period → IsGapAround period (away + 1) cycle c → mark new c ≡ mark base c
      far c below apart =
          second.others c (not_back c apart) ∙ first.others c (not_on c apart.0)
          ∙ before.far c below (omega (arith, apart.0), omega (arith, apart.1))

-- The first open cycle around the period.

module _ (rows : Rows) (u : ℕ) (dests : List PortRef) (from : ℕ) (small : from < rows.period) where
  some_cycles : 0 < rows.period
  some_cycles = omega (arith, small)

  -- so far on from the first cycle, and not yet around
  ahead : (c : ℕ) → from + c < rows.period → (from + c) % rows.period ≡ from + c
  ahead c less = mod-eq_of_lt less

  around : (c : ℕ) → rows.period ≤ from + c → c < rows.period → (from + c) % rows.period ≡ from + c - rows.period
  around c past less =
      ap (λ (n : ℕ). n % rows.period) {x = from + c} {y = from + c - rows.period + rows.period} (omega arith)
      ∙ add-mod_right (from + c - rows.period) rows.period
      ∙ mod-eq_of_lt (omega arith)

  pub open_on : (cycle : ℕ) → IsFirstOpenAt rows u dests from cycle → IsFirstOpenAfter rows u dests from (cycle - from)
  open_on cycle first =
      let after = first.after in
      let at : (from + (cycle - from)) % rows.period ≡ cycle =
      ahead (cycle - from) (omega (arith, first.period, after)) ∙ omega (arith, after) in
      record {
        within = omega (arith, first.period);
        is_open = subst (IsOpen rows u dests) (sym at) first.is_open;
        first = λ c less is_open.
            first.first (from + c) (omega arith) (omega (arith, less, after))
            (subst (IsOpen rows u dests) (ahead c (omega (arith, less, after, first.period))) is_open);
      }

  pub open_behind : (cycle : ℕ)
      → ((c : ℕ) → from ≤ c → c < rows.period → IsOpen rows u dests c → ⊥)
      → IsFirstOpenAt rows u dests 0 cycle
      → IsFirstOpenAfter rows u dests from (cycle + rows.period - from)
  open_behind cycle none first =
      let less : cycle < from =
      ⊎_elim (λ h. h) (λ h. absurd (none cycle h first.period first.is_open)) (cases_lt cycle from) in
      let at : (from + (cycle + rows.period - from)) % rows.period ≡ cycle =
      around (cycle + rows.period - from) (omega (arith, small)) (omega (arith, less, small)) ∙ omega (arith, small) in
      record {
        within = omega (arith, less, small);
        is_open = subst (IsOpen rows u dests) (sym at) first.is_open;
        first = λ c before is_open.
            ⊎_elim
            (λ (on : from + c < rows.period).
            none (from + c) (omega arith) on (subst (IsOpen rows u dests) (ahead c on) is_open))
            (λ (past : rows.period ≤ from + c).
            let small_c : c < rows.period = omega (arith, before, less, small) in
            first.first (from + c - rows.period) (omega arith) (omega (arith, before, past, small))
            (subst (IsOpen rows u dests) (around c past small_c) is_open))
            (cases_lt (from + c) rows.period);
      }

-- The table.

module _ (d : Datapath) (placed : List Placed) (u t w : ℕ) (transfers : List Transfer) (old new : Rows)
    (s : StandsAround d placed old) (within : u < length old.units) (some : 0 < d.period)
    (at_is : w ≡ result_on d u t % d.period) (takes : TakesAllAround old u w transfers new) where
  own_within : u < length d.units
  own_within = omega (arith, s.units)

  abbrev Free : ℕ → Type 0
  Free x =
      IsUnitFreeOver (IsGapAround d.period) (IsSameAround d.period) d
      (IsTaken (placed ++ one_placed u t transfers ∷ [])) u x

  abbrev busy_at : ℕ → ℕ
  busy_at x = mark (unit_row takes.between u).busy.words (result_on d u x % d.period)

  gap_is : (unit_row old u).gap ≡ gap_on d u
  gap_is = (s.unit u own_within).gap

  small : (x : ℕ) → result_on d u x % d.period < old.period
  small x = let below = mod-lt (result_on d u x) some in omega (arith, s.period, below)

  -- the gap of two issues is that of their results' places
  to_places : (x : ℕ)
      → IsGapAround d.period (gap_on d u) t x
      → IsGapAround old.period (unit_row old u).gap w (result_on d u x % d.period)
  to_places x apart =
      let at = gap_later d.period some (gap_on d u) t x (latency_on d u - 1) apart in
      subst (λ (n : ℕ). IsGapAround n (unit_row old u).gap w (result_on d u x % d.period)) (sym s.period)
      (subst (λ (n : ℕ). IsGapAround d.period n w (result_on d u x % d.period)) (sym gap_is)
      (subst (λ (n : ℕ). IsGapAround d.period (gap_on d u) n (result_on d u x % d.period)) (sym at_is) at))

  of_places : (x : ℕ)
      → IsGapAround old.period (unit_row old u).gap w (result_on d u x % d.period)
      → IsGapAround d.period (gap_on d u) t x
  of_places x apart =
      gap_before d.period some (gap_on d u) t x (latency_on d u - 1)
      (subst (λ (n : ℕ). IsGapAround d.period (gap_on d u) n (result_on d u x % d.period)) at_is
      (subst (λ (n : ℕ). IsGapAround d.period n w (result_on d u x % d.period)) gap_is
      (subst (λ (n : ℕ). IsGapAround n (unit_row old u).gap w (result_on d u x % d.period)) s.period apart)))

  free_is : (x : ℕ)
      → Free x
      ↔ (IsUnitFreeOver (IsGapAround d.period) (IsSameAround d.period) d (IsTaken placed) u x
      × (u ≡ u → IsGapAround d.period (gap_on d u) t x))
  free_is x = unit_free (IsGapAround d.period) (IsSameAround d.period) d placed u t transfers u x

  own_busy : (x : ℕ) → Unit {0} → (busy_at x ≡ 0) ↔ Free x
  own_busy x kept =
      ⊎_elim
      (λ (apart : IsGapAround d.period (gap_on d u) t x).
      let same = takes.unit.far (result_on d u x % d.period) (small x) (to_places x apart) in (
        λ zero. (free_is x).1 (((s.unit u own_within).busy x kept).0 (sym same ∙ zero), λ e. apart),
        λ free. same ∙ ((s.unit u own_within).busy x kept).1 ((free_is x).0 free).0,
      ))
      (λ (close : IsGapAround d.period (gap_on d u) t x → ⊥).
      let one = takes.unit.near (result_on d u x % d.period) (small x) (λ apart. close (of_places x apart)) in (
        λ zero. absurd (omega (arith, zero, one)),
        λ free. absurd (close (((free_is x).0 free).1 refl)),
      ))
      (cases_gap d.period some (gap_on d u) t x)

  pub stands_around : StandsAround d (placed ++ one_placed u t transfers ∷ []) new
  stands_around =
      stands_grown d placed u t w transfers old takes.between new s within
      (λ x kept. (λ same. sym same ∙ sym at_is, λ e. sym at_is ∙ sym e)) takes.unit.changes takes.transfers_of own_busy

-- The answers of the table, by its rows.

module _ (r : Reservations) (rows : Rows) (is : AreRowsAround r rows) (u : ℕ) (there : u < length r.datapath.units)
  where
    abbrev d : Datapath
    d = r.datapath

    pub unit_in : u < length rows.units
    unit_in = omega (arith, is.stands.units, there)

    latency_is : (unit_row rows u).latency ≡ latency_on r.datapath u
    latency_is = (is.stands.unit u there).latency

    pub gap_in : gap_on r.datapath u ≤ r.datapath.period → (unit_row rows u).gap ≤ rows.period
    gap_in most = omega (arith, (is.stands.unit u there).gap, is.stands.period, most)

    pub some_period : 0 < r.datapath.period
    some_period = omega (arith, is.stands.path.period.0)

    live : 1 ≤ latency_on r.datapath u
    live = latency_some r.datapath r.placed rows is.stands u unit_in

    -- the place of the result of an operation that is issued at cycle t
    abbrev place_of : ℕ → ℕ
    place_of t = result_on r.datapath u t % r.datapath.period

    pub place_is : (t first : ℕ) → first ≡ (t + (unit_row rows u).latency - 1) % rows.period → first ≡ place_of t
    place_is t first is_first =
        is_first
        ∙ ap (λ (n : ℕ). (t + (unit_row rows u).latency - 1) % n) is.stands.period
        ∙ ap (λ (n : ℕ). n % r.datapath.period) {x = t + (unit_row rows u).latency - 1} {y = result_on r.datapath u t}
        (omega (arith, latency_is, live))

    module _ (end : ℕ) (dests : List PortRef) (ports : All (HasPort r.datapath) dests) where
      opens : (t : ℕ) → FitsAround end r u t dests → IsOpen rows u dests (place_of t)
      opens t fits =
          fits_open r.datapath r.placed rows is.stands u unit_in end t dests
          (ports_in r.datapath r.placed rows is.stands dests ports) tt fits

      fits_where_open : (t : ℕ)
          → t + latency_on r.datapath u ≤ end
          → IsOpen rows u dests (place_of t)
          → FitsAround end r u t dests
      fits_where_open t ends is_open =
          open_fits r.datapath r.placed rows is.stands u unit_in end t dests
          (ports_in r.datapath r.placed rows is.stands dests ports) tt ends is_open

      module _ (from first : ℕ) (first_is : first ≡ place_of from) where
        -- so many cycles later
        place_later : (c : ℕ) → (first + c) % rows.period ≡ place_of (from + c)
        place_later c =
            ap (λ (n : ℕ). (first + c) % n) is.stands.period
            ∙ ap (λ (n : ℕ). (n + c) % r.datapath.period) first_is
            ∙ mod-add-mod (result_on r.datapath u from) r.datapath.period c
            ∙ ap (λ (n : ℕ). n % r.datapath.period) {x = result_on r.datapath u from + c}
            {y = result_on r.datapath u (from + c)} (omega arith)

        pub none_around_period : ((c : ℕ) → c < rows.period → IsOpen rows u dests c → ⊥)
            → (t : ℕ)
            → from ≤ t
            → FitsAround end r u t dests
            → ⊥
        none_around_period none t after fits =
            let below = mod-lt (result_on r.datapath u t) some_period in
            none (place_of t) (omega (arith, below, is.stands.period)) (opens t fits)

        module _ (away : ℕ) (open_after : IsFirstOpenAfter rows u dests first away) where
          -- before the first open cycle nothing fits
          none_earlier : (t : ℕ) → from ≤ t → t < from + away → FitsAround end r u t dests → ⊥
          none_earlier t after less fits =
              open_after.first (t - from) (omega arith)
              (subst (IsOpen rows u dests)
              (sym (place_later (t - from) ∙ ap place_of {x = from + (t - from)} {y = t} (omega arith))) (opens t fits))

          pub first_around : (cycle : ℕ)
              → cycle ≡ from + away
              → cycle + (unit_row rows u).latency ≤ end
              → IsFirstFitAround end r u from dests (Some cycle)
          first_around cycle at ends = record {
            after = omega (arith, at);
            fits = fits_where_open cycle (omega (arith, ends, latency_is))
                (subst (IsOpen rows u dests) (place_later away ∙ ap place_of (sym at)) open_after.is_open);
            first = λ t after less fits. none_earlier t after (omega (arith, less, at)) fits;
          }

          pub late_around : (cycle : ℕ)
              → cycle ≡ from + away
              → end < cycle + (unit_row rows u).latency
              → (t : ℕ)
              → from ≤ t
              → FitsAround end r u t dests
              → ⊥
          late_around cycle at late t after fits =
              ⊎_elim
              (λ (less : t < from + away). none_earlier t after less fits)
              (λ (more : from + away ≤ t).
              absurd (let ends = fits.period in omega (arith, ends, more, late, at, latency_is)))
              (cases_lt t (from + away))

    -- an operation that fits before some end
    module _ (dests : List PortRef) (ports : All (HasPort r.datapath) dests) (t place : ℕ)
        (place_eq : place ≡ place_of t) (fits : (end : ℕ) × FitsAround end r u t dests) where
      pub is_open_around : IsOpen rows u dests place
      is_open_around = subst (IsOpen rows u dests) (sym place_eq) (opens fits.0 dests ports t fits.1)

      pub place_small : place < rows.period
      place_small =
          let below = mod-lt (result_on r.datapath u t) some_period in omega (arith, below, place_eq, is.stands.period)

      module _ (transfers : List Transfer)
          (of_dests : map (λ (transfer : Transfer). transfer.port) transfers ≡ dests)
          (firsts : All (IsFirstTransfer rows u place) transfers) where
        pub transfers_are_around : AreTransfersAround r u t dests transfers
        transfers_are_around = record {
          ports = of_dests;
          buses = λ k x less.
              first_bus_of r.datapath r.placed rows is.stands u unit_in (result_on r.datapath u t)
              (get_or transfers k x)
              (transfers_in rows u place dests transfers (ports_in r.datapath r.placed rows is.stands dests ports)
              of_dests firsts k x less).port tt
              (subst (λ (w : ℕ). IsFirstTransfer rows u w (get_or transfers k x)) place_eq (firsts k x less));
        }

        pub rows_around : (new : Rows)
            → TakesAllAround rows u place transfers new
            → AreRowsAround (with_placed r u t transfers) new
        rows_around new takes = record {
          are = takes_rows rows u place transfers takes.between new is.are takes.unit.changes takes.transfers_of;
          stands = stands_around r.datapath r.placed u t place transfers rows new is.stands unit_in some_period place_eq
              takes;
        }
