-- The units that lead to each port, bus by bus.
use Rattle.std.proofs.Common.{◌≡◌, ◌≢◌, ◌↔◌, ◌⊎◌, ◌∙◌, sym, ap, subst, refl, arith, inl, inr, ⊎_elim, ℕ, ◌+◌, ◌*◌, ◌<◌}
use Rattle.std.proofs.Common.{◌≤◌, List, length, replicate, slice_index_or, slice_set, slice_get, Contains, IsSomeAnd}
use Rattle.std.proofs.Common.{Option, Some, None, All}
use Rattle.std.proofs.lemmas.Bool.{cases_eq, cases_lt}
use Rattle.std.proofs.lemmas.List.{get_or_default, get_or_read, get_or-set_same, get_or-set_other, length-set}
use Rattle.std.proofs.lemmas.List.{length-replicate, get_or-replicate}
use Rattle.std.proofs.lemmas.Option.{slice_get_within}
use Rattle.operations.proofs.Ports.{few_ports}
use Rattle.datapath.specs.Allowed.{IsPort, IsBus, IsDatapath}
use Rattle.operations.specs.Units.{ports}
use Rattle.operations.specs.declared.units.Kind.{Kind}
use Rattle.operations.specs.declared.units.Kind.TheVariants as kind
use Rattle.datapath.specs.declared.types.Unit.{Unit as FunctionalUnit}
use Rattle.operations.specs.declared.units.PortRef.{PortRef}
use Rattle.datapath.specs.declared.types.Bus.{Bus}
use Rattle.datapath.specs.declared.types.Datapath.{Datapath}
use Rattle.plan_core.specs.Hardware.{port_of, no_bus}
use Rattle.unit_assign.specs.Private.UnitSets.{Has, none_of_32, set_at}
use Rattle.unit_assign.specs.Private.Drivers.{most_ports, most_units, place, Among, AreDriversBefore, AreDrivers}
use Rattle.unit_assign.specs.Private.Drivers.{IsAddedTo, HasPlace}
use Rattle.bit_sets.specs.declared.set32.Set32.{Set32}
use Rattle.bit_sets.proofs.Bits.{has_none}

among_first : {X : Type 0} (xs : List X) (n : ℕ) (y : X) → Among xs n y → Among xs (n + 1) y
among_first xs n y h = (h.0, omega (arith, h.1), h.2)

among_last : {X : Type 0} (xs : List X) (n : ℕ) (x y : X)
    → n < length xs
    → x ≡ slice_index_or xs n x
    → y ≡ x
    → Among xs (n + 1) y
among_last xs n x y less is e = (n, omega arith, sym (get_or_read xs n x less is y) ∙ sym e)

among_split : {X : Type 0} (xs : List X) (n : ℕ) (x y : X)
    → n < length xs
    → x ≡ slice_index_or xs n x
    → Among xs (n + 1) y
    → Among xs n y ⊎ (y ≡ x)
among_split xs n x y less is h =
    ⊎_elim (λ (before : h.0 < n). inl (h.0, before, h.2))
    (λ (after : n ≤ h.0).
    let at : h.0 ≡ n = omega (arith, h.1) in
    inr (sym h.2 ∙ ap (λ (k : ℕ). slice_index_or xs k y) at ∙ sym (get_or_read xs n x less is y)))
    (cases_lt h.0 n)

pub drivers_begin : (xs : List ℕ) (u : ℕ) → Has none_of_32 u ↔ Among xs 0 u
drivers_begin xs u = (λ h. absurd (has_none u h), λ h. absurd (omega (arith, h.1)))

pub drivers_more : (set new : Set32) (xs : List ℕ) (n x : ℕ)
    → n < length xs
    → x ≡ slice_index_or xs n x
    → ((u : ℕ) → Has set u ↔ Among xs n u)
    → ((u : ℕ) → Has new u ↔ (Has set u ⊎ (u ≡ x)))
    → (u : ℕ)
    → Has new u ↔ Among xs (n + 1) u
drivers_more set new xs n x less is old step u = (
  λ h. ⊎_elim (λ (a : Has set u). among_first xs n u ((old u).0 a)) (λ (e : u ≡ x). among_last xs n x u less is e)
      ((step u).0 h),
  λ h. (step u).1 (⊎_elim (λ (a : Among xs n u). inl ((old u).1 a)) (λ (e : u ≡ x). inr e)
      (among_split xs n x u less is h)),
)

port_same : (unit port : ℕ) (p : PortRef) → unit ≡ p.unit → port ≡ p.port → port_of unit port ≡ p
port_same unit port p a b = ap (λ (x : ℕ). port_of x port) a ∙ ap (λ (y : ℕ). port_of p.unit y) b

pub added_begin : (units : Set32) (ports : List PortRef) (sets : List Set32) → IsAddedTo units ports 0 sets sets
added_begin units ports sets = record {
  count = omega arith;
  sets = λ unit port u within few. (
    λ h. inl h,
    λ h. ⊎_elim (λ (x : Has (set_at sets (place unit port)) u). x)
        (λ (x : Among ports 0 (port_of unit port) × Has units u). absurd (omega (arith, x.0.1))) h,
  );
}

module _ (units : Set32) (ports : List PortRef) (n : ℕ) (p : PortRef) (first old : List Set32) (item all : Set32)
    (less : n < length ports) (is : p ≡ slice_index_or ports n p) (fits : HasPlace (length first) p)
    (before : IsAddedTo units ports n first old)
    (item_is : item ≡ slice_index_or old (place p.unit p.port) item)
    (both : (u : ℕ) → Has all u ↔ (Has item u ⊎ Has units u)) where
  inside : place p.unit p.port < length old
  inside = omega (arith, before.count, fits.within)

  item_at : item ≡ set_at old (place p.unit p.port)
  item_at = get_or_read old (place p.unit p.port) item inside item_is none_of_32

  new : List Set32
  new = slice_set old (place p.unit p.port) all

  at_port : (unit port u : ℕ)
      → place unit port < length first
      → port < most_ports
      → place unit port ≡ place p.unit p.port
      → Has (set_at (slice_set old (place p.unit p.port) all) (place unit port)) u
      ↔ (Has (set_at first (place unit port)) u ⊎ (Among ports (n + 1) (port_of unit port) × Has units u))
  at_port unit port u within few e =
      let num = fits.number in
      let same : port_of unit port ≡ p = port_same unit port p (omega arith) (omega arith) in
      let set_is : set_at (slice_set old (place p.unit p.port) all) (place unit port) ≡ all =
      ap (λ (k : ℕ). set_at (slice_set old (place p.unit p.port) all) k) e
      ∙ get_or-set_same old (place p.unit p.port) all none_of_32 inside in
      let was : set_at old (place unit port) ≡ item = ap (λ (k : ℕ). set_at old k) e ∙ sym item_at in
      let now = before.sets unit port u within few in (
        λ h. ⊎_elim
            (λ (a : Has item u). ⊎_elim (λ (b : Has (set_at first (place unit port)) u). inl b)
            (λ (b : Among ports n (port_of unit port) × Has units u).
            inr (among_first ports n (port_of unit port) b.0, b.1))
            (now.0 (subst (λ (s : Set32). Has s u) (sym was) a)))
            (λ (a : Has units u). inr (among_last ports n p (port_of unit port) less is same, a))
            ((both u).0 (subst (λ (s : Set32). Has s u) set_is h)),
        λ h. subst (λ (s : Set32). Has s u) (sym set_is)
            ((both u).1 (⊎_elim
            (λ (a : Has (set_at first (place unit port)) u). inl (subst (λ (s : Set32). Has s u) was (now.1 (inl a))))
            (λ (a : Among ports (n + 1) (port_of unit port) × Has units u). inr a.1) h)),
      )

  at_other : (unit port u : ℕ)
      → place unit port < length first
      → port < most_ports
      → place unit port ≢ place p.unit p.port
      → Has (set_at (slice_set old (place p.unit p.port) all) (place unit port)) u
      ↔ (Has (set_at first (place unit port)) u ⊎ (Among ports (n + 1) (port_of unit port) × Has units u))
  at_other unit port u within few other =
      let set_is : set_at (slice_set old (place p.unit p.port) all) (place unit port) ≡ set_at old (place unit port) =
      get_or-set_other old (place p.unit p.port) (place unit port) all none_of_32 other in
      let now = before.sets unit port u within few in (
        λ h. ⊎_elim (λ (b : Has (set_at first (place unit port)) u). inl b)
            (λ (b : Among ports n (port_of unit port) × Has units u).
            inr (among_first ports n (port_of unit port) b.0, b.1))
            (now.0 (subst (λ (s : Set32). Has s u) set_is h)),
        λ h. subst (λ (s : Set32). Has s u) (sym set_is)
            (now.1 (⊎_elim (λ (a : Has (set_at first (place unit port)) u). inl a)
            (λ (a : Among ports (n + 1) (port_of unit port) × Has units u).
            ⊎_elim (λ (b : Among ports n (port_of unit port)). inr (b, a.1))
            (λ (e : port_of unit port ≡ p). absurd (other (ap (λ (r : PortRef). place r.unit r.port) e)))
            (among_split ports n p (port_of unit port) less is a.0)) h)),
      )

  pub added_more : IsAddedTo units ports (n + 1) first (slice_set old (place p.unit p.port) all)
  added_more = record {
    count = length-set old (place p.unit p.port) all ∙ before.count;
    sets = λ unit port u within few.
        ⊎_elim (at_port unit port u within few) (at_other unit port u within few)
        (cases_eq (place unit port) (place p.unit p.port));
  }

pub routes_begin : (d : Datapath) (count : ℕ)
    → count ≡ length d.units * most_ports
    → AreDriversBefore d 0 (replicate count none_of_32)
routes_begin d count is = record {
  count = length-replicate count none_of_32 ∙ is;
  drivers = λ unit port u there few.
      let set_is : set_at (replicate count none_of_32) (place unit port) ≡ none_of_32 =
      get_or-replicate count (place unit port) none_of_32 none_of_32 (omega arith) in (
        λ h. absurd (has_none u (subst (λ (s : Set32). Has s u) set_is h)),
        λ h. absurd (omega (arith, h.1)),
      );
}

pub routes_more : (d : Datapath) (n : ℕ) (bus : Bus) (units : Set32) (old new : List Set32)
    → n < length d.buses
    → bus ≡ slice_index_or d.buses n bus
    → ((u : ℕ) → Has units u ↔ Contains bus.from u)
    → IsAddedTo units bus.to (length bus.to) old new
    → AreDriversBefore d n old
    → AreDriversBefore d (n + 1) new
routes_more d n bus units old new less is from added before = record {
  count = added.count ∙ before.count;
  drivers = λ unit port u there few.
      let within : place unit port < length old = let c = before.count in omega arith in
      let now = before.drivers unit port u there few in
      let step = added.sets unit port u within few in
      let bus_is : bus ≡ slice_index_or d.buses n no_bus = get_or_read d.buses n bus less is no_bus in (
        λ h. ⊎_elim
            (λ (a : Has (set_at old (place unit port)) u).
            let r = now.0 a in (r.0, omega (arith, r.1), r.2, r.3))
            (λ (a : Contains bus.to (port_of unit port) × Has units u). (
              n,
              omega arith,
              subst (λ (b : Bus). Contains b.from u) bus_is ((from u).0 a.1),
              subst (λ (b : Bus). Contains b.to (port_of unit port)) bus_is a.0,
            ))
            (step.0 h),
        λ h. step.1 (⊎_elim (λ (b : h.0 < n). inl (now.1 (h.0, b, h.2, h.3)))
            (λ (b : n ≤ h.0).
            let at : h.0 ≡ n = omega (arith, h.1) in
            let its : slice_index_or d.buses h.0 no_bus ≡ bus =
            ap (λ (k : ℕ). slice_index_or d.buses k no_bus) at ∙ sym bus_is in
            inr (
              subst (λ (b : Bus). Contains b.to (port_of unit port)) its h.3,
              (from u).1 (subst (λ (b : Bus). Contains b.from u) its h.2),
            ))
            (cases_lt h.0 n)),
      );
}

pub routes_all : (d : Datapath) (n : ℕ) (sets : List Set32)
    → n ≡ length d.buses
    → AreDriversBefore d n sets
    → AreDrivers d sets
routes_all d n sets all before = record {
  count = before.count;
  drivers = λ unit port u there few.
      let now = before.drivers unit port u there few in (
        λ h. let r = now.0 h in (r.0, record { there = omega (arith, r.1); driver = r.2; taker = r.3 }),
        λ h. now.1 (h.0, (let t = h.1.there in omega arith), h.1.driver, h.1.taker),
      );
}

-- port n, as the code reads it
abbrev pub port_at : List PortRef → ℕ → PortRef
port_at ports n = slice_index_or ports n (port_of 0 0)

pub added_step : (units : Set32) (ports : List PortRef) (n q at : ℕ) (first old : List Set32) (item all : Set32)
    → n < length ports
    → HasPlace (length first) (port_at ports n)
    → IsAddedTo units ports n first old
    → q ≡ (port_at ports n).port
    → at ≡ place (port_at ports n).unit q
    → item ≡ slice_index_or old at item
    → ((u : ℕ) → Has all u ↔ (Has item u ⊎ Has units u))
    → IsAddedTo units ports (n + 1) first (slice_set old at all)
added_step units ports n q at first old item all less fits before q_is at_q item_is both =
    let p : PortRef = port_at ports n in
    let is : p ≡ slice_index_or ports n p = get_or_default ports n (port_of 0 0) p less in
    let at_is : at ≡ place p.unit p.port = at_q ∙ ap (λ (r : ℕ). place p.unit r) q_is in
    let read : item ≡ slice_index_or old (place p.unit p.port) item =
    item_is ∙ ap (λ (k : ℕ). slice_index_or old k item) at_is in
    subst (λ (k : ℕ). IsAddedTo units ports (n + 1) first (slice_set old k all)) (sym at_is)
    (added_more units ports n p first old item all less is fits before read both)

pub routes_step :
    (d : Datapath) (n : ℕ) (buses : List Bus) (bus : Bus) (ports : List PortRef) (units : Set32) (old new : List Set32)
    → buses ≡ d.buses
    → n < length buses
    → bus ≡ slice_index_or buses n bus
    → ((u : ℕ) → Has units u ↔ Contains bus.from u)
    → ports ≡ bus.to
    → IsAddedTo units ports (length ports) old new
    → AreDriversBefore d n old
    → AreDriversBefore d (n + 1) new
routes_step d n buses bus ports units old new same less is from to added before =
    routes_more d n bus units old new (subst (λ (bs : List Bus). n < length bs) same less)
    (subst (λ (bs : List Bus). bus ≡ slice_index_or bs n bus) same is) from
    (subst (λ (ps : List PortRef). IsAddedTo units ps (length ps) old new) to added) before

has_place : (units : List FunctionalUnit) (p : PortRef) → IsPort units p → HasPlace (length units * most_ports) p
has_place units p h = by (slice_get units p.unit) (λ x e. slice_get_within units p.unit x e) h
  where
    by : (o : Option FunctionalUnit)
        → ((x : FunctionalUnit) → o ≡ Some x → p.unit < length units)
        → IsSomeAnd o (λ (unit : FunctionalUnit). p.port < ports unit.kind)
        → HasPlace (length units * most_ports) p
    by None within h = absurd h
    by (Some unit) within h =
        let less : p.unit < length units = within unit refl in
        let few = few_ports unit.kind in
        let number : p.port < most_ports = omega (arith, h) in
        record { number = number; within = omega arith }

bus_allowed : (d : Datapath)
    → IsDatapath d
    → (buses : List Bus)
    → buses ≡ d.buses
    → (n : ℕ) (bus : Bus)
    → n < length buses
    → bus ≡ slice_index_or buses n bus
    → IsBus d.units bus
bus_allowed d allowed buses same n bus less is =
    subst (λ (b : Bus). IsBus d.units b) (sym is)
    (subst (λ (bs : List Bus). IsBus d.units (slice_index_or bs n bus)) (sym same)
    (allowed.buses n bus (subst (λ (bs : List Bus). n < length bs) same less)))

pub ports_allowed : (d : Datapath)
    → IsDatapath d
    → (buses : List Bus)
    → buses ≡ d.buses
    → (n : ℕ) (bus : Bus)
    → n < length buses
    → bus ≡ slice_index_or buses n bus
    → (tos : List PortRef)
    → tos ≡ bus.to
    → (count : ℕ)
    → count ≡ length d.units * most_ports
    → All (HasPlace count) tos
ports_allowed d allowed buses same n bus less is tos to count count_is =
    let its = bus_allowed d allowed buses same n bus less is in
    subst (λ (ps : List PortRef). All (HasPlace count) ps) (sym to)
    (subst (λ (m : ℕ). All (HasPlace m) bus.to) (sym count_is)
    (λ k e within. has_place d.units (slice_index_or bus.to k e) (its.to k e within)))

pub drivers_allowed : (d : Datapath)
    → IsDatapath d
    → (buses : List Bus)
    → buses ≡ d.buses
    → (n : ℕ) (bus : Bus)
    → n < length buses
    → bus ≡ slice_index_or buses n bus
    → All (λ (u : ℕ). u < most_units) bus.from
drivers_allowed d allowed buses same n bus less is =
    let its = bus_allowed d allowed buses same n bus less is in
    let few = allowed.unit_count in
    λ k e within. (let h = its.from k e within in omega arith)
