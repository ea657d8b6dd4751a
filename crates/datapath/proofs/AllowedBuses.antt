-- The buses of a file without a fault are allowed.
use Rattle.std.proofs.Common.{◌≡◌, ℕ, ◌+◌, ◌-◌, ◌<◌, ◌≤◌, ◌==◌, nat_lt, Bool, true, false, ◌&&◌, List, [], ◌∷◌, ◌++◌}
use Rattle.std.proofs.Common.{length, map, Option, Some, None, option_map, Ok, if◌then◌else◌, refl, sym, subst, arith}
use Rattle.std.specs.Prelude.{slice_get, IsSomeAnd}
use Rattle.std.specs.List.{All, list_any, sum_by}
use Rattle.std.specs.Option.{ok_or}
use Rattle.std.specs.Str.{bytes_eq}
use Rattle.std.proofs.lemmas.Bool.{eq-eqb}
use Rattle.std.proofs.lemmas.Bool.Decides.{nat_tests}
use Rattle.std.proofs.lemmas.List.{map-append}
use Rattle.std.proofs.lemmas.List.Elements.{All-nil, All-push}
use Rattle.std.proofs.lemmas.List.Quantifiers.{position-Some}
use Rattle.std.proofs.lemmas.List.Sums.{sum_by-append}
use Rattle.lists.proofs.Zips.{zip_length}
use Rattle.toml.specs.Data.{Members}
use Rattle.datapath.specs.declared.fault.Section.{Section}
use Rattle.datapath.specs.declared.fault.PathFault.TheVariants.{UnknownUnit, UnknownPort}
use Rattle.datapath.specs.declared.types.Bus.{Bus}
use Rattle.operations.specs.declared.units.PortRef.{PortRef}
use Rattle.datapath.specs.declared.types.Unit as of_unit
use Rattle.datapath.specs.Values.{is_within, is_name, text}
use Rattle.datapath.specs.Table as row
use Rattle.datapath.specs.Table.{ports, bus_keys, most_entries}
use Rattle.datapath.specs.Reading.{key, only, in_turn}
use Rattle.datapath.specs.Names.{new_name, last_dot, unit_named, driver, sink, count_at, ports_at, port_of, is_port}
use Rattle.datapath.specs.PathOf.{room_after, bus_in, bus_at}
use Rattle.datapath.specs.Allowed.{IsDistinct, IsPort, IsBus}
use Rattle.datapath.proofs.Kept.{bind_ok, same_Ok, passes, some_of, turn_keeps, turn_zips, distinct_none, distinct_push}
use Rattle.datapath.proofs.Kept.{key_ok, within_ok}
use Rattle.datapath.proofs.AllowedUnits.{name_ok, no_default, no_unit, new_distinct}

unit_there : (units : List of_unit.Unit) (n : List ℕ) (k : ℕ) → unit_named units n ≡ Some k → k < length units
unit_there units n k h = (position-Some (λ unit. bytes_eq n unit.name) units k no_unit h).0

driver_ok : (s : Section) (units : List of_unit.Unit) (before : List ℕ) (n : List ℕ) (k : ℕ)
    → driver s units before n ≡ Ok k
    → (k < length units) × (list_any (λ other. other == k) before ≡ false)
unfolding driver
driver_ok s units before n k h =
    let (unit, named, h1) = bind_ok (ok_or (unit_named units n) (UnknownUnit s)) _ k h in
    let (new, is) = passes _ unit k _ h1 in
    subst (λ j. (j < length units) × (list_any (λ other. other == j) before ≡ false)) is
    (unit_there units n unit (some_of _ _ unit named), new)

-- units that can drive a bus
abbrev pub AreDrivers : List of_unit.Unit → List ℕ → Type 0
AreDrivers units from = All (λ unit. unit < length units) from × IsDistinct from

pub drivers_ok : (s : Section) (units : List of_unit.Unit) (names : List (List ℕ)) (out : List ℕ)
    → in_turn (driver s units) [] names ≡ Ok out
    → AreDrivers units out
drivers_ok s units names out h =
    turn_keeps (driver s units) (AreDrivers units) (λ before n k so_far e.
    let (there, new) = driver_ok s units before n k e in (
      All-push (λ unit. unit < length units) before k so_far.0 there,
      distinct_push (λ other. other == k) before k
          (λ x is. eq-eqb x k is) new so_far.1,
    ))
    names [] out (All-nil (λ unit. unit < length units), distinct_none) h

below : (a b : Bool) (n p count : ℕ)
    → ◌≡◌ {A = Option ℕ} (if a && b then Some n else None) (Some p)
    → (b ≡ true → n < count)
    → p < count
below true true n p count h f = let same : n ≡ p = cc in subst (λ k. k < count) same (f refl)
below true false n p count h f = absurd (cc)
below false b n p count h f = absurd (cc)

port_below : (count : ℕ) (digits : List ℕ) (p : ℕ) → port_of count digits ≡ Some p → p < count
port_below count [] p h = absurd (cc)
port_below count (b ∷ []) p h = below (is_within 48 57 b) (nat_lt (b - 48) count) (b - 48) p count h
    (λ e. grind (arith, nat_tests))
port_below count (b ∷ c ∷ cs) p h = absurd (cc)

port_there : (o : Option of_unit.Unit) (p : ℕ)
    → p < count_at (option_map (λ unit. ports unit.kind) o)
    → IsSomeAnd o (λ unit. p < ports unit.kind)
port_there None p h = absurd (omega arith)
port_there (Some unit) p h = h

pub same_port : (p q : PortRef) → q ≡ p → is_port p q ≡ true
same_port p q is = subst (λ r. is_port p r ≡ true) (sym is)
    (rw (eq-eqb p.unit p.unit refl, eq-eqb p.port p.port refl) refl)

pub sink_ok : (s : Section) (units : List of_unit.Unit) (before : List PortRef) (n : List ℕ) (p : PortRef)
    → sink s units before n ≡ Ok p
    → IsPort units p × (list_any (is_port p) before ≡ false)
unfolding sink
sink_ok s units before n p h =
    let (parts, pe, h1) = bind_ok (ok_or (last_dot n) (UnknownPort s)) _ p h in
    let (unit, ue, h2) = bind_ok (ok_or (unit_named units parts.0) (UnknownUnit s)) _ p h1 in
    let (port, re, h3) = bind_ok (ok_or (port_of (ports_at units unit) parts.1) (UnknownPort s)) _ p h2 in
    let (new, is) = passes _ (record { unit = unit; port = port }) p _ h3 in
    subst (λ q. IsPort units q × (list_any (is_port q) before ≡ false)) is (
      port_there (slice_get units unit) port
          (port_below (ports_at units unit) parts.1 port
          (some_of (port_of (ports_at units unit) parts.1) (UnknownPort s) port re)),
      new,
    )

-- ports that a bus can be written to
abbrev pub AreSinks : List of_unit.Unit → List PortRef → Type 0
AreSinks units to = All (IsPort units) to × IsDistinct to

pub sinks_ok : (s : Section) (units : List of_unit.Unit) (names : List (List ℕ)) (out : List PortRef)
    → in_turn (sink s units) [] names ≡ Ok out
    → AreSinks units out
sinks_ok s units names out h =
    turn_keeps (sink s units) (AreSinks units) (λ before n p so_far e.
    let (there, new) = sink_ok s units before n p e in (
      All-push (IsPort units) before p so_far.0 there,
      distinct_push (is_port p) before p (λ x is. same_port p x is)
          new so_far.1,
    ))
    names [] out (All-nil (IsPort units), distinct_none) h

-- a bus behind others
record IsNext (units : List of_unit.Unit) (before : List Bus) (bus : Bus) : Type 0 where
  pub allowed : IsBus units bus
  pub new : list_any (bytes_eq bus.name) (map (λ b. b.name) before) ≡ false
  pub room : length bus.to ≤ room_after before

bus_ok : (s : Section) (units : List of_unit.Unit) (before : List Bus) (t : Members) (bus : Bus)
    → bus_in s units before t ≡ Ok bus
    → IsNext units before bus
unfolding bus_in
bus_ok s units before t bus h =
    let (k, ke, h1) = bind_ok (only s t bus_keys) _ bus h in
    let (n, ne, h2) = bind_ok (key s t row.name) _ bus h1 in
    let (from, fe, h3) = bind_ok (key s t row.from) _ bus h2 in
    let (to, te, h4) = bind_ok (key s t (row.to (room_after before))) _ bus h3 in
    let (m, me, h5) = bind_ok (new_name s (map (λ b. b.name) before) n) _ bus h4 in
    let (ds, de, h6) = bind_ok (in_turn (driver s units) [] from) _ bus h5 in
    let (ps, pe, h7) = bind_ok (in_turn (sink s units) [] to) _ bus h6 in
    let same : record { name = n; from = ds; to = ps } ≡ bus = same_Ok _ _ h7 in
    let drivers = drivers_ok s units from ds de in
    let sinks = sinks_ok s units to ps pe in
    let count : length ps ≡ length to = zip_length (λ x y. Unit {0}) to ps
    (turn_zips (sink s units) (λ x y. Unit {0}) (λ before x y e. tt) to ps pe) in
    let few : length to ≤ room_after before = key_ok s t (row.to (room_after before)) to te
    (λ xs. length xs ≤ room_after before)
    (λ d xs e. (within_ok 0 (room_after before) text d xs e).0.1) (no_default (λ xs. length xs ≤ room_after before)) in
    subst (IsNext units before) same (record {
      allowed = record {
        name = key_ok s t row.name n ne (λ x. is_name x ≡ true) name_ok (no_default (λ x. is_name x ≡ true));
        from = drivers.0;
        from_once = drivers.1;
        to = sinks.0;
        to_once = sinks.1;
      };
      new = (passes _ n m _ me).0;
      room = rw count few;
    })

pub record AreBuses (units : List of_unit.Unit) (buses : List Bus) : Type 0 where
  pub allowed : All (IsBus units) buses
  pub distinct : IsDistinct (map (λ bus. bus.name) buses)
  pub entries : sum_by (λ bus. length bus.to) buses ≤ most_entries

one_more : (units : List of_unit.Unit) (before : List Bus) (bus : Bus)
    → AreBuses units before
    → IsNext units before bus
    → AreBuses units (before ++ bus ∷ [])
one_more units before bus so_far next =
    let names : map (λ b. b.name) (before ++ bus ∷ []) ≡ map (λ b. b.name) before ++ bus.name ∷ [] = map-append
    (λ b. b.name) before (bus ∷ []) in
    let total : sum_by (λ b. length b.to) (before ++ bus ∷ []) ≡ sum_by (λ b. length b.to) before +
    (0 + length bus.to) = sum_by-append (λ b. length b.to) before (bus ∷ []) in
    let some = so_far.entries in
    let room = next.room in
    record {
      allowed = All-push (IsBus units) before bus so_far.allowed next.allowed;
      distinct = rw names (new_distinct (map (λ b. b.name) before) bus.name next.new so_far.distinct);
      entries = rw total (omega arith);
    }

pub buses_ok : (units : List of_unit.Unit) (tables : List Members) (out : List Bus)
    → in_turn (bus_at units) [] tables ≡ Ok out
    → AreBuses units out × (length out ≡ length tables)
buses_ok units tables out h = (
  turn_keeps (bus_at units) (AreBuses units)
      (λ before t bus so_far e. one_more units before bus so_far (bus_ok _ units before t bus e)) tables [] out
      (record { allowed = All-nil (IsBus units); distinct = distinct_none; entries = omega arith }) h,
  zip_length (λ x y. Unit {0}) tables out
      (turn_zips (bus_at units) (λ x y. Unit {0}) (λ before x y e. tt) tables out h),
)
