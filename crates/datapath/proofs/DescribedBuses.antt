-- The buses that are read are those that their tables describe.
use Rattle.std.proofs.Common.{◌≡◌, ℕ, ◌+◌, ◌-◌, ◌<◌, ◌≤◌, ◌==◌, nat_lt, Bool, true, false, ◌&&◌, List, [], ◌∷◌, ◌++◌}
use Rattle.std.proofs.Common.{length, map, Option, Some, None, option_map, Result, Ok, if◌then◌else◌, refl, ap, sym}
use Rattle.std.proofs.Common.{◌∙◌, subst, inl, inr, arith}
use Rattle.std.specs.Prelude.{codes, slice_get, IsSomeAnd, MatchOption}
use Rattle.std.specs.List.{AllZip, list_any, sum_by}
use Rattle.std.specs.Option.{ok_or}
use Rattle.std.specs.Str.{bytes_eq}
use Rattle.std.proofs.lemmas.Bool.{cases_Bool, eqb-true}
use Rattle.std.proofs.lemmas.Bool.Decides.{nat_tests}
use Rattle.std.proofs.lemmas.List.{map-append}
use Rattle.std.proofs.lemmas.List.Quantifiers.{position-Some}
use Rattle.std.proofs.lemmas.List.Sums.{sum_by-append}
use Rattle.std.proofs.lemmas.Option.{slice_get-get_or}
use Rattle.std.proofs.lemmas.Slice.Eq.{bytes_eq-Decides}
use Rattle.lists.proofs.Zips.{zip_length}
use Rattle.lists.proofs.Places.{some_is as some_same}
use Rattle.operations.proofs.Ports.{few_ports}
use Rattle.lists.proofs.Bools.{second_true, first_true as and_left}
use Rattle.toml.specs.Data.{Data, Members, get_member}
use Rattle.datapath.specs.declared.fault.Misfit.{Misfit}
use Rattle.datapath.specs.declared.fault.Section.{Section}
use Rattle.datapath.specs.declared.fault.PathFault.TheVariants.{UnknownUnit, UnknownPort}
use Rattle.datapath.specs.declared.types.Bus.{Bus}
use Rattle.datapath.specs.declared.types.Unit as of_unit
use Rattle.operations.specs.declared.units.Kind.{Kind}
use Rattle.operations.specs.declared.units.Kind.TheVariants.{Input, Output, Rom, Alu, Mul, Sel, Ram, Acu}
use Rattle.operations.specs.declared.units.PortRef.{PortRef}
use Rattle.datapath.specs.Values.{is_within, counted, array_of, text}
use Rattle.datapath.specs.Table as row
use Rattle.datapath.specs.Table.{ports, bus_keys, most_entries}
use Rattle.datapath.specs.Reading.{key, only, in_turn}
use Rattle.datapath.specs.Names.{new_name, before_dot, last_dot, unit_named, driver, sink, count_at, ports_at, port_of}
use Rattle.datapath.specs.Names.{is_port}
use Rattle.datapath.specs.PathOf.{room_after, bus_in, bus_at}
use Rattle.datapath.specs.Allowed.{IsDistinct}
use Rattle.datapath.specs.Described.{IsValue, IsUnitNamed, IsPortNamed, IsBusIn}
use Rattle.datapath.proofs.Dots.{is_other}
use Rattle.datapath.proofs.Fresh.{name_of}
use Rattle.datapath.proofs.Kept.{bind_ok, same_Ok, passes, some_of, turn_zips, counted_ok}
use Rattle.datapath.proofs.AllowedUnits.{no_unit, finds_same}
use Rattle.datapath.proofs.AllowedBuses.{sink_ok, drivers_ok, sinks_ok}
use Rattle.datapath.proofs.Named.{named_at}
use Rattle.datapath.proofs.DescribedKeys.{value_of_key, key_of_value, has_only, only_has, bind_to, turns_read}
use Rattle.datapath.proofs.DescribedKeys.{none_earlier, some_at}

named_of : (units : List of_unit.Unit) (n : List ℕ) (u : ℕ) → unit_named units n ≡ Some u → IsUnitNamed units n u
named_of units n u h =
    let (there, here, before) = position-Some (λ unit. bytes_eq n unit.name) units u no_unit h in
    rw (slice_get-get_or units u no_unit there) (sym ((bytes_eq-Decides n _).0 here))

-- the text before and after the last dot
pub parts_of : (n : List ℕ) (parts : List ℕ × List ℕ) → last_dot n ≡ Some parts → n ≡ parts.0 ++ 46 ∷ parts.1
parts_of [] parts h = absurd (cc)
parts_of (b ∷ bs) parts h = by (last_dot bs) (λ q e. parts_of bs q e) h
  where
    by : (o : Option (List ℕ × List ℕ))
        → ((q : List ℕ × List ℕ) → o ≡ Some q → bs ≡ q.0 ++ 46 ∷ q.1)
        → before_dot b bs o ≡ Some parts
        → b ∷ bs ≡ parts.0 ++ 46 ∷ parts.1
    by (Some q) rest g =
        subst (λ (z : List ℕ × List ℕ). b ∷ bs ≡ z.0 ++ 46 ∷ z.1) (some_same _ parts g)
        (ap (λ (xs : List ℕ). b ∷ xs) (rest q refl))
    by None rest g =
        elim (cases_Bool (b == 46)) [
          | inl dot ↦
              let here : Some ([], bs) ≡ Some parts = sym (rw dot refl) ∙ g in
              subst (λ (z : List ℕ × List ℕ). b ∷ bs ≡ z.0 ++ 46 ∷ z.1) (some_same _ parts here)
              (ap (λ (x : ℕ). x ∷ bs) (eqb-true b 46 dot))
          | inr other ↦ absurd (let none : None ≡ Some parts = sym (rw other refl) ∙ g in cc)
        ]

digit_of : (a : Bool) (n b p count : ℕ)
    → ◌≡◌ {A = Option ℕ} (if a && nat_lt n count then Some n else None) (Some p)
    → (a ≡ true) × (n ≡ p)
digit_of true n b p count h = by (nat_lt n count) h
  where
    by : (c : Bool) → ◌≡◌ {A = Option ℕ} (if true && c then Some n else None) (Some p) → (true ≡ true) × (n ≡ p)
    by true g = (refl, some_same n p g)
    by false g = absurd (cc)
digit_of false n b p count h = absurd (cc)

pub port_is : (count : ℕ) (digits : List ℕ) (p : ℕ) → port_of count digits ≡ Some p → digits ≡ (48 + p) ∷ []
port_is count [] p h = absurd (cc)
port_is count (b ∷ []) p h =
    let (within, is) = digit_of (is_within 48 57 b) (b - 48) b p count h in
    let digit : b ≡ 48 + p = grind (arith, nat_tests) in
    ap (λ (x : ℕ). x ∷ []) digit
port_is count (b ∷ c ∷ cs) p h = absurd (cc)

sink_of : (s : Section) (units : List of_unit.Unit) (before : List PortRef) (n : List ℕ) (p : PortRef)
    → sink s units before n ≡ Ok p
    → IsPortNamed units n p
unfolding sink
sink_of s units before n p h =
    let (parts, pe, h1) = bind_ok (ok_or (last_dot n) (UnknownPort s)) _ p h in
    let (unit, ue, h2) = bind_ok (ok_or (unit_named units parts.0) (UnknownUnit s)) _ p h1 in
    let (port, re, h3) = bind_ok (ok_or (port_of (ports_at units unit) parts.1) (UnknownPort s)) _ p h2 in
    let (new, is) = passes _ (record { unit = unit; port = port }) p _ h3 in
    let digit = port_is (ports_at units unit) parts.1 port (some_of _ _ port re) in
    record {
      there = (sink_ok s units before n p h).0;
      unit = parts.0;
      named = subst (λ (q : PortRef). IsUnitNamed units parts.0 q.unit) is
          (named_of units parts.0 unit (some_of _ _ unit ue));
      spelled = subst (λ (q : PortRef). n ≡ parts.0 ++ 46 ∷ (48 + q.port) ∷ []) is
          (parts_of n parts (some_of _ _ parts pe) ∙ ap (λ (ds : List ℕ). parts.0 ++ 46 ∷ ds) digit);
    }

driver_of : (s : Section) (units : List of_unit.Unit) (before : List ℕ) (n : List ℕ) (u : ℕ)
    → driver s units before n ≡ Ok u
    → IsUnitNamed units n u
unfolding driver
driver_of s units before n u h =
    let (unit, named, h1) = bind_ok (ok_or (unit_named units n) (UnknownUnit s)) _ u h in
    let (new, is) = passes _ unit u _ h1 in
    subst (IsUnitNamed units n) is (named_of units n unit (some_of _ _ unit named))

-- an array of a length that is allowed where more are
wider : {A : Type 0} (most more : ℕ) (r : Result (List A) Misfit) (xs : List A)
    → most ≤ more
    → counted 0 most r ≡ Ok xs
    → counted 0 more r ≡ Ok xs
wider most more r xs le h =
    let (within, is) = counted_ok 0 most r xs h in
    let fits : is_within 0 more (length xs) ≡ true = let few = within.1 in grind (arith, nat_tests) in
    rw (is, fits) refl

narrower : {A : Type 0} (most more : ℕ) (r : Result (List A) Misfit) (xs : List A)
    → length xs ≤ most
    → counted 0 more r ≡ Ok xs
    → counted 0 most r ≡ Ok xs
narrower most more r xs few h =
    let (within, is) = counted_ok 0 more r xs h in
    let fits : is_within 0 most (length xs) ≡ true = grind (arith, nat_tests) in
    rw (is, fits) refl

match_map : {P Q : Data → Type 0} (D : Type 0) (o : Option Data)
    → ((d : Data) → P d → Q d)
    → MatchOption o D P
    → MatchOption o D Q
match_map D None each h = h
match_map D (Some d) each h = each d h

pub to_widened : (t : Members) (room : ℕ) (to : List (List ℕ))
    → room ≤ most_entries
    → IsValue (row.to room) t to
    → IsValue (row.to most_entries) t to
to_widened t room to le h =
    match_map _ (get_member (codes "to") t) (λ d e. wider room most_entries (array_of text d) to le e) h

to_narrowed : (t : Members) (room : ℕ) (to : List (List ℕ))
    → length to ≤ room
    → IsValue (row.to most_entries) t to
    → IsValue (row.to room) t to
to_narrowed t room to few h =
    match_map _ (get_member (codes "to") t) (λ d e. narrower room most_entries (array_of text d) to few e) h

pub bus_described : (s : Section) (units : List of_unit.Unit) (before : List Bus) (t : Members) (bus : Bus)
    → bus_in s units before t ≡ Ok bus
    → IsBusIn units t bus
unfolding bus_in
bus_described s units before t bus h =
    let (k, ke, h1) = bind_ok (only s t bus_keys) _ bus h in
    let (n, ne, h2) = bind_ok (key s t row.name) _ bus h1 in
    let (from, fe, h3) = bind_ok (key s t row.from) _ bus h2 in
    let (to, te, h4) = bind_ok (key s t (row.to (room_after before))) _ bus h3 in
    let (m, me, h5) = bind_ok (new_name s (map (λ b. b.name) before) n) _ bus h4 in
    let (ds, de, h6) = bind_ok (in_turn (driver s units) [] from) _ bus h5 in
    let (ps, pe, h7) = bind_ok (in_turn (sink s units) [] to) _ bus h6 in
    let same : record { name = n; from = ds; to = ps } ≡ bus = same_Ok _ _ h7 in
    let room : room_after before ≤ most_entries = omega arith in
    subst (IsBusIn units t) same (record {
      keys = has_only s t bus_keys k ke;
      name = value_of_key s t row.name n ne;
      from = from;
      from_is = value_of_key s t row.from from fe;
      drivers =
          turn_zips (driver s units) (IsUnitNamed units) (λ earlier x u e. driver_of s units earlier x u e) from ds de;
      drivers_once = (drivers_ok s units from ds de).1;
      to = to;
      to_is = to_widened t (room_after before) to room (value_of_key s t (row.to (room_after before)) to te);
      sinks = turn_zips (sink s units) (IsPortNamed units) (λ earlier x p e. sink_of s units earlier x p e) to ps pe;
      sinks_once = (sinks_ok s units to ps pe).1;
    })

pub buses_described : (units : List of_unit.Unit) (tables : List Members) (out : List Bus)
    → in_turn (bus_at units) [] tables ≡ Ok out
    → AllZip (IsBusIn units) tables out
buses_described units tables out h =
    turn_zips (bus_at units) (IsBusIn units) (λ before t bus e. bus_described _ units before t bus e) tables out h

dot_last : (unit : List ℕ) (c : ℕ) → (c ≡ 46 → ⊥) → last_dot (unit ++ 46 ∷ c ∷ []) ≡ Some (unit, c ∷ [])
dot_last [] c other = rw (is_other c other) refl
dot_last (b ∷ unit) c other = rw (dot_last unit c other) refl

port_counted : (o : Option of_unit.Unit) (p : ℕ)
    → IsSomeAnd o (λ unit. p < ports unit.kind)
    → (p < count_at (option_map (λ unit. ports unit.kind) o)) × (p < 3)
port_counted None p h = absurd h
port_counted (Some unit) p h = let few = few_ports unit.kind in (h, omega arith)

digit_read : (count p : ℕ) → p < count → p < 3 → port_of count ((48 + p) ∷ []) ≡ Some p
digit_read count p within few =
    let digit : is_within 48 57 (48 + p) ≡ true = grind (arith, nat_tests) in
    let back : 48 + p - 48 ≡ p = omega arith in
    let less : nat_lt p count ≡ true = grind (arith, nat_tests) in
    rw (digit, back, less) refl

pub one_port : (p q : PortRef) → is_port p q ≡ true → q ≡ p
one_port p q h =
    let unit : q.unit ≡ p.unit = eqb-true q.unit p.unit (and_left _ _ h) in
    let port : q.port ≡ p.port = eqb-true q.port p.port (second_true _ _ h) in
    ap (λ (u : ℕ). record { unit = u; port = q.port }) unit ∙ ap (λ (v : ℕ). record { unit = p.unit; port = v }) port

module _ (units : List of_unit.Unit) (apart : IsDistinct (map name_of units)) (s : Section) where
  unit_found : (n : List ℕ) (u : ℕ) → IsUnitNamed units n u → unit_named units n ≡ Some u
  unit_found n u named =
      let (within, its) = some_at (λ (v : of_unit.Unit). v.name ≡ n) units u no_unit named in
      named_at units n apart u within (finds_same n _ its)

  driver_read : (before rest : List ℕ) (n : List ℕ) (u : ℕ)
      → IsDistinct (before ++ u ∷ rest)
      → IsUnitNamed units n u
      → driver s units before n ≡ Ok u
  unfolding driver
  driver_read before rest n u once named =
      let none : list_any (λ other. other == u) before ≡ false =
      none_earlier (λ other. other == u) before rest u (λ x same. eqb-true x u same) once in
      bind_to (ok_or (unit_named units n) (UnknownUnit s)) _ u _ (rw (unit_found n u named) refl) (rw none refl)

  sink_read : (before rest : List PortRef) (n : List ℕ) (p : PortRef)
      → IsDistinct (before ++ p ∷ rest)
      → IsPortNamed units n p
      → sink s units before n ≡ Ok p
  unfolding sink
  sink_read before rest n p once is =
      let (below, few) = port_counted (slice_get units p.unit) p.port is.there in
      let parts : last_dot n ≡ Some (is.unit, (48 + p.port) ∷ []) =
      ap last_dot is.spelled ∙ dot_last is.unit (48 + p.port) (λ e. absurd (omega arith)) in
      let none : list_any (is_port p) before ≡ false =
      none_earlier (is_port p) before rest p (λ x yes. one_port p x yes) once in
      bind_to (ok_or (last_dot n) (UnknownPort s)) _ (is.unit, (48 + p.port) ∷ []) _ (rw parts refl)
      (bind_to (ok_or (unit_named units is.unit) (UnknownUnit s)) _ p.unit _
      (rw (unit_found is.unit p.unit is.named) refl)
      (bind_to (ok_or (port_of (ports_at units p.unit) ((48 + p.port) ∷ [])) (UnknownPort s)) _ p.port _
      (rw (digit_read (ports_at units p.unit) p.port below few) refl) (rw none refl)))

  bus_read : (before rest : List Bus) (t : Members) (bus : Bus)
      → IsDistinct (map (λ b. b.name) (before ++ bus ∷ rest))
      → sum_by (λ b. length b.to) (before ++ bus ∷ rest) ≤ most_entries
      → IsBusIn units t bus
      → bus_in s units before t ≡ Ok bus
  unfolding bus_in
  bus_read before rest t bus names entries is =
      let total = sum_by-append (λ (b : Bus). length b.to) before (bus ∷ rest) in
      let here = sum_by-append (λ (b : Bus). length b.to) (bus ∷ []) rest in
      let count : length bus.to ≡ length is.to = zip_length (IsPortNamed units) is.to bus.to is.sinks in
      let room : length is.to ≤ room_after before = omega arith in
      let mapped : map (λ (b : Bus). b.name) (before ++ bus ∷ rest)
      ≡ map (λ b. b.name) before ++ bus.name ∷ map (λ b. b.name) rest =
      map-append (λ b. b.name) before (bus ∷ rest) in
      let new : list_any (bytes_eq bus.name) (map (λ b. b.name) before) ≡ false =
      none_earlier (bytes_eq bus.name) (map (λ b. b.name) before) (map (λ b. b.name) rest) bus.name
      (λ x yes. sym ((bytes_eq-Decides bus.name x).0 yes)) (subst IsDistinct mapped names) in
      bind_to (only s t bus_keys) _ tt _ (only_has s t bus_keys is.keys)
      (bind_to (key s t row.name) _ bus.name _ (key_of_value s t row.name bus.name is.name)
      (bind_to (key s t row.from) _ is.from _ (key_of_value s t row.from is.from is.from_is)
      (bind_to (key s t (row.to (room_after before))) _ is.to _
      (key_of_value s t (row.to (room_after before)) is.to (to_narrowed t (room_after before) is.to room is.to_is))
      (bind_to (new_name s (map (λ b. b.name) before) bus.name) _ bus.name _ (rw new refl)
      (bind_to (in_turn (driver s units) [] is.from) _ bus.from _
      (turns_read (driver s units) (IsUnitNamed units) bus.from
      (λ earlier later n u e named. driver_read earlier later n u (subst IsDistinct e is.drivers_once) named) is.from
      is.drivers)
      (bind_to (in_turn (sink s units) [] is.to) _ bus.to _
      (turns_read (sink s units) (IsPortNamed units) bus.to
      (λ earlier later n p e named. sink_read earlier later n p (subst IsDistinct e is.sinks_once) named) is.to
      is.sinks)
      refl))))))

pub buses_read : (units : List of_unit.Unit)
    → IsDistinct (map name_of units)
    → (tables : List Members) (out : List Bus)
    → IsDistinct (map (λ bus. bus.name) out)
    → sum_by (λ bus. length bus.to) out ≤ most_entries
    → AllZip (IsBusIn units) tables out
    → in_turn (bus_at units) [] tables ≡ Ok out
buses_read units apart tables out names entries zips =
    turns_read (bus_at units) (IsBusIn units) out
    (λ before rest t bus e is.
    bus_read units apart _ before rest t bus (subst (λ (bs : List Bus). IsDistinct (map (λ b. b.name) bs)) e names)
    (subst (λ (bs : List Bus). sum_by (λ b. length b.to) bs ≤ most_entries) e entries) is)
    tables zips
