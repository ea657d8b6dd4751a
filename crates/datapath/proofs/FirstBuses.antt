-- Going over the buses of a file meets the first rule that they break.
use Rattle.std.proofs.Common.{◌≡◌, ℕ, zero, suc, ◌+◌, ◌-◌, ◌≤◌, ◌==◌, Bool, true, false, List, [], ◌∷◌, ◌++◌, length}
use Rattle.std.proofs.Common.{map, take, get_or, Option, Some, if◌then◌else◌, Ok, Err, refl, ap, sym, ◌∙◌, subst, arith}
use Rattle.std.specs.Prelude.{unwrap_or}
use Rattle.std.specs.List.{AllZip, list_any, sum_by}
use Rattle.std.specs.Option.{ok_or}
use Rattle.std.specs.Str.{bytes_eq}
use Rattle.std.proofs.lemmas.Bool.{eq-eqb, eqb-true}
use Rattle.std.proofs.lemmas.List.{take_at}
use Rattle.std.proofs.lemmas.List.Quantifiers.{position-Some}
use Rattle.std.proofs.lemmas.List.Sums.{sum_by-append}
use Rattle.std.proofs.lemmas.Slice.Eq.{bytes_eq-Decides}
use Rattle.lists.proofs.Places.{some_is as some_same}
use Rattle.lists.proofs.Zips.{zip_push, zip_length}
use Rattle.toml.specs.Data.{Members}
use Rattle.fault_order.specs.Rules.{parts, each_from}
use Rattle.fault_order.specs.Private.FirstMet.{first}
use Rattle.fault_order.proofs.TableFaults.{then_ok}
use Rattle.datapath.specs.declared.fault.Section.{Section}
use Rattle.datapath.specs.declared.fault.Section.TheVariants as section
use Rattle.datapath.specs.declared.fault.PathFault.TheVariants.{UnknownUnit, UnknownPort, Twice}
use Rattle.datapath.specs.declared.types.Bus.{Bus}
use Rattle.datapath.specs.declared.types.Unit as of_unit
use Rattle.operations.specs.declared.units.PortRef.{PortRef}
use Rattle.datapath.specs.Table as row
use Rattle.datapath.specs.Table.{ports, bus_keys, most_entries}
use Rattle.datapath.specs.Reading.{key, only, in_turn}
use Rattle.datapath.specs.Names.{new_name, last_dot, unit_named, driver, sink, ports_at, port_of, is_port}
use Rattle.datapath.specs.PathOf.{room_after, bus_in, bus_at}
use Rattle.datapath.specs.Described.{IsPortNamed}
use Rattle.datapath.specs.PathRules.{name_at, to_at, fresh_rules, driver_rules, unit_part, port_part, sink_rules}
use Rattle.datapath.specs.PathRules.{room_at, bus_rules, buses_rules}
use Rattle.datapath.proofs.Kept.{bind_ok, passes, some_of}
use Rattle.datapath.proofs.AllowedUnits.{no_unit}
use Rattle.datapath.proofs.AllowedBuses.{same_port}
use Rattle.datapath.proofs.DescribedKeys.{value_of_key, key_of_value}
use Rattle.datapath.proofs.DescribedBuses.{parts_of, port_is, one_port, to_widened, bus_described}
use Rattle.datapath.proofs.FirstRules.{fault_of, reads_first, key_first, key_first_at, value_is, only_first}
use Rattle.datapath.proofs.FirstRules.{turns_first}
use Rattle.datapath.proofs.FirstUnits.{bare, bare_named, fresh_first, or_first}

same_tests : (b c : Bool) → (b ≡ true → c ≡ true) → (c ≡ true → b ≡ true) → b ≡ c
same_tests true c f g = sym (f refl)
same_tests false true f g = g refl
same_tests false false f g = refl

any_same : {A B : Type 0} (R : A → B → Type 0) (p : A → Bool) (q : B → Bool)
    → ((x : A) (y : B) → R x y → p x ≡ q y)
    → (xs : List A) (ys : List B)
    → AllZip R xs ys
    → list_any p xs ≡ list_any q ys
any_same R p q each [] [] zips = refl
any_same R p q each [] (y ∷ ys) zips = absurd zips
any_same R p q each (x ∷ xs) [] zips = absurd zips
any_same R p q each (x ∷ xs) (y ∷ ys) zips = rw (each x y zips.0, any_same R p q each xs ys zips.1) refl

-- a test that fails where one before is the same
twice_first : {A : Type 0} (s : Section) (earlier : List (List ℕ)) (n : List ℕ) (found : Bool) (x : A)
    → list_any (bytes_eq n) earlier ≡ found
    → first (fresh_rules s earlier n) ≡ fault_of {A = A} (if found then Err (Twice s) else Ok x)
twice_first s earlier n found x same = subst (λ (b : Bool). first (fresh_rules s earlier n) ≡ fault_of (if b then Err
    (Twice s) else Ok x)) same (by (list_any (bytes_eq n) earlier) (fresh_first s earlier n))
  where
    by : (b : Bool)
        → first (fresh_rules s earlier n) ≡ fault_of {A = List ℕ} (if b then Err (Twice s) else Ok n)
        → first (fresh_rules s earlier n) ≡ fault_of (if b then Err (Twice s) else Ok x)
    by true e = e
    by false e = e

bare_ports : (units : List of_unit.Unit) (k : ℕ) → ports_at (map bare units) k ≡ ports_at units k
bare_ports [] k = refl
bare_ports (u ∷ units) zero = refl
bare_ports (u ∷ units) (suc k) = bare_ports units k

module _ (units : List of_unit.Unit) (s : Section) where
  abbrev us : List of_unit.Unit
  us = map bare units

  its_name : (n : List ℕ) (u : ℕ) → unit_named units n ≡ Some u → n ≡ (get_or units u no_unit).name
  its_name n u h =
      let (there, here, before) = position-Some (λ unit. bytes_eq n unit.name) units u no_unit h in
      (bytes_eq-Decides n _).0 here

  -- Drivers.

  abbrev IsDriver : List ℕ → ℕ → Type 0
  IsDriver n u = unit_named units n ≡ Some u

  same_driver : (x : List ℕ) (u : ℕ) → IsDriver x u → (n : List ℕ) (v : ℕ) → IsDriver n v
      → bytes_eq x n ≡ (v == u)
  same_driver x u hx n v hn = same_tests (bytes_eq x n) (v == u)
      (λ e. eq-eqb v u (sym (some_same u v (sym hx ∙ ap (unit_named units) ((bytes_eq-Decides x n).0 e) ∙ hn))))
      (λ e. (bytes_eq-Decides x n).1
      (its_name x u hx ∙ ap (λ (w : ℕ). (get_or units w no_unit).name) (sym (eqb-true v u e)) ∙ sym (its_name n v hn)))

  driver_at : (ys : List ℕ) (n : List ℕ) (u : ℕ) → driver s units ys n ≡ Ok u → IsDriver n u
  unfolding driver
  driver_at ys n u h =
      let (unit, named, h1) = bind_ok (ok_or (unit_named units n) (UnknownUnit s)) _ u h in
      let (new, is) = passes _ unit u _ h1 in
      some_of _ _ unit named ∙ ap Some is

  driver_first : (from before later : List (List ℕ)) (ys : List ℕ) (x : List ℕ)
      → from ≡ before ++ x ∷ later
      → AllZip IsDriver before ys
      → first (driver_rules s (map bare units) from (length before) x) ≡ fault_of (driver s units ys x)
  unfolding driver
  driver_first from before later ys x is zips =
      let earlier : take (length before) from ≡ before =
      ap (take (length before)) is ∙ take_at before (x ∷ later) (length before) refl in
      reads_first (ok_or (unit_named units x) (UnknownUnit s))
      (λ u. if list_any (λ other. other == u) ys then Err (Twice s) else Ok u)
      _ _ (or_first (unit_named (map bare units) x) (unit_named units x) (UnknownUnit s) (bare_named units x))
      (λ u e.
      let hx = some_of (unit_named units x) (UnknownUnit s) u e in
      then_ok _
      ∙ twice_first s (take (length before) from) x (list_any (λ other. other == u) ys) u
      (ap (list_any (bytes_eq x)) earlier
      ∙ any_same IsDriver (bytes_eq x) (λ other. other == u) (same_driver x u hx) before ys zips))

  drivers_first : (names from : List (List ℕ))
      → names ≡ from
      → first (parts (each_from (driver_rules s (map bare units) names) 0 names))
      ≡ fault_of (in_turn (driver s units) [] from)
  drivers_first names from same =
      subst (λ (zs : List (List ℕ)). first (parts (each_from (driver_rules s (map bare units) zs) 0 zs))
      ≡ fault_of (in_turn (driver s units) [] from)) (sym same)
      (turns_first (driver s units) (driver_rules s (map bare units) from) (AllZip IsDriver) from
      (λ before later ys x is zips. driver_first from before later ys x is zips)
      (λ before ys x u zips e. zip_push IsDriver before ys x u zips (driver_at ys x u e)) tt)

  -- Sinks.

  record IsSink (n : List ℕ) (p : PortRef) : Type 0 where
    pub cut : List ℕ × List ℕ
    pub dot : last_dot n ≡ Some cut
    pub unit : unit_named units cut.0 ≡ Some p.unit
    pub port : port_of (ports_at units p.unit) cut.1 ≡ Some p.port

  sink_at : (ys : List PortRef) (n : List ℕ) (p : PortRef) → sink s units ys n ≡ Ok p → IsSink n p
  unfolding sink
  sink_at ys n p h =
      let (cut, ce, h1) = bind_ok (ok_or (last_dot n) (UnknownPort s)) _ p h in
      let (unit, ue, h2) = bind_ok (ok_or (unit_named units cut.0) (UnknownUnit s)) _ p h1 in
      let (port, re, h3) = bind_ok (ok_or (port_of (ports_at units unit) cut.1) (UnknownPort s)) _ p h2 in
      let (new, is) = passes _ (record { unit = unit; port = port }) p _ h3 in
      subst (IsSink n) is (record {
        cut = cut;
        dot = some_of _ _ cut ce;
        unit = some_of _ _ unit ue;
        port = some_of _ _ port re;
      })

  spelled : (n : List ℕ) (p : PortRef) → IsSink n p
      → n ≡ (get_or units p.unit no_unit).name ++ 46 ∷ (48 + p.port) ∷ []
  spelled n p h =
      parts_of n h.cut h.dot
      ∙ ap (λ (ds : List ℕ). h.cut.0 ++ 46 ∷ ds) (port_is (ports_at units p.unit) h.cut.1 p.port h.port)
      ∙ ap (λ (m : List ℕ). m ++ 46 ∷ (48 + p.port) ∷ []) (its_name h.cut.0 p.unit h.unit)

  one_sink : (x n : List ℕ) (p q : PortRef) → x ≡ n → IsSink x p → IsSink n q → q ≡ p
  one_sink x n p q e hx hn =
      let same_cut : hn.cut ≡ hx.cut = some_same _ _ (sym hn.dot ∙ ap last_dot (sym e) ∙ hx.dot) in
      let unit : q.unit ≡ p.unit =
      some_same _ _ (sym hn.unit ∙ ap (λ (z : List ℕ × List ℕ). unit_named units z.0) same_cut ∙ hx.unit) in
      let port : q.port ≡ p.port =
      some_same _ _ (sym hn.port ∙ ap (λ (u : ℕ). port_of (ports_at units u) hn.cut.1) unit
      ∙ ap (λ (z : List ℕ × List ℕ). port_of (ports_at units p.unit) z.1) same_cut ∙ hx.port) in
      ap (λ (u : ℕ). record { unit = u; port = q.port }) unit ∙ ap (λ (v : ℕ). record { unit = p.unit; port = v }) port

  same_sink : (x : List ℕ) (p : PortRef)
      → IsSink x p
      → (n : List ℕ) (q : PortRef)
      → IsSink n q
      → bytes_eq x n ≡ is_port p q
  same_sink x p hx n q hn = same_tests (bytes_eq x n) (is_port p q)
      (λ e. same_port p q (one_sink x n p q ((bytes_eq-Decides x n).0 e) hx hn))
      (λ e. (bytes_eq-Decides x n).1
      (spelled x p hx ∙ ap (λ (r : PortRef). (get_or units r.unit no_unit).name ++ 46 ∷ (48 + r.port) ∷ [])
      (sym (one_port p q e)) ∙ sym (spelled n q hn)))

  sink_first : (to before later : List (List ℕ)) (ys : List PortRef) (x : List ℕ)
      → to ≡ before ++ x ∷ later
      → AllZip IsSink before ys
      → first (sink_rules s (map bare units) to (length before) x) ≡ fault_of (sink s units ys x)
  unfolding sink
  sink_first to before later ys x is zips =
      let earlier : take (length before) to ≡ before =
      ap (take (length before)) is ∙ take_at before (x ∷ later) (length before) refl in
      reads_first (ok_or (last_dot x) (UnknownPort s)) _ _ _ (or_first (last_dot x) (last_dot x) (UnknownPort s) refl)
      (λ cut cut_is.
      let dot = some_of (last_dot x) (UnknownPort s) cut cut_is in
      let unit_is : unit_named (map bare units) (unit_part x) ≡ unit_named units cut.0 =
      bare_named units (unit_part x)
      ∙ ap (λ (o : Option (List ℕ × List ℕ)). unit_named units (unwrap_or o ([], [])).0) dot in
      reads_first (ok_or (unit_named units cut.0) (UnknownUnit s)) _ _ _
      (or_first (unit_named (map bare units) (unit_part x)) (unit_named units cut.0) (UnknownUnit s) unit_is)
      (λ unit its_unit.
      let named = some_of (unit_named units cut.0) (UnknownUnit s) unit its_unit in
      let port_is : port_of (ports_at (map bare units) (unwrap_or (unit_named (map bare units) (unit_part x)) 0))
      (port_part x) ≡ port_of (ports_at units unit) cut.1 =
      ap (λ (o : Option ℕ). port_of (ports_at (map bare units) (unwrap_or o 0)) (port_part x)) (unit_is ∙ named)
      ∙ ap (λ (c : ℕ). port_of c (port_part x)) (bare_ports units unit)
      ∙ ap (λ (o : Option (List ℕ × List ℕ)). port_of (ports_at units unit) (unwrap_or o ([], [])).1) dot in
      reads_first (ok_or (port_of (ports_at units unit) cut.1) (UnknownPort s)) _ _ _
      (or_first (port_of (ports_at (map bare units) (unwrap_or (unit_named (map bare units) (unit_part x)) 0))
      (port_part x)) (port_of (ports_at units unit) cut.1) (UnknownPort s) port_is)
      (λ port its_port.
      let p : PortRef = record { unit = unit; port = port } in
      let hx : IsSink x p = record {
        cut = cut;
        dot = dot;
        unit = named;
        port = some_of (port_of (ports_at units unit) cut.1) (UnknownPort s) port its_port;
      } in
      then_ok _
      ∙ twice_first s (take (length before) to) x (list_any (is_port p) ys) p
      (ap (list_any (bytes_eq x)) earlier
      ∙ any_same IsSink (bytes_eq x) (is_port p) (same_sink x p hx) before ys zips))))

  sinks_first : (texts to : List (List ℕ))
      → texts ≡ to
      → first (parts (each_from (sink_rules s (map bare units) texts) 0 texts))
      ≡ fault_of (in_turn (sink s units) [] to)
  sinks_first texts to same =
      subst (λ (zs : List (List ℕ)). first (parts (each_from (sink_rules s (map bare units) zs) 0 zs))
      ≡ fault_of (in_turn (sink s units) [] to)) (sym same)
      (turns_first (sink s units) (sink_rules s (map bare units) to) (AllZip IsSink) to
      (λ before later ys x is zips. sink_first to before later ys x is zips)
      (λ before ys x p zips e. zip_push IsSink before ys x p zips (sink_at ys x p e)) tt)

-- what the rules say of a bus that was read
record IsDone (t : Members) (bus : Bus) : Type 0 where
  pub name : name_at t ≡ bus.name
  pub count : length (to_at t) ≡ length bus.to

abbrev entries_of : Members → ℕ
entries_of t = length (to_at t)

abbrev sinks_of : Bus → ℕ
sinks_of bus = length bus.to

sums_are : (ts : List Members) (buses : List Bus)
    → AllZip IsDone ts buses
    → sum_by entries_of ts ≡ sum_by sinks_of buses
sums_are [] [] zips = refl
sums_are [] (b ∷ buses) zips = absurd zips
sums_are (t ∷ ts) [] zips = absurd zips
sums_are (t ∷ ts) (b ∷ buses) zips =
    let left = sum_by-append entries_of (t ∷ []) ts in
    let right = sum_by-append sinks_of (b ∷ []) buses in
    let here = zips.0.count in
    let rest = sums_are ts buses zips.1 in
    omega arith

abbrev bus_name : Bus → List ℕ
bus_name bus = bus.name

bus_names_are : (ts : List Members) (buses : List Bus) → AllZip IsDone ts buses → map name_at ts ≡ map bus_name buses
bus_names_are [] [] zips = refl
bus_names_are [] (b ∷ buses) zips = absurd zips
bus_names_are (t ∷ ts) [] zips = absurd zips
bus_names_are (t ∷ ts) (b ∷ buses) zips = rw (zips.0.name, bus_names_are ts buses zips.1) refl

fresh_at : (s : Section) (earlier before : List (List ℕ)) (n m : List ℕ)
    → earlier ≡ before
    → n ≡ m
    → first (fresh_rules s earlier n) ≡ fault_of (new_name s before m)
fresh_at s earlier before n m same is =
    fresh_first s earlier n ∙ ap (λ (zs : List (List ℕ)). fault_of (new_name s zs n)) same
    ∙ ap (λ (k : List ℕ). fault_of (new_name s before k)) is

module _ (units : List of_unit.Unit) (tables : List Members) where
  bus_first : (before later : List Members) (ys : List Bus) (t : Members)
      → tables ≡ before ++ t ∷ later
      → AllZip IsDone before ys
      → first (bus_rules (map bare units) tables (length before) t)
      ≡ fault_of (bus_in (section.Bus (length before)) units ys t)
  unfolding bus_in
  bus_first before later ys t is zips =
      let s : Section = section.Bus (length before) in
      let earlier : take (length before) tables ≡ before =
      ap (take (length before)) is ∙ take_at before (t ∷ later) (length before) refl in
      let room : room_at tables (length before) ≡ room_after ys =
      ap (λ (ts : List Members). most_entries - sum_by entries_of ts) earlier
      ∙ ap (λ (n : ℕ). most_entries - n) (sums_are before ys zips) in
      let names : map name_at (take (length before) tables) ≡ map bus_name ys =
      ap (map name_at) earlier ∙ bus_names_are before ys zips in
      reads_first (only s t bus_keys) _ _ _ (only_first s t bus_keys) (λ u ue.
      reads_first (key s t row.name) _ _ _ (key_first s t row.name) (λ n ne.
      reads_first (key s t row.from) _ _ _ (key_first s t row.from) (λ from fe.
      reads_first (key s t (row.to (room_after ys))) _ _ _ (key_first_at s t row.to _ (room_after ys) room) (λ to te.
      let few : room_after ys ≤ most_entries = omega arith in
      let to_is : to_at t ≡ to =
      value_is s [] t (row.to most_entries) to (key_of_value s t (row.to most_entries) to
      (to_widened t (room_after ys) to few (value_of_key s t (row.to (room_after ys)) to te))) in
      reads_first (new_name s (map bus_name ys) n) _ _ _
      (fresh_at s _ (map bus_name ys) _ n names (value_is s [] t row.name n ne)) (λ m me.
      reads_first (in_turn (driver s units) [] from) _ _ _
      (drivers_first units s _ from (value_is s [] t row.from from fe)) (λ ds de.
      reads_first (in_turn (sink s units) [] to) _ _ _ (sinks_first units s _ to to_is) (λ ps pe. refl)))))))

  bus_done : (s : Section) (ys : List Bus) (t : Members) (bus : Bus) → bus_in s units ys t ≡ Ok bus → IsDone t bus
  bus_done s ys t bus e =
      let is = bus_described s units ys t bus e in
      record {
        name = value_is s [] t row.name bus.name (key_of_value s t row.name bus.name is.name);
        count =
            ap length
            (value_is s [] t (row.to most_entries) is.to (key_of_value s t (row.to most_entries) is.to is.to_is))
            ∙ sym (zip_length (IsPortNamed units) is.to bus.to is.sinks);
      }

  pub buses_first : first (buses_rules (map bare units) tables) ≡ fault_of (in_turn (bus_at units) [] tables)
  buses_first =
      turns_first (bus_at units) (bus_rules (map bare units) tables) (AllZip IsDone) tables
      (λ before later ys t is zips.
      subst (λ (n : ℕ). first (bus_rules (map bare units) tables (length before) t)
      ≡ fault_of (bus_in (section.Bus n) units ys t)) (sym (zip_length IsDone before ys zips))
      (bus_first before later ys t is zips))
      (λ before ys t bus zips e. zip_push IsDone before ys t bus zips (bus_done _ ys t bus e)) tt
