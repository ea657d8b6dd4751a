-- Going over the units of a file meets the first rule that they break.
use Rattle.std.proofs.Common.{◌≡◌, ℕ, ◌+◌, Bool, true, false, not, cond, ◌&&◌, if◌then◌else◌, List, [], ◌∷◌, ◌++◌}
use Rattle.std.proofs.Common.{length, map, take, Option, Some, None, Ok, Err, refl, ap, sym, ◌∙◌, subst}
use Rattle.std.specs.Prelude.{is_some, position}
use Rattle.std.specs.List.{AllZip, list_any, prefix_len}
use Rattle.std.specs.Option.{ok_or}
use Rattle.std.specs.Str.{bytes_eq}
use Rattle.std.proofs.lemmas.List.{take_at, length-map, length_push}
use Rattle.toml.specs.Data.{Members}
use Rattle.fault_order.specs.Rules.{RuleRow, parts, unless, each_from}
use Rattle.fault_order.specs.Private.FirstMet.{first, first_in}
use Rattle.datapath.specs.declared.fault.Section.{Section}
use Rattle.datapath.specs.declared.fault.Section.TheVariants as section
use Rattle.datapath.specs.declared.fault.PathFault.{PathFault}
use Rattle.datapath.specs.declared.fault.PathFault.TheVariants.{UnknownUnit, Twice}
use Rattle.datapath.specs.declared.types.Unit as of_unit
use Rattle.operations.specs.declared.units.Kind.TheVariants.{Input, Acu}
use Rattle.datapath.specs.Table as row
use Rattle.datapath.specs.Table.{ports, is_ram, is_acu, unit_keys}
use Rattle.datapath.specs.Reading.{Read, ◌>>=◌, key, only, where_has, in_turn}
use Rattle.datapath.specs.Names.{new_name, unit_named, ram_named}
use Rattle.datapath.specs.PathOf.{kind_known, is_known_acu, unit_in, unit_at, unit_name_at, ram_in, ram_at, with_rams}
use Rattle.datapath.specs.PathOf.{units_of}
use Rattle.datapath.specs.PathRules.{value_or, name_at, kind_at, named_unit, unit_rules, fresh_rules, unit_name_rules}
use Rattle.datapath.specs.PathRules.{ram_rules, units_rules, rules_where}
use Rattle.datapath.specs.Described.{IsValue}
use Rattle.datapath.proofs.Fresh.{name_of}
use Rattle.datapath.proofs.Kept.{bind_ok, same_Ok, passes, has_row, turn_zips}
use Rattle.datapath.proofs.AllowedUnits.{kind_found}
use Rattle.datapath.proofs.DescribedKeys.{value_of_key, key_of_value}
use Rattle.datapath.proofs.DescribedUnits.{is_acu_yes}
use Rattle.datapath.proofs.FirstRules.{fault_of, reads_first, reads_then, key_first, key_first_at, value_is, only_first}
use Rattle.datapath.proofs.FirstRules.{where_first, turns_first}

unit_first : (k : ℕ) (t : Members) → first (unit_rules k t) ≡ fault_of (unit_in (section.Unit k) t)
unfolding unit_in
unit_first k t =
    let s : Section = section.Unit k in
    reads_first (only s t (unit_keys (kind_known t))) _ _ _ (only_first s t (unit_keys (kind_known t))) (λ u ue.
    reads_first (key s t row.name) _ _ _ (key_first s t row.name) (λ n ne.
    reads_first (key s t row.kind) _ _ _ (key_first s t row.kind) (λ kind kind_e.
    reads_first (key s t row.latency) _ _ _ (key_first s t row.latency) (λ latency le.
    let one = value_is s 1 t row.latency latency le in
    let its_kind = value_is s Input t row.kind kind kind_e in
    reads_first (key s t (row.gap latency)) _ _ _ (key_first_at s t row.gap _ latency one) (λ gap ge.
    reads_first (key s t (row.files (ports kind))) _ _ _
    (key_first_at s t (λ k. row.files (ports k)) _ kind its_kind) (λ files fe.
    reads_first (where_has (is_ram kind) (key s t row.cells) 0) _ _ _
    (where_first _ (is_ram kind) _ (key s t row.cells) 0 (ap is_ram its_kind) (key_first s t row.cells)) (λ cells ce.
    reads_first (where_has (is_acu kind) (key s t row.ram) []) _ _ _
    (where_first _ (is_acu kind) _ (key s t row.ram) [] (ap is_acu its_kind) (key_first s t row.ram))
    (λ ram re. refl))))))))

-- a unit by its name and its kind
abbrev pub bare : of_unit.Unit → of_unit.Unit
bare u = record { name = u.name; kind = u.kind; latency = 1; gap = 1; files = []; cells = 0; ram = 0 }

-- what a table says of its unit
pub record IsNamedIn (t : Members) (u : of_unit.Unit) : Type 0 where
  pub name : name_at t ≡ u.name
  pub kind : kind_at t ≡ u.kind
  pub known : kind_known t ≡ Some u.kind
  pub ram : u.kind ≡ Acu → (name : List ℕ) × IsValue row.ram t name

named_in : (s : Section) (t : Members) (u : of_unit.Unit) → unit_in s t ≡ Ok u → IsNamedIn t u
unfolding unit_in
named_in s t u h =
    let (k, ke, h1) = bind_ok (only s t (unit_keys (kind_known t))) _ u h in
    let (n, ne, h2) = bind_ok (key s t row.name) _ u h1 in
    let (kd, kde, h3) = bind_ok (key s t row.kind) _ u h2 in
    let (l, le, h4) = bind_ok (key s t row.latency) _ u h3 in
    let (g, ge, h5) = bind_ok (key s t (row.gap l)) _ u h4 in
    let (fs, fe, h6) = bind_ok (key s t (row.files (ports kd))) _ u h5 in
    let (cs, ce, h7) = bind_ok (where_has (is_ram kd) (key s t row.cells) 0) _ u h6 in
    let (r, re, h8) = bind_ok (where_has (is_acu kd) (key s t row.ram) []) _ u h7 in
    let same : record { name = n; kind = kd; latency = l; gap = g; files = fs; cells = cs; ram = 0 } ≡ u =
    same_Ok _ _ h8 in
    let ram = has_row (is_acu kd) (key s t row.ram) [] r re in
    subst (IsNamedIn t) same (record {
      name = value_is s [] t row.name n ne;
      kind = value_is s Input t row.kind kd kde;
      known = kind_found s t kd kde;
      ram = λ is. (r, value_of_key s t row.ram r (ram.0 (ap is_acu is)));
    })

pub all_named : (tables : List Members) (units : List of_unit.Unit)
    → in_turn unit_at [] tables ≡ Ok units
    → AllZip IsNamedIn tables units
all_named tables units h = turn_zips unit_at IsNamedIn (λ before t u e. named_in _ t u e) tables units h

names_are : (tables : List Members) (units : List of_unit.Unit)
    → AllZip IsNamedIn tables units
    → map name_at tables ≡ map name_of units
names_are [] [] zips = refl
names_are [] (u ∷ units) zips = absurd zips
names_are (t ∷ tables) [] zips = absurd zips
names_are (t ∷ tables) (u ∷ units) zips =
    let here = zips.0.name in let rest = names_are tables units zips.1 in cc

bare_are : (tables : List Members) (units : List of_unit.Unit)
    → AllZip IsNamedIn tables units
    → map named_unit tables ≡ map bare units
bare_are [] [] zips = refl
bare_are [] (u ∷ units) zips = absurd zips
bare_are (t ∷ tables) [] zips = absurd zips
bare_are (t ∷ tables) (u ∷ units) zips = rw (zips.0.name, zips.0.kind, bare_are tables units zips.1) refl

pub bare_rams : (units : List of_unit.Unit) (rams : List ℕ) → map bare (with_rams units rams) ≡ map bare units
unfolding with_rams
bare_rams units [] = refl
bare_rams [] (r ∷ rams) = refl
bare_rams (u ∷ units) (r ∷ rams) = ap (λ (us : List of_unit.Unit). bare u ∷ us) (bare_rams units rams)

prefix_map : (p : of_unit.Unit → Bool) (units : List of_unit.Unit)
    → prefix_len p (map bare units) ≡ prefix_len (λ u. p (bare u)) units
prefix_map p [] = refl
prefix_map p (u ∷ units) = ap (λ (n : ℕ). cond (p (bare u)) (1 + n) 0) (prefix_map p units)

place_map : (p : of_unit.Unit → Bool) (units : List of_unit.Unit)
    → position p (map bare units) ≡ position (λ u. p (bare u)) units
place_map p units = rw (prefix_map (λ u. not (p u)) units, length-map units bare) refl

pub bare_named : (units : List of_unit.Unit) (n : List ℕ) → unit_named (map bare units) n ≡ unit_named units n
bare_named units n = place_map (λ unit. bytes_eq n unit.name) units

bare_ram_named : (units : List of_unit.Unit) (n : List ℕ) → ram_named (map bare units) n ≡ ram_named units n
bare_ram_named units n = place_map (λ unit. is_ram unit.kind && bytes_eq n unit.name) units

pub fresh_first : (s : Section) (earlier : List (List ℕ)) (n : List ℕ)
    → first (fresh_rules s earlier n) ≡ fault_of (new_name s earlier n)
fresh_first s earlier n = by (list_any (bytes_eq n) earlier)
  where
    by : (b : Bool) → first (unless (not b) (Twice s)) ≡ fault_of {A = List ℕ} (if b then Err (Twice s) else Ok n)
    by true = refl
    by false = refl

pub names_first : (names : List (List ℕ))
    → first (parts (each_from (unit_name_rules names) 0 names)) ≡ fault_of (in_turn unit_name_at [] names)
names_first names =
    turns_first unit_name_at (unit_name_rules names) (λ before ys. ys ≡ before) names each more refl
  where
    each : (before later ys : _) (x : List ℕ)
        → names ≡ before ++ x ∷ later
        → ys ≡ before
        → first (unit_name_rules names (length before) x) ≡ fault_of (unit_name_at ys x)
    each before later ys x is same =
        let earlier : take (length before) names ≡ before =
        ap (take (length before)) is ∙ take_at before (x ∷ later) (length before) refl in
        rw (earlier, same) (fresh_first (section.Unit (length before)) before x)

    more : (before ys : List (List ℕ)) (x y : List ℕ)
        → ys ≡ before
        → unit_name_at ys x ≡ Ok y
        → ys ++ y ∷ [] ≡ before ++ x ∷ []
    more before ys x y same e = rw (same, (passes _ x y _ e).1) refl

names_first_at : (ns names : List (List ℕ))
    → ns ≡ names
    → first (parts (each_from (unit_name_rules ns) 0 ns)) ≡ fault_of (in_turn unit_name_at [] names)
names_first_at ns names same =
    subst (λ (zs : List (List ℕ)). first (parts (each_from (unit_name_rules zs) 0 zs))
    ≡ fault_of (in_turn unit_name_at [] names)) (sym same) (names_first names)

some_first : {A : Type 0} (o : Option A) (e : PathFault) → first (unless (is_some o) e) ≡ fault_of (ok_or o e)
some_first (Some x) e = refl
some_first None e = refl

pub or_first : {A : Type 0} (o p : Option A) (e : PathFault)
    → o ≡ p
    → first (unless (is_some o) e) ≡ fault_of (ok_or p e)
or_first o p e same = rw same (some_first p e)

zip_mid : {A B : Type 0} (R : A → B → Type 0) (before later : List A) (x : A) (ys : List B)
    → AllZip R (before ++ x ∷ later) ys
    → (y : B) × R x y
zip_mid R [] later x [] zips = absurd zips
zip_mid R [] later x (y ∷ ys) zips = (y, zips.0)
zip_mid R (b ∷ before) later x [] zips = absurd zips
zip_mid R (b ∷ before) later x (y ∷ ys) zips = zip_mid R before later x ys zips.1

-- the key `ram` was judged before, with its unit
ram_first : (s : Section) (us units : List of_unit.Unit) (t : Members) (u : of_unit.Unit)
    → ((n : List ℕ) → ram_named us n ≡ ram_named units n)
    → IsNamedIn t u
    → first (rules_where (is_known_acu (kind_known t))
    (unless (is_some (ram_named us (value_or [] row.ram t))) (UnknownUnit s))) ≡ fault_of (ram_in s units t)
unfolding ram_in
ram_first s us units t u same is = by (is_known_acu (kind_known t)) refl
  where
    by : (b : Bool)
        → is_known_acu (kind_known t) ≡ b
        → first (rules_where b (unless (is_some (ram_named us (value_or [] row.ram t))) (UnknownUnit s)))
        ≡ fault_of (where_has b (key s t row.ram >>= λ name. ok_or (ram_named units name) (UnknownUnit s)) 0)
    by false e = refl
    by true e =
        let (n, value) = is.ram (is_acu_yes u.kind (sym (ap is_known_acu is.known) ∙ e)) in
        let read = key_of_value s t row.ram n value in
        rw (read, value_is s [] t row.ram n read)
        (or_first (ram_named us n) (ram_named units n) (UnknownUnit s) (same n))

rams_first : (tables : List Members) (units : List of_unit.Unit)
    → AllZip IsNamedIn tables units
    → first (parts (each_from (ram_rules (map bare units)) 0 tables)) ≡ fault_of (in_turn (ram_at units) [] tables)
rams_first tables units zips =
    turns_first (ram_at units) (ram_rules (map bare units)) (λ before ys. length ys ≡ length before) tables each more
    refl
  where
    each : (before later : List Members) (ys : List ℕ) (t : Members)
        → tables ≡ before ++ t ∷ later
        → length ys ≡ length before
        → first (ram_rules (map bare units) (length before) t) ≡ fault_of (ram_at units ys t)
    each before later ys t is count =
        let (u, named) = zip_mid IsNamedIn before later t units (subst (λ ts. AllZip IsNamedIn ts units) is zips) in
        rw count (ram_first (section.Unit (length before)) (map bare units) units t u (bare_ram_named units) named)

    more : (before : List Members) (ys : List ℕ) (t : Members) (r : ℕ)
        → length ys ≡ length before
        → ram_at units ys t ≡ Ok r
        → length (ys ++ r ∷ []) ≡ length (before ++ t ∷ [])
    more before ys t r count e = length_push ys r ∙ ap (λ (n : ℕ). n + 1) count ∙ sym (length_push before t)

rams_first_at : (us : List of_unit.Unit) (tables : List Members) (units : List of_unit.Unit)
    → us ≡ map bare units
    → AllZip IsNamedIn tables units
    → first (parts (each_from (ram_rules us) 0 tables)) ≡ fault_of (in_turn (ram_at units) [] tables)
rams_first_at us tables units same zips =
    subst (λ (vs : List of_unit.Unit). first (parts (each_from (ram_rules vs) 0 tables))
    ≡ fault_of (in_turn (ram_at units) [] tables)) (sym same) (rams_first tables units zips)

all_units_first : (tables : List Members)
    → first (parts (each_from unit_rules 0 tables)) ≡ fault_of (in_turn unit_at [] tables)
all_units_first tables =
    turns_first unit_at unit_rules (λ before ys. length ys ≡ length before) tables
    (λ before later ys t is count. rw count (unit_first (length before) t))
    (λ before ys t u count e. length_push ys u ∙ ap (λ (n : ℕ). n + 1) count ∙ sym (length_push before t)) refl

-- the units, and what comes after them
pub units_first : {B : Type 0} (tables : List Members) (f : List of_unit.Unit → Read B) (after : RuleRow PathFault)
    → ((units : List of_unit.Unit)
    → units_of tables ≡ Ok units
    → map named_unit tables ≡ map bare units
    → first_in after ≡ fault_of (f units))
    → first_in (units_rules tables after) ≡ fault_of (units_of tables >>= f)
unfolding units_of
units_first tables f after rest =
    reads_then (in_turn unit_at [] tables) _ f _ _ (all_units_first tables) (λ units ue.
    let zips = all_named tables units ue in
    let names : map name_at tables ≡ map name_of units = names_are tables units zips in
    let bares : map named_unit tables ≡ map bare units = bare_are tables units zips in
    reads_then (in_turn unit_name_at [] (map name_of units)) _ f _ _
    (names_first_at (map name_at tables) (map name_of units) names)
    (λ its_names ne.
    reads_then (in_turn (ram_at units) [] tables) _ f _ _
    (rams_first_at (map named_unit tables) tables units bares zips) (λ rams re.
    rest (with_rams units rams) (rw (ue, ne, re) refl) (bares ∙ sym (bare_rams units rams)))))
