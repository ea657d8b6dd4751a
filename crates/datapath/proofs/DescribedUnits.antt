-- The units that are read are those that their tables describe.
use Rattle.std.proofs.Common.{◌≡◌, ◌≢◌, ℕ, suc, zero, Bool, true, false, ◌&&◌, List, [], ◌∷◌, ◌++◌, map, get_or, Option}
use Rattle.std.proofs.Common.{Some, Ok, refl, ap, sym, ◌∙◌, subst}
use Rattle.std.specs.List.{AllZip, list_any}
use Rattle.std.specs.Option.{ok_or}
use Rattle.std.specs.Str.{bytes_eq}
use Rattle.std.proofs.lemmas.List.Quantifiers.{position-Some}
use Rattle.std.proofs.lemmas.Option.{slice_get-get_or}
use Rattle.std.proofs.lemmas.Slice.Eq.{bytes_eq-Decides}
use Rattle.lists.proofs.Bools.{second_true, first_true as and_left}
use Rattle.toml.specs.Data.{Members}
use Rattle.datapath.specs.declared.fault.Section.{Section}
use Rattle.datapath.specs.declared.fault.PathFault.TheVariants.{UnknownUnit}
use Rattle.datapath.specs.declared.types.Unit as of_unit
use Rattle.operations.specs.declared.units.Kind.{Kind}
use Rattle.operations.specs.declared.units.Kind.TheVariants.{Input, Output, Rom, Alu, Mul, Sel, Ram, Acu}
use Rattle.datapath.specs.Table as row
use Rattle.datapath.specs.Table.{ports, is_ram, is_acu, unit_keys}
use Rattle.datapath.specs.Reading.{◌>>=◌, key, only, where_has, in_turn}
use Rattle.datapath.specs.Names.{ram_named}
use Rattle.datapath.specs.PathOf.{kind_known, is_known_acu, unit_in, unit_at, unit_name_at, ram_in, ram_at, with_ram}
use Rattle.datapath.specs.PathOf.{with_rams, units_of}
use Rattle.datapath.specs.Allowed.{IsDistinct}
use Rattle.datapath.specs.Described.{IsValue, HasOnly, IsRamNamed, IsUnitIn}
use Rattle.datapath.proofs.Fresh.{name_of}
use Rattle.datapath.proofs.Kept.{bind_ok, same_Ok, some_of, has_row, turn_zips}
use Rattle.datapath.proofs.AllowedUnits.{is_ram_no, is_acu_no, is_ram_yes, no_unit, kind_found, finds_same}
use Rattle.datapath.proofs.Named.{none_before}
use Rattle.datapath.proofs.DescribedKeys.{value_of_key, key_of_value, has_only, only_has, bind_to, row_has, turns_read}
use Rattle.datapath.proofs.DescribedKeys.{zip_map, zip_refl, none_earlier, some_at, position_is}

pub is_acu_yes : (k : Kind) → is_acu k ≡ true → k ≡ Acu
is_acu_yes Acu h = refl
is_acu_yes Input h = absurd (cc)
is_acu_yes Output h = absurd (cc)
is_acu_yes Rom h = absurd (cc)
is_acu_yes Alu h = absurd (cc)
is_acu_yes Mul h = absurd (cc)
is_acu_yes Sel h = absurd (cc)
is_acu_yes Ram h = absurd (cc)

-- a unit, but for its ram
record IsReadIn (t : Members) (u : of_unit.Unit) : Type 0 where
  pub known : kind_known t ≡ Some u.kind
  pub keys : HasOnly (unit_keys (Some u.kind)) t
  pub name : IsValue row.name t u.name
  pub kind : IsValue row.kind t u.kind
  pub latency : IsValue row.latency t u.latency
  pub gap : IsValue (row.gap u.latency) t u.gap
  pub files : IsValue (row.files (ports u.kind)) t u.files
  pub cells : u.kind ≡ Ram → IsValue row.cells t u.cells
  pub no_cells : u.kind ≢ Ram → u.cells ≡ 0

read_in : (s : Section) (t : Members) (u : of_unit.Unit) → unit_in s t ≡ Ok u → IsReadIn t u
unfolding unit_in
read_in s t u h =
    let (k, ke, h1) = bind_ok (only s t (unit_keys (kind_known t))) _ u h in
    let (n, ne, h2) = bind_ok (key s t row.name) _ u h1 in
    let (kd, kde, h3) = bind_ok (key s t row.kind) _ u h2 in
    let (l, le, h4) = bind_ok (key s t row.latency) _ u h3 in
    let (g, ge, h5) = bind_ok (key s t (row.gap l)) _ u h4 in
    let (fs, fe, h6) = bind_ok (key s t (row.files (ports kd))) _ u h5 in
    let (cs, ce, h7) = bind_ok (where_has (is_ram kd) (key s t row.cells) 0) _ u h6 in
    let (r, re, h8) = bind_ok (where_has (is_acu kd) (key s t row.ram) []) _ u h7 in
    let same : record { name = n; kind = kd; latency = l; gap = g; files = fs; cells = cs; ram = 0 } ≡ u =
    same_Ok _ _ h8 in
    let known = kind_found s t kd kde in
    let cells = has_row (is_ram kd) (key s t row.cells) 0 cs ce in
    subst (IsReadIn t) same (record {
      known = known;
      keys = subst (λ (o : Option Kind). HasOnly (unit_keys o) t) known (has_only s t (unit_keys (kind_known t)) k ke);
      name = value_of_key s t row.name n ne;
      kind = value_of_key s t row.kind kd kde;
      latency = value_of_key s t row.latency l le;
      gap = value_of_key s t (row.gap l) g ge;
      files = value_of_key s t (row.files (ports kd)) fs fe;
      cells = λ is. value_of_key s t row.cells cs (cells.0 (ap is_ram is));
      no_cells = λ other. cells.1 (is_ram_no kd other);
    })

abbrev is_ram_of : List ℕ → of_unit.Unit → Bool
is_ram_of n unit = is_ram unit.kind && bytes_eq n unit.name

ram_found : (units : List of_unit.Unit) (n : List ℕ) (r : ℕ) → ram_named units n ≡ Some r → IsRamNamed units n r
ram_found units n r h =
    let (there, holds, before) = position-Some (is_ram_of n) units r no_unit h in
    let unit = get_or units r no_unit in
    rw (slice_get-get_or units r no_unit there) (
      is_ram_yes unit.kind (and_left _ _ holds),
      sym ((bytes_eq-Decides n unit.name).0 (second_true (is_ram unit.kind) _ holds)),
    )

-- the ram that a table names
abbrev IsTiedIn : List of_unit.Unit → Members → ℕ → Type 0
IsTiedIn units t r =
    (kind_known t ≡ Some Acu → (name : List ℕ) × IsValue row.ram t name × IsRamNamed units name r)
    × ((k : Kind) → kind_known t ≡ Some k → k ≢ Acu → r ≡ 0)

tied_in : (s : Section) (units : List of_unit.Unit) (t : Members) (r : ℕ) → ram_in s units t ≡ Ok r
    → IsTiedIn units t r
unfolding ram_in
tied_in s units t r h =
    let tied = has_row (is_known_acu (kind_known t))
    (key s t row.ram >>= λ name. ok_or (ram_named units name) (UnknownUnit s)) 0 r h in (
      λ is. let (n, ne, named) = bind_ok (key s t row.ram) _ r (tied.0 (ap is_known_acu is)) in
          (n, value_of_key s t row.ram n ne, ram_found units n r (some_of _ _ r named)),
      λ k is other. tied.1 (ap is_known_acu is ∙ is_acu_no k other),
    )

with_rams_named : (n : List ℕ) (units : List of_unit.Unit) (rams : List ℕ) (r : ℕ)
    → IsRamNamed units n r
    → IsRamNamed (with_rams units rams) n r
unfolding with_rams
with_rams_named n units [] r h = h
with_rams_named n [] (ram ∷ rams) r h = h
with_rams_named n (u ∷ units) (ram ∷ rams) zero h = h
with_rams_named n (u ∷ units) (ram ∷ rams) (suc r) h = with_rams_named n units rams r h

module _ (units all : List of_unit.Unit)
    (keeps : (n : List ℕ) (r : ℕ) → IsRamNamed units n r → IsRamNamed all n r) where
  described_one : (t : Members) (u : of_unit.Unit) (r : ℕ)
      → IsReadIn t u
      → IsTiedIn units t r
      → IsUnitIn all t (with_ram u r)
  described_one t u r read tied = record {
    keys = read.keys;
    name = read.name;
    kind = read.kind;
    latency = read.latency;
    gap = read.gap;
    files = read.files;
    cells = read.cells;
    no_cells = read.no_cells;
    ram = λ is. let (n, value, named) = tied.0 (read.known ∙ ap Some is) in (n, value, keeps n r named);
    no_ram = λ other. tied.1 u.kind read.known other;
  }

  described_each : (ts : List Members) (us : List of_unit.Unit) (rs : List ℕ)
      → AllZip IsReadIn ts us
      → AllZip (IsTiedIn units) ts rs
      → AllZip (IsUnitIn all) ts (with_rams us rs)
  unfolding with_rams
  described_each [] [] [] reads ties = tt
  described_each [] (u ∷ us) rs reads ties = absurd reads
  described_each [] [] (r ∷ rs) reads ties = absurd ties
  described_each (t ∷ ts) [] rs reads ties = absurd reads
  described_each (t ∷ ts) (u ∷ us) [] reads ties = absurd ties
  described_each (t ∷ ts) (u ∷ us) (r ∷ rs) reads ties =
      (described_one t u r reads.0 ties.0, described_each ts us rs reads.1 ties.1)

pub units_described : (tables : List Members) (out : List of_unit.Unit)
    → units_of tables ≡ Ok out
    → AllZip (IsUnitIn out) tables out
unfolding units_of
units_described tables out h =
    let (units, ue, h1) = bind_ok (in_turn unit_at [] tables) _ out h in
    let (names, ne, h2) = bind_ok (in_turn unit_name_at [] (map (λ unit. unit.name) units)) _ out h1 in
    let (rams, re, h3) = bind_ok (in_turn (ram_at units) [] tables) _ out h2 in
    let same : with_rams units rams ≡ out = same_Ok _ _ h3 in
    let reads = turn_zips unit_at IsReadIn (λ before t u e. read_in _ t u e) tables units ue in
    let ties = turn_zips (ram_at units) (IsTiedIn units) (λ before t r e. tied_in _ units t r e) tables rams re in
    subst (λ (us : List of_unit.Unit). AllZip (IsUnitIn us) tables us) same
    (described_each units (with_rams units rams) (λ n r named. with_rams_named n units rams r named) tables units rams
    reads ties)

-- a unit as the first pass reads it
abbrev unread : of_unit.Unit → of_unit.Unit
unread u = with_ram u 0

abbrev ram_of : of_unit.Unit → ℕ
ram_of u = u.ram

unread_names : (units : List of_unit.Unit) → map name_of (map unread units) ≡ map name_of units
unread_names [] = refl
unread_names (u ∷ units) = ap (λ (ns : List (List ℕ)). u.name ∷ ns) (unread_names units)

unread_ram : (n : List ℕ) (units : List of_unit.Unit) (r : ℕ) → IsRamNamed units n r → IsRamNamed (map unread units) n r
unread_ram n [] r h = h
unread_ram n (u ∷ units) zero h = h
unread_ram n (u ∷ units) (suc r) h = unread_ram n units r h

rams_back : (units : List of_unit.Unit) → with_rams (map unread units) (map ram_of units) ≡ units
unfolding with_rams
rams_back [] = refl
rams_back (u ∷ units) = ap (λ (us : List of_unit.Unit). u ∷ us) (rams_back units)

module _ (all : List of_unit.Unit) (t : Members) (u : of_unit.Unit) (is : IsUnitIn all t u) where
  known : (s : Section) → kind_known t ≡ Some u.kind
  known s = kind_found s t u.kind (key_of_value s t row.kind u.kind is.kind)

  -- what the first pass reads at `ram`, which it drops
  some_ram : (s : Section) (b : Bool)
      → is_acu u.kind ≡ b
      → (name : List ℕ) × (where_has (is_acu u.kind) (key s t row.ram) [] ≡ Ok name)
  some_ram s true e =
      let (name, value, named) = is.ram (is_acu_yes u.kind e) in (
        name,
        row_has (is_acu u.kind) (key s t row.ram) [] name (λ _. key_of_value s t row.ram name value)
            (λ no. absurd (let clash : true ≡ false = sym e ∙ no in cc)),
      )
  some_ram s false e = (
    [],
    row_has (is_acu u.kind) (key s t row.ram) [] [] (λ yes. absurd (let clash : true ≡ false = sym yes ∙ e in cc))
        (λ _. refl),
  )

  unit_read : (s : Section) → unit_in s t ≡ Ok (unread u)
  unfolding unit_in
  unit_read s =
      let kind_is = known s in
      let keys : only s t (unit_keys (kind_known t)) ≡ Ok tt =
      only_has s t (unit_keys (kind_known t))
      (subst (λ (o : Option Kind). HasOnly (unit_keys o) t) (sym kind_is) is.keys)
      in
      let cells : where_has (is_ram u.kind) (key s t row.cells) 0 ≡ Ok u.cells =
      row_has (is_ram u.kind) (key s t row.cells) 0 u.cells
      (λ yes. key_of_value s t row.cells u.cells (is.cells (is_ram_yes u.kind yes)))
      (λ no. is.no_cells (λ e. let clash : true ≡ false = sym (ap is_ram e) ∙ no in absurd (cc))) in
      let (ram, ram_is) = some_ram s (is_acu u.kind) refl in
      bind_to (only s t (unit_keys (kind_known t))) _ tt _ keys
      (bind_to (key s t row.name) _ u.name _ (key_of_value s t row.name u.name is.name)
      (bind_to (key s t row.kind) _ u.kind _ (key_of_value s t row.kind u.kind is.kind)
      (bind_to (key s t row.latency) _ u.latency _ (key_of_value s t row.latency u.latency is.latency)
      (bind_to (key s t (row.gap u.latency)) _ u.gap _ (key_of_value s t (row.gap u.latency) u.gap is.gap)
      (bind_to (key s t (row.files (ports u.kind))) _ u.files _
      (key_of_value s t (row.files (ports u.kind)) u.files is.files)
      (bind_to (where_has (is_ram u.kind) (key s t row.cells) 0) _ u.cells _ cells
      (bind_to (where_has (is_acu u.kind) (key s t row.ram) []) _ ram _ ram_is refl)))))))

  module _ (units : List of_unit.Unit) (apart : IsDistinct (map name_of units))
      (same : (n : List ℕ) (r : ℕ) → IsRamNamed all n r → IsRamNamed units n r) where
    ram_there : (n : List ℕ) (r : ℕ) → IsRamNamed units n r → ram_named units n ≡ Some r
    ram_there n r h =
        let (within, its) = some_at (λ (v : of_unit.Unit). (v.kind ≡ Ram) × (v.name ≡ n)) units r no_unit h in
        let here : bytes_eq n (name_of (get_or units r no_unit)) ≡ true = finds_same n _ its.1 in
        position_is (is_ram_of n) units r no_unit within (rw (its.0, here) refl)
        (λ k less. none_at k (none_before units n apart r k less within here))
      where
        and_false : (a b : Bool) → b ≡ false → (a && b) ≡ false
        and_false true b h = h
        and_false false b h = refl

        none_at : (k : ℕ)
            → bytes_eq n (name_of (get_or units k no_unit)) ≡ false
            → is_ram_of n (get_or units k no_unit) ≡ false
        none_at k other = and_false _ _ other

    ram_read : (s : Section) → ram_in s units t ≡ Ok u.ram
    unfolding ram_in
    ram_read s =
        row_has (is_known_acu (kind_known t))
        (key s t row.ram >>= λ name. ok_or (ram_named units name) (UnknownUnit s)) 0 u.ram
        (λ yes.
        let acu : u.kind ≡ Acu = is_acu_yes u.kind (sym (ap is_known_acu (known s)) ∙ yes) in
        let (name, value, named) = is.ram acu in
        bind_to (key s t row.ram) _ name _ (key_of_value s t row.ram name value)
        (rw (ram_there name u.ram (same name u.ram named)) refl))
        (λ no. is.no_ram (λ e.
        let clash : true ≡ false = sym (ap is_acu e) ∙ sym (ap is_known_acu (known s)) ∙ no in absurd (cc)))

pub units_read : (tables : List Members) (out : List of_unit.Unit)
    → AllZip (IsUnitIn out) tables out
    → IsDistinct (map name_of out)
    → units_of tables ≡ Ok out
unfolding units_of
units_read tables out zips apart =
    let units = map unread out in
    let rams = map ram_of out in
    let names_are : map name_of units ≡ map name_of out = unread_names out in
    let units_apart : IsDistinct (map name_of units) = subst IsDistinct (sym names_are) apart in
    let first : in_turn unit_at [] tables ≡ Ok units =
    turns_read unit_at (λ t v. (s : Section) → unit_in s t ≡ Ok v) units (λ before rest t v is reads. reads _) tables
    (zip_map (IsUnitIn out) (λ t v. (s : Section) → unit_in s t ≡ Ok v) unread (λ t u is s. unit_read out t u is s)
    tables out zips) in
    let names : in_turn unit_name_at [] (map name_of units) ≡ Ok (map name_of units) =
    turns_read unit_name_at (λ x y. x ≡ y) (map name_of units)
    (λ before rest x y is same. name_read before rest x y (subst IsDistinct is units_apart) same)
    (map name_of units) (zip_refl (map name_of units)) in
    let last : in_turn (ram_at units) [] tables ≡ Ok rams =
    turns_read (ram_at units) (λ t r. (s : Section) → ram_in s units t ≡ Ok r) rams
    (λ before rest t r is reads. reads _)
    tables
    (zip_map (IsUnitIn out) (λ t r. (s : Section) → ram_in s units t ≡ Ok r) ram_of
    (λ t u is s. ram_read out t u is units units_apart (λ n r named. unread_ram n out r named) s) tables out zips) in
    bind_to (in_turn unit_at [] tables) _ units _ first
    (bind_to (in_turn unit_name_at [] (map name_of units)) _ (map name_of units) _ names
    (bind_to (in_turn (ram_at units) [] tables) _ rams _ last (ap Ok (rams_back out))))
  where
    name_read : (before rest : List (List ℕ)) (x y : List ℕ)
        → IsDistinct (before ++ y ∷ rest)
        → x ≡ y
        → unit_name_at before x ≡ Ok y
    name_read before rest x y differ same =
        let none : list_any (bytes_eq x) before ≡ false =
        none_earlier (bytes_eq x) before rest y (λ z yes. sym ((bytes_eq-Decides x z).0 yes) ∙ same) differ in
        rw none (ap Ok same)
