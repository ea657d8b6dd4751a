-- The units of a file without a fault are allowed.
use Rattle.std.proofs.Common.{◌≡◌, ◌≢◌, ℕ, suc, zero, pos, negsuc, ◌≤◌, Bool, true, false, ◌&&◌, List, [], ◌∷◌, ◌++◌}
use Rattle.std.proofs.Common.{length, map, codes, Option, Some, None, Ok, refl, ap, sym, ◌∙◌, subst, arith}
use Rattle.std.specs.Prelude.{slice_get, IsSomeAnd, option_map, option_and_then}
use Rattle.std.specs.List.{All, AllZip, list_any}
use Rattle.std.specs.Option.{ok_or}
use Rattle.std.specs.Result.{result_ok}
use Rattle.std.specs.Str.{bytes_eq}
use Rattle.std.proofs.lemmas.List.Elements.{All-nil}
use Rattle.std.proofs.lemmas.List.Quantifiers.{position-Some}
use Rattle.std.proofs.lemmas.Option.{slice_get-get_or}
use Rattle.std.proofs.lemmas.Slice.Eq.{bytes_eq-Decides}
use Rattle.lists.proofs.Zips.{zip_length}
use Rattle.lists.proofs.Places.{some_is}
use Rattle.lists.proofs.Bools.{first_true}
use Rattle.toml.specs.Data.{Data, Members, string, integer, float, boolean, datetime, array, table, get_member}
use Rattle.datapath.specs.declared.fault.Section.{Section}
use Rattle.datapath.specs.declared.fault.PathFault.TheVariants.{UnknownUnit}
use Rattle.operations.specs.declared.units.Kind.{Kind}
use Rattle.operations.specs.declared.units.Kind.TheVariants.{Input, Output, Rom, Alu, Mul, Sel, Ram, Acu}
use Rattle.datapath.specs.declared.types.Unit as of_unit
use Rattle.datapath.specs.Values.{whole, is_within, is_name, name, kind, array_within}
use Rattle.datapath.specs.Table as row
use Rattle.datapath.specs.Table.{ports, is_ram, is_acu, unit_keys, no_files}
use Rattle.datapath.specs.Reading.{◌>>=◌, found, key, only, where_has, in_turn}
use Rattle.datapath.specs.Names.{ram_named}
use Rattle.datapath.specs.PathOf.{kind_known, is_known_acu, unit_in, unit_at, unit_name_at, ram_in, ram_at, with_ram}
use Rattle.datapath.specs.PathOf.{with_rams, units_of}
use Rattle.datapath.specs.Allowed.{IsWithin, IsDistinct, IsUnit}
use Rattle.datapath.proofs.Rams.{length-with_rams}
use Rattle.datapath.proofs.Kept.{bind_ok, same_Ok, passes, some_of, has_row, turn_keeps, turn_zips, zip_same}
use Rattle.datapath.proofs.Kept.{distinct_none, distinct_push, All-cons, within, if_within, judged_ok, key_ok, array_ok}
use Rattle.datapath.proofs.Kept.{within_ok}

pub whole_ok : (least most : ℕ) (d : Data) (n : ℕ) → whole least most d ≡ Ok n → IsWithin least most n
whole_ok least most (integer (pos k)) n h =
    let (holds, is) = if_within (is_within least most k) k n h in
    subst (IsWithin least most) is (within least most k holds)
whole_ok least most (integer (negsuc k)) n h = absurd (cc)
whole_ok least most (string s) n h = absurd (cc)
whole_ok least most (float f) n h = absurd (cc)
whole_ok least most (boolean b) n h = absurd (cc)
whole_ok least most (datetime t) n h = absurd (cc)
whole_ok least most (array ds) n h = absurd (cc)
whole_ok least most (table ms) n h = absurd (cc)

pub name_ok : (d : Data) (s : List ℕ) → name d ≡ Ok s → is_name s ≡ true
name_ok (string s) n h = let (holds, is) = if_within (is_name s) s n h in subst (λ m. is_name m ≡ true) is holds
name_ok (integer k) n h = absurd (cc)
name_ok (float f) n h = absurd (cc)
name_ok (boolean b) n h = absurd (cc)
name_ok (datetime t) n h = absurd (cc)
name_ok (array ds) n h = absurd (cc)
name_ok (table ms) n h = absurd (cc)

pub no_default : {A : Type 0} (P : A → Type 0) (y : A) → ◌≡◌ {A = Option A} None (Some y) → P y
no_default P y h = absurd (cc)

pub is_ram_yes : (k : Kind) → is_ram k ≡ true → k ≡ Ram
is_ram_yes Ram h = refl
is_ram_yes Input h = absurd (cc)
is_ram_yes Output h = absurd (cc)
is_ram_yes Rom h = absurd (cc)
is_ram_yes Alu h = absurd (cc)
is_ram_yes Mul h = absurd (cc)
is_ram_yes Sel h = absurd (cc)
is_ram_yes Acu h = absurd (cc)

pub is_ram_no : (k : Kind) → k ≢ Ram → is_ram k ≡ false
is_ram_no Ram other = absurd (other refl)
is_ram_no Input other = refl
is_ram_no Output other = refl
is_ram_no Rom other = refl
is_ram_no Alu other = refl
is_ram_no Mul other = refl
is_ram_no Sel other = refl
is_ram_no Acu other = refl

pub is_acu_no : (k : Kind) → k ≢ Acu → is_acu k ≡ false
is_acu_no Acu other = absurd (other refl)
is_acu_no Input other = refl
is_acu_no Output other = refl
is_acu_no Rom other = refl
is_acu_no Alu other = refl
is_acu_no Mul other = refl
is_acu_no Sel other = refl
is_acu_no Ram other = refl

-- the registers of the files
abbrev AreFiles : ℕ → List ℕ → Type 0
AreFiles ports sizes = (length sizes ≡ ports) × All (IsWithin 1 256) sizes

files_value : (ports : ℕ) (d : Data) (sizes : List ℕ)
    → array_within ports ports (whole 1 256) d ≡ Ok sizes
    → AreFiles ports sizes
files_value ports d sizes h =
    let (count, all) = within_ok ports ports (whole 1 256) d sizes h in (
      (let low = count.0 in let high = count.1 in omega arith),
      array_ok (whole 1 256) (IsWithin 1 256)
          (whole_ok 1 256) d sizes all,
    )

files_default : (ports : ℕ) (sizes : List ℕ) → no_files ports ≡ Some sizes → AreFiles ports sizes
files_default zero sizes h = let none : [] ≡ sizes = some_is [] sizes h in subst (AreFiles zero) none
    (refl, All-nil (IsWithin 1 256))
files_default (suc n) sizes h = absurd (cc)

known_of : (s : Section) (o : Option Data) (k : Kind)
    → found s None (option_map kind o) ≡ Ok k
    → option_and_then (λ d. result_ok (kind d)) o ≡ Some k
known_of s None k h = absurd (cc)
known_of s (Some d) k h = rw (judged_ok s (kind d) k h) refl

pub kind_found : (s : Section) (t : Members) (k : Kind) → key s t row.kind ≡ Ok k → kind_known t ≡ Some k
unfolding key kind_known
kind_found s t k h = known_of s (get_member (codes "kind") t) k h

-- a unit of this table, its ram aside
record IsRead (t : Members) (u : of_unit.Unit) : Type 0 where
  pub known : kind_known t ≡ Some u.kind
  pub name : is_name u.name ≡ true
  pub latency : IsWithin 1 8 u.latency
  pub gap : IsWithin 1 u.latency u.gap
  pub files : AreFiles (ports u.kind) u.files
  pub cells : u.kind ≡ Ram → IsWithin 1 65536 u.cells
  pub no_cells : u.kind ≢ Ram → u.cells ≡ 0

-- the gap, where the latency is 1 at least
abbrev IsGap : ℕ → ℕ → Type 0
IsGap latency gap = 1 ≤ latency → IsWithin 1 latency gap

IsGap-from_within : (latency gap : ℕ) → IsWithin 1 latency gap → IsGap latency gap
IsGap-from_within latency gap h = λ _. h

IsGap-one : (latency gap : ℕ) → 1 ≡ gap → IsGap latency gap
IsGap-one latency gap is = λ some. (omega arith, omega arith)

one_within : (most : ℕ) → 1 ≤ most → (n : ℕ) → Some 1 ≡ Some n → IsWithin 1 most n
one_within most some n e = subst (IsWithin 1 most) (some_is 1 n e) (omega arith, some)

read_ok : (s : Section) (t : Members) (u : of_unit.Unit) → unit_in s t ≡ Ok u → IsRead t u
unfolding unit_in
read_ok s t u h =
    let (k, ke, h1) = bind_ok (only s t (unit_keys (kind_known t))) _ u h in
    let (n, ne, h2) = bind_ok (key s t row.name) _ u h1 in
    let (kd, kde, h3) = bind_ok (key s t row.kind) _ u h2 in
    let (l, le, h4) = bind_ok (key s t row.latency) _ u h3 in
    let (g, ge, h5) = bind_ok (key s t (row.gap l)) _ u h4 in
    let (fs, fe, h6) = bind_ok (key s t (row.files (ports kd))) _ u h5 in
    let (cs, ce, h7) = bind_ok (where_has (is_ram kd) (key s t row.cells) 0) _ u h6 in
    let (r, re, h8) = bind_ok (where_has (is_acu kd) (key s t row.ram) []) _ u h7 in
    let same : record { name = n; kind = kd; latency = l; gap = g; files = fs; cells = cs; ram = 0 } ≡ u = same_Ok _ _
    h8 in
    let cells = has_row (is_ram kd) (key s t row.cells) 0 cs ce in
    subst (IsRead t) same (record {
      known = kind_found s t kd kde;
      name = key_ok s t row.name n ne (λ m. is_name m ≡ true) name_ok (no_default (λ m. is_name m ≡ true));
      latency = key_ok s t row.latency l le (IsWithin 1 8) (whole_ok 1 8) (one_within 8 (omega arith));
      gap = key_ok s t (row.gap l) g ge (IsGap l) (λ d y e. IsGap-from_within l y (whole_ok 1 l d y e))
          (λ y e. IsGap-one l y (some_is 1 y e))
          (key_ok s t row.latency l le (λ m. 1 ≤ m) (λ d y e. (whole_ok 1 8 d y e).0)
          (λ y e. (one_within 8 (omega arith) y e).0));
      files = key_ok s t (row.files (ports kd)) fs fe (AreFiles (ports kd)) (files_value (ports kd))
          (files_default (ports kd));
      cells = λ is. key_ok s t row.cells cs (cells.0 (ap is_ram is)) (IsWithin 1 65536) (whole_ok 1 65536)
          (no_default (IsWithin 1 65536));
      no_cells = λ other. cells.1 (is_ram_no kd other);
    })

pub no_unit : of_unit.Unit
no_unit = record { name = []; kind = Input; latency = 1; gap = 1; files = []; cells = 0; ram = 0 }

-- the position is that of a ram
abbrev pub IsRamAt : List of_unit.Unit → ℕ → Type 0
IsRamAt units r = IsSomeAnd (slice_get units r) (λ ram. ram.kind ≡ Ram)

ram_there : (units : List of_unit.Unit) (n : List ℕ) (r : ℕ) → ram_named units n ≡ Some r → IsRamAt units r
ram_there units n r h =
    let (there, holds, before) = position-Some (λ unit. is_ram unit.kind && bytes_eq n unit.name) units r no_unit h in
    rw (slice_get-get_or units r no_unit there) (is_ram_yes _ (first_true _ _ holds))

-- the ram that a table of this kind names
abbrev IsTied : List of_unit.Unit → Option Kind → ℕ → Type 0
IsTied units known r = (known ≡ Some Acu → IsRamAt units r) × ((k : Kind) → known ≡ Some k → k ≢ Acu → r ≡ 0)

tied_ok : (s : Section) (units : List of_unit.Unit) (t : Members) (r : ℕ)
    → ram_in s units t ≡ Ok r
    → IsTied units (kind_known t) r
unfolding ram_in
tied_ok s units t r h =
    let tied = has_row (is_known_acu (kind_known t))
    (key s t row.ram >>= λ name. ok_or (ram_named units name) (UnknownUnit s)) 0 r h in (
      λ is. let (n, ne, named) = bind_ok (key s t row.ram) _ r (tied.0 (ap is_known_acu is)) in ram_there units n r
          (some_of _ _ r named),
      λ k is other. tied.1 (ap is_known_acu is ∙ is_acu_no k other),
    )

with_rams_kind : (units : List of_unit.Unit) (rams : List ℕ) (r : ℕ)
    → IsRamAt units r
    → IsRamAt (with_rams units rams) r
unfolding with_rams
with_rams_kind units [] r h = h
with_rams_kind [] (ram ∷ rams) r h = h
with_rams_kind (u ∷ units) (ram ∷ rams) zero h = h
with_rams_kind (u ∷ units) (ram ∷ rams) (suc r) h = with_rams_kind units rams r h

pub with_rams_names : (units : List of_unit.Unit) (rams : List ℕ)
    → map (λ unit. unit.name) (with_rams units rams) ≡ map (λ unit. unit.name) units
unfolding with_rams
with_rams_names units [] = refl
with_rams_names [] (ram ∷ rams) = refl
with_rams_names (u ∷ units) (ram ∷ rams) = ap (λ ns. u.name ∷ ns) (with_rams_names units rams)

module _ (units all : List of_unit.Unit) (keeps : (r : ℕ) → IsRamAt units r → IsRamAt all r) where
  allowed_one : (t : Members) (u : of_unit.Unit) (r : ℕ)
      → IsRead t u
      → IsTied units (kind_known t) r
      → IsUnit all (with_ram u r)
  allowed_one t u r read tied = record {
    name = read.name;
    latency = read.latency;
    gap = read.gap;
    file_count = read.files.0;
    files = read.files.1;
    cells = read.cells;
    no_cells = read.no_cells;
    ram = λ is. keeps r (tied.0 (read.known ∙ ap Some is));
    no_ram = λ other. tied.1 u.kind read.known other;
  }

  allowed_each : (ts : List Members) (us : List of_unit.Unit) (rs : List ℕ)
      → AllZip IsRead ts us
      → AllZip (λ t r. IsTied units (kind_known t) r) ts rs
      → All (IsUnit all) (with_rams us rs)
  unfolding with_rams
  allowed_each [] [] [] reads ties = All-nil (IsUnit all)
  allowed_each [] (u ∷ us) rs reads ties = absurd reads
  allowed_each [] [] (r ∷ rs) reads ties = absurd ties
  allowed_each (t ∷ ts) [] rs reads ties = absurd reads
  allowed_each (t ∷ ts) (u ∷ us) [] reads ties = absurd ties
  allowed_each (t ∷ ts) (u ∷ us) (r ∷ rs) reads ties =
      All-cons (IsUnit all) (with_ram u r) (with_rams us rs) (allowed_one t u r reads.0 ties.0)
      (allowed_each ts us rs reads.1 ties.1)

pub finds_same : (n x : List ℕ) → x ≡ n → bytes_eq n x ≡ true
finds_same n x is = (bytes_eq-Decides n x).1 (sym is)

pub new_distinct : (before : List (List ℕ)) (n : List ℕ)
    → list_any (bytes_eq n) before ≡ false
    → IsDistinct before
    → IsDistinct (before ++ n ∷ [])
new_distinct before n none pairs = distinct_push (bytes_eq n) before n (finds_same n) none pairs

names_distinct : (names out : List (List ℕ)) → in_turn unit_name_at [] names ≡ Ok out → IsDistinct names
names_distinct names out h =
    let same : out ≡ names = zip_same names out
    (turn_zips unit_name_at (λ x y. x ≡ y) (λ before x y e. (passes _ x y _ e).1) names out h) in
    subst IsDistinct same
    (turn_keeps unit_name_at IsDistinct (λ before x y pairs e.
    let (none, is) = passes _ x y _ e in
    subst (λ n. IsDistinct (before ++ n ∷ [])) is (new_distinct before x none pairs)) names [] out distinct_none h)

pub record AreUnits (count : ℕ) (units : List of_unit.Unit) : Type 0 where
  pub count_is : length units ≡ count
  pub allowed : All (IsUnit units) units
  pub distinct : IsDistinct (map (λ unit. unit.name) units)

pub units_ok : (tables : List Members) (out : List of_unit.Unit)
    → units_of tables ≡ Ok out
    → AreUnits (length tables) out
unfolding units_of
units_ok tables out h =
    let (units, ue, h1) = bind_ok (in_turn unit_at [] tables) _ out h in
    let (names, ne, h2) = bind_ok (in_turn unit_name_at [] (map (λ unit. unit.name) units)) _ out h1 in
    let (rams, re, h3) = bind_ok (in_turn (ram_at units) [] tables) _ out h2 in
    let same : with_rams units rams ≡ out = same_Ok _ _ h3 in
    let reads : AllZip IsRead tables units = turn_zips unit_at IsRead (λ before t u e. read_ok _ t u e) tables units
    ue in
    let ties : AllZip (λ t r. IsTied units (kind_known t) r) tables rams =
    turn_zips (ram_at units) (λ t r. IsTied units (kind_known t) r) (λ before t r e. tied_ok _ units t r e) tables
    rams re in
    subst (AreUnits (length tables)) same (record {
      count_is = length-with_rams units rams ∙ zip_length IsRead tables units reads;
      allowed = allowed_each units (with_rams units rams) (with_rams_kind units rams) tables units rams reads ties;
      distinct = subst IsDistinct (sym (with_rams_names units rams)) (names_distinct _ names ne);
    })
