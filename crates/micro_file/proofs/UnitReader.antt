-- The readers of units.
use Rattle.std.proofs.Common.{◌≡◌, ◌≢◌, Bool, true, false, cond, ℕ, suc, ◌+◌, ◌<◌, ◌≤◌, arith, List, [], ◌∷◌, ◌++◌}
use Rattle.std.proofs.Common.{length, Option, Some, None, Result, Ok, Err, ℤ, refl, sym, ap, subst, ◌∙◌, append_assoc}
use Rattle.std.specs.Prelude.{IsSomeAnd, slice_get, slice_index_or}
use Rattle.std.specs.Bool.{Decides}
use Rattle.std.specs.List.{All, flat_map}
use Rattle.std.proofs.lemmas.List.{append-nil}
use Rattle.std.proofs.lemmas.List.Elements.{All-nil, All-cons}
use Rattle.std.proofs.lemmas.Option.{slice_get_within}
use Rattle.fix_word.specs.Words.{IsMachineWord}
use Rattle.operations.specs.declared.units.Kind.{Kind}
use Rattle.operations.specs.declared.units.Kind.TheVariants as kind
use Rattle.micro_image.specs.declared.image.UnitDesc.{UnitDesc}
use Rattle.micro_image.specs.Form.{Form, spelled_file, spelled_memory, spelled_unit}
use Rattle.micro_image.specs.Valid.{IsWithin, IsFile, IsUnit, ports}
use Rattle.micro_file.specs.declared.misread.Misread.{Misread}
use Rattle.micro_file.specs.declared.misread.Misread.TheVariants.{Field}
use Rattle.micro_file.specs.Private.Fields.{Reading, ◌>>=◌, many_at}
use Rattle.micro_file.specs.Private.FormAt.{FormAt}
use Rattle.micro_file.specs.Private.Units.{file_at, cells_at, ram_at, unit_at, is_ram, is_some_ram, is_tied_by, is_tied}
use Rattle.micro_file.specs.Private.Units.{judged}
use Rattle.micro_file.specs.Private.Units.{judged_at, some_units_at, units_at}
use Rattle.micro_file.specs.Private.Ends.{ends_of, all_judged}
use Rattle.micro_bits.proofs.Bits.{IsDigits}
use Rattle.micro_file.proofs.FormReader.{ReadsForm}
use Rattle.micro_file.proofs.Judgement.{judged_by}
use Rattle.micro_file.proofs.Readers.{Takes, ◌⨟◌, takes_none, Took, IsReader, such_reader, well, bound, joined, ok_is}
use Rattle.micro_file.proofs.Several.{all_from, grows_all, many_reader, counted_by}
use Rattle.micro_file.proofs.Steps.{bound2, joined2, bound6, joined6}

-- ---- what a ram alone has

abbrev pub AreCells : Kind → List ℤ → Type 0
AreCells kind.Ram cells = IsWithin 1 65536 (length cells) × All IsMachineWord cells
AreCells _ cells = cells ≡ []

-- the cells, as a unit's facts say it
record AreUnitCells (k : Kind) (cells : List ℤ) : Type 0 where
  raw_words : All IsMachineWord cells
  cell_count : k ≡ kind.Ram → IsWithin 1 65536 (length cells)
  no_cells : k ≢ kind.Ram → cells ≡ []

are_unit_cells : (k : Kind) (cells : List ℤ) → AreCells k cells → AreUnitCells k cells
are_unit_cells kind.Ram cells h = record { raw_words = h.1; cell_count = λ _. h.0; no_cells = λ ne. absurd (ne refl) }
are_unit_cells _ cells h = record {
  raw_words = subst (All IsMachineWord) (sym h) (All-nil IsMachineWord);
  cell_count = λ is. absurd (cc);
  no_cells = λ _. h;
}

are_cells : (k : Kind) (cells : List ℤ) → AreUnitCells k cells → AreCells k cells
are_cells kind.Ram cells h = (h.cell_count refl, h.raw_words)
are_cells _ cells h = h.no_cells (λ is. absurd (cc))

-- the number of an acu's ram, and 0 at another unit
abbrev pub IsRamNumber : (Ram : ℕ → Type 0) → Kind → ℕ → Type 0
IsRamNumber Ram kind.Acu ram = Ram ram
IsRamNumber Ram _ ram = ram ≡ 0

no_ram : (Ram : ℕ → Type 0) (k : Kind) (ram : ℕ) → IsRamNumber Ram k ram → k ≢ kind.Acu → ram ≡ 0
no_ram Ram kind.Acu ram h ne = absurd (ne refl)
no_ram Ram _ ram h ne = h

-- all that is asked of a unit but that an acu's ram, whose number may be such, is there
pub record IsUnitAlone (Ram : ℕ → Type 0) (unit : UnitDesc) : Type 0 where
  latency : IsWithin 1 8 unit.latency
  gap : IsWithin 1 unit.latency unit.gap
  file_count : length unit.files ≡ ports unit.kind
  files : All IsFile unit.files
  cells : AreCells unit.kind unit.cells
  ram : IsRamNumber Ram unit.kind unit.ram

-- as many units as there may be, each allowed among them
abbrev pub AreUnits : List UnitDesc → Type 0
AreUnits units = IsWithin 1 32 (length units) × All (IsUnit units) units

-- a value that takes nothing
nothing_reader : {base : ℕ} {A : Type 0} (only : A) → IsReader base (λ x. x ≡ only) (λ _. []) (λ left. Ok (only, left))
nothing_reader {base} {A} only = record {
  took = λ left fits x e.
      subst (λ (p : A × List ℕ). Took base (λ (y : A). y ≡ only) (λ _. []) left p) (ok_is (only, left) x e)
      (record { allowed = refl; text = takes_none left fits });
  again = λ x rest ok. rw ok refl;
}

-- ---- units with their rams

-- an acu has a ram among the units
abbrev IsTiedBy : Kind → ℕ → List UnitDesc → Type 0
IsTiedBy k ram units = k ≡ kind.Acu → IsSomeAnd (slice_get units ram) (λ other. other.kind ≡ kind.Ram)

abbrev IsTied : List UnitDesc → UnitDesc → Type 0
IsTied units unit = IsTiedBy unit.kind unit.ram units

ram_sound : (k : Kind) → is_ram k ≡ true → k ≡ kind.Ram
ram_sound kind.Ram e = refl
ram_sound _ e = absurd (cc)

some_ram : (o : Option UnitDesc) → Decides (is_some_ram o) (IsSomeAnd o (λ other. other.kind ≡ kind.Ram))
some_ram None = (λ e. absurd (cc), λ h. absurd h)
some_ram (Some unit) = (ram_sound unit.kind, λ h. ap is_ram h)

pub tied_by : (k : Kind) (ram : ℕ) (units : List UnitDesc) → Decides (is_tied_by k ram units) (IsTiedBy k ram units)
tied_by kind.Acu ram units = let d = some_ram (slice_get units ram) in (λ e _. d.0 e, λ h. d.1 (h refl))
tied_by _ ram units = (λ e is. absurd (cc), λ h. refl)

-- the number of a unit that is there is below how many there are
is_there : (units : List UnitDesc) (number : ℕ) (P : UnitDesc → Type 0)
    → IsSomeAnd (slice_get units number) P
    → number < length units
is_there units number P = there (slice_get units number) refl
  where
    there : (o : Option UnitDesc) → slice_get units number ≡ o → IsSomeAnd o P → number < length units
    there None e h = absurd h
    there (Some unit) e h = slice_get_within units number unit e

module _ {base : ℕ} {spell : Form} {form : FormAt} (is : ReadsForm base spell form) where
  -- words behind their number
  module _ {P : ℕ → Type 0} {spell_count : ℕ → List ℕ} {count_at : List ℕ → Reading ℕ}
      (counter : IsReader base P spell_count count_at) where
    counted_words :
        IsReader base (λ words. P (length words) × All IsMachineWord words)
        (λ words. spell_count (length words) ++ spell.initial words)
        (λ left. count_at left >>= λ n. form.initial n.0 n.1)
    counted_words = record {
      took = λ left fits x e.
          let s = bound (count_at left) (λ (n : ℕ × List ℕ). form.initial n.0 n.1) x e in
          let t = counter.took left fits s.0 s.1 in
          let m = (is.initial s.0.0).took s.0.1 t.text.rest_fits x s.2 in
          record {
            allowed = (subst P (sym m.allowed.0) t.allowed, m.allowed.1);
            text =
                subst (λ (n : ℕ). Takes base left (spell_count n ++ spell.initial x.0) x.1) (sym m.allowed.0)
                (t.text ⨟ m.text);
          };
      again = λ words rest ok.
          joined (count_at ((spell_count (length words) ++ spell.initial words) ++ rest))
          (λ (n : ℕ × List ℕ). form.initial n.0 n.1) (length words, spell.initial words ++ rest) (Ok (words, rest))
          (ap count_at (append_assoc (spell_count (length words)) (spell.initial words) rest)
          ∙ counter.again (length words) (spell.initial words ++ rest) ok.0)
          ((is.initial (length words)).again words rest (refl, ok.1));
    }

  file_reader : IsReader base IsFile (spelled_file spell) (file_at form)
  unfolding file_at spelled_file
  file_reader =
      such_reader (λ file h. record { size = h.0; words = h.1 }) (λ file h. (h.size, h.words))
      (counted_words is.registers)

  files_reader : (count : ℕ)
      → IsReader base (λ files. (length files ≡ count) × All IsFile files) (flat_map (spelled_file spell))
      (many_at (λ _. file_at form) [] count)
  files_reader count =
      such_reader (λ files h. (h.0, all_from IsFile files h.1)) (λ files h. (h.0, grows_all IsFile files h.1))
      (many_reader (λ _. IsFile) (spelled_file spell) (λ _. file_at form) (λ _. file_reader) count)

  -- ---- what a ram alone, or an acu alone, has

  abbrev spelled_cells : Kind → List ℤ → List ℕ
  spelled_cells kind.Ram cells = spell.cells (length cells) ++ spell.initial cells
  spelled_cells _ cells = []

  abbrev spelled_ram : Kind → ℕ → List ℕ
  spelled_ram kind.Acu ram = spell.ram ram
  spelled_ram _ ram = []

  memory_is : (k : Kind) (unit : UnitDesc)
      → spelled_memory spell k unit ≡ spelled_cells k unit.cells ++ spelled_ram k unit.ram
  unfolding spelled_memory
  memory_is kind.Ram unit = sym (append-nil (spell.cells (length unit.cells) ++ spell.initial unit.cells))
  memory_is _ unit = refl

  cells_reader : (k : Kind) → IsReader base (AreCells k) (spelled_cells k) (cells_at form k)
  unfolding cells_at
  cells_reader kind.Ram = counted_words is.cells
  cells_reader _ = nothing_reader []

  ram_reader : (k : Kind) → IsReader base (IsRamNumber is.Ram k) (spelled_ram k) (ram_at form k)
  unfolding ram_at
  ram_reader kind.Acu = is.ram
  ram_reader _ = nothing_reader 0

  -- the number of a unit's ram is one of a few
  ram_number : (k : Kind) (ram : ℕ) (units : List UnitDesc)
      → length units ≤ 32
      → IsTiedBy k ram units
      → (k ≢ kind.Acu → ram ≡ 0)
      → IsRamNumber is.Ram k ram
  ram_number kind.Acu ram units few tied none =
      let below : ram < length units = is_there units ram (λ other. other.kind ≡ kind.Ram) (tied refl) in
      is.few_rams ram (omega arith)
  ram_number _ ram units few tied none = none (λ is. absurd (cc))

  -- ---- a unit

  abbrev latency_at : Kind × List ℕ → Reading ℕ
  latency_at k = form.latency k.1

  abbrev gap_at : Kind × List ℕ → ℕ × List ℕ → Reading ℕ
  gap_at k l = form.gap l.0 l.1

  abbrev files_at : Kind × List ℕ → ℕ × List ℕ → ℕ × List ℕ → Reading (List (List ℤ))
  files_at k l g = many_at (λ _. file_at form) [] (ports k.0) g.1

  abbrev memory_at : Kind × List ℕ → ℕ × List ℕ → ℕ × List ℕ → List (List ℤ) × List ℕ → Reading (List ℤ)
  memory_at k l g f = cells_at form k.0 f.1

  abbrev tie_at : Kind × List ℕ → ℕ × List ℕ → ℕ × List ℕ → List (List ℤ) × List ℕ → List ℤ × List ℕ → Reading ℕ
  tie_at k l g f c = ram_at form k.0 c.1

  abbrev whole_unit : Kind × List ℕ
      → ℕ × List ℕ
      → ℕ × List ℕ
      → List (List ℤ) × List ℕ
      → List ℤ × List ℕ
      → ℕ × List ℕ
      → Reading UnitDesc
  whole_unit k l g f c r =
      Ok (record { kind = k.0; latency = l.0; gap = g.0; files = f.0; cells = c.0; ram = r.0 }, r.1)

  unit_took : (bytes : List ℕ)
      → IsDigits base bytes
      → (x : UnitDesc × List ℕ)
      → unit_at form bytes ≡ Ok x
      → Took base (IsUnitAlone is.Ram) (spelled_unit spell) bytes x
  unfolding unit_at spelled_unit
  unit_took bytes fits x e =
      let s = bound6 (form.kind bytes) latency_at gap_at files_at memory_at tie_at whole_unit x e in
      let k = is.kind.took bytes fits s.0 s.6 in
      let l = is.latency.took s.0.1 k.text.rest_fits s.1 s.7 in
      let g = (is.gap s.1.0 l.allowed).took s.1.1 l.text.rest_fits s.2 s.8 in
      let f = (files_reader (ports s.0.0)).took s.2.1 g.text.rest_fits s.3 s.9 in
      let c = (cells_reader s.0.0).took s.3.1 f.text.rest_fits s.4 s.10 in
      let r = (ram_reader s.0.0).took s.4.1 c.text.rest_fits s.5 s.11 in
      let unit : UnitDesc =
      record { kind = s.0.0; latency = s.1.0; gap = s.2.0; files = s.3.0; cells = s.4.0; ram = s.5.0 } in
      subst (λ (p : UnitDesc × List ℕ). Took base (IsUnitAlone is.Ram) (spelled_unit spell) bytes p)
      (ok_is (unit, s.5.1) x s.12) (record {
        allowed = record {
          latency = l.allowed;
          gap = g.allowed;
          file_count = f.allowed.0;
          files = f.allowed.1;
          cells = c.allowed;
          ram = r.allowed;
        };
        text = rw (memory_is s.0.0 unit) (k.text ⨟ l.text ⨟ g.text ⨟ f.text ⨟ (c.text ⨟ r.text));
      })

  unit_again : (unit : UnitDesc) (rest : List ℕ)
      → IsUnitAlone is.Ram unit
      → unit_at form (spelled_unit spell unit ++ rest) ≡ Ok (unit, rest)
  unfolding unit_at spelled_unit
  unit_again unit rest ok =
      let K = spell.kind unit.kind in
      let L = spell.cycles unit.latency in
      let G = spell.cycles unit.gap in
      let F = flat_map (spelled_file spell) unit.files in
      let C = spelled_cells unit.kind unit.cells in
      let R = spelled_ram unit.kind unit.ram in
      let memory : spelled_memory spell unit.kind unit ≡ C ++ R = memory_is unit.kind unit in
      let texts : (K ++ L ++ G ++ F ++ spelled_memory spell unit.kind unit) ++ rest
      ≡ K ++ (L ++ (G ++ (F ++ (C ++ (R ++ rest))))) = rw memory (simp append_assoc) in
      ap (unit_at form) texts
      ∙ joined6 (form.kind (K ++ (L ++ (G ++ (F ++ (C ++ (R ++ rest))))))) latency_at gap_at files_at memory_at tie_at
      whole_unit
      (unit.kind, L ++ (G ++ (F ++ (C ++ (R ++ rest))))) (unit.latency, G ++ (F ++ (C ++ (R ++ rest))))
      (unit.gap, F ++ (C ++ (R ++ rest))) (unit.files, C ++ (R ++ rest)) (unit.cells, R ++ rest) (unit.ram, rest)
      (is.kind.again unit.kind _ tt)
      (is.latency.again unit.latency _ ok.latency)
      ((is.gap unit.latency ok.latency).again unit.gap _ ok.gap)
      ((files_reader (ports unit.kind)).again unit.files _ (ok.file_count, ok.files))
      ((cells_reader unit.kind).again unit.cells _ ok.cells)
      ((ram_reader unit.kind).again unit.ram _ ok.ram)

  pub unit_reader : IsReader base (IsUnitAlone is.Ram) (spelled_unit spell) (unit_at form)
  unit_reader = record { took = unit_took; again = unit_again }

  was_judged : (units : List UnitDesc) (unit : UnitDesc) (behind : ℕ) (ok : Unit {0})
      → judged form units unit behind ≡ Ok ok
      → is_tied units unit ≡ true
  was_judged units unit behind ok e = passed (is_tied units unit) e
    where
      passed : (b : Bool) → cond b (well ok) (Err (Field (behind + form.ram_length))) ≡ Ok ok → b ≡ true
      passed true e = refl
      passed false e = absurd cc

  pub all_tied : (units xs : List UnitDesc) (ends : List ℕ) (ok : Unit {0})
      → length ends ≡ length xs
      → all_judged form units xs ends ≡ Ok ok
      → All (IsTied units) xs
  unfolding all_judged
  all_tied units [] ends ok len e = All-nil (IsTied units)
  all_tied units (x ∷ xs) [] ok len e = absurd (omega arith)
  all_tied units (x ∷ xs) (end ∷ ends) ok len e =
      let s = bound (judged form units x end) (λ _. all_judged form units xs ends) ok e in
      let first : IsTied units x = (tied_by x.kind x.ram units).0 (was_judged units x end s.0 s.1) in
      All-cons (IsTied units) x xs first (all_tied units xs ends ok (omega arith) s.2)

  none_blamed : (units xs : List UnitDesc) (ends : List ℕ)
      → length ends ≡ length xs
      → All (IsTied units) xs
      → all_judged form units xs ends ≡ Ok tt
  unfolding all_judged
  none_blamed units [] ends len all = refl
  none_blamed units (x ∷ xs) [] len all = refl
  none_blamed units (x ∷ xs) (end ∷ ends) len all =
      let first : is_tied units x ≡ true = (tied_by x.kind x.ram units).1 (all 0 x (omega arith)) in
      rw first (none_blamed units xs ends (omega arith) (λ k d lt. all (suc k) d (omega (arith, lt))))

  is_unit : (units : List UnitDesc) (unit : UnitDesc) → IsUnitAlone is.Ram unit → IsTied units unit → IsUnit units unit
  is_unit units unit ok tied =
      let c = are_unit_cells unit.kind unit.cells ok.cells in
      record {
        latency = ok.latency;
        gap = ok.gap;
        file_count = ok.file_count;
        files = ok.files;
        cells = c.raw_words;
        cell_count = c.cell_count;
        no_cells = c.no_cells;
        ram = tied;
        no_ram = no_ram is.Ram unit.kind unit.ram ok.ram;
      }

  is_alone : (units : List UnitDesc) (unit : UnitDesc)
      → length units ≤ 32
      → IsUnit units unit
      → IsUnitAlone is.Ram unit
  is_alone units unit few ok = record {
    latency = ok.latency;
    gap = ok.gap;
    file_count = ok.file_count;
    files = ok.files;
    cells =
        are_cells unit.kind unit.cells
        (record { raw_words = ok.cells; cell_count = ok.cell_count; no_cells = ok.no_cells });
    ram = ram_number unit.kind unit.ram units few ok.ram ok.no_ram;
  }

  -- each unit by itself
  alone_reader : (count : ℕ)
      → IsReader base (λ units. (length units ≡ count) × All (IsUnitAlone is.Ram) units) (flat_map (spelled_unit spell))
      (many_at (λ _. unit_at form) [] count)
  alone_reader count =
      such_reader (λ units h. (h.0, all_from (IsUnitAlone is.Ram) units h.1))
      (λ units h. (h.0, grows_all (IsUnitAlone is.Ram) units h.1))
      (many_reader (λ _. IsUnitAlone is.Ram) (spelled_unit spell) (λ _. unit_at form) (λ _. unit_reader) count)

  abbrev judged_behind : ℕ → List ℕ → List UnitDesc × List ℕ → Result (Unit {0}) Misread
  judged_behind count bytes units = judged_at form units.0 count bytes

  abbrev whole_units : List UnitDesc × List ℕ → Unit {0} → Reading (List UnitDesc)
  whole_units units ok = Ok units

  some_units_took : (count : ℕ) (bytes : List ℕ)
      → IsDigits base bytes
      → (x : List UnitDesc × List ℕ)
      → some_units_at form count bytes ≡ Ok x
      → Took base (λ units. (length units ≡ count) × All (IsUnit units) units) (flat_map (spelled_unit spell)) bytes x
  unfolding some_units_at
  some_units_took count bytes fits x e =
      let s = bound2 (many_at (λ _. unit_at form) [] count bytes) (judged_behind count bytes) whole_units x e in
      let t = (alone_reader count).took bytes fits s.0 s.2 in
      let j = judged_by form s.0.0 count [] bytes s.0 s.2 in
      let tied : All (IsTied s.0.0) j.0 =
      all_tied s.0.0 j.0 (ends_of form count bytes) s.1 (omega (arith, j.2, j.3)) (sym j.4 ∙ s.3) in
      let all : All (IsTied s.0.0) s.0.0 = subst (All (IsTied s.0.0)) (sym j.1) tied in
      subst (λ (p : List UnitDesc × List ℕ).
      Took base (λ units. (length units ≡ count) × All (IsUnit units) units) (flat_map (spelled_unit spell)) bytes p)
      (ok_is s.0 x s.4) (record {
        allowed = (t.allowed.0, λ k d lt. is_unit s.0.0 (slice_index_or s.0.0 k d) (t.allowed.1 k d lt) (all k d lt));
        text = t.text;
      })

  some_units_again : (count : ℕ) (units : List UnitDesc) (rest : List ℕ)
      → count ≤ 32
      → (length units ≡ count) × All (IsUnit units) units
      → some_units_at form count (flat_map (spelled_unit spell) units ++ rest) ≡ Ok (units, rest)
  unfolding some_units_at
  some_units_again count units rest few ok =
      let bytes = flat_map (spelled_unit spell) units ++ rest in
      let size : length units ≤ 32 = omega (arith, ok.0) in
      let read =
      (alone_reader count).again units rest
      (ok.0, λ k d lt. is_alone units (slice_index_or units k d) size (ok.1 k d lt)) in
      let j = judged_by form units count [] bytes (units, rest) read in
      let tied : All (IsTied units) j.0 = subst (All (IsTied units)) j.1 (λ k d lt. (ok.1 k d lt).ram) in
      joined2 (many_at (λ _. unit_at form) [] count bytes) (judged_behind count bytes) whole_units (units, rest) tt read
      (j.4 ∙ none_blamed units j.0 (ends_of form count bytes) (omega (arith, j.2, j.3)) tied)

  some_units_reader : (count : ℕ)
      → IsWithin 1 32 count
      → IsReader base (λ units. (length units ≡ count) × All (IsUnit units) units) (flat_map (spelled_unit spell))
      (some_units_at form count)
  some_units_reader count within = record {
    took = some_units_took count;
    again = λ units rest ok. some_units_again count units rest (omega (arith, within)) ok;
  }

  pub units_reader :
      IsReader base AreUnits (λ units. spell.units (length units) ++ flat_map (spelled_unit spell) units)
      (units_at form)
  unfolding units_at
  units_reader =
      counted_by is.units (λ units. All (IsUnit units) units) (spelled_unit spell) (some_units_at form)
      some_units_reader
