-- Rows in which nothing is taken.
use Rattle.std.proofs.Common.{◌≡◌, ◌∙◌, ℕ, ◌+◌, ◌*◌, ◌/◌, ◌%◌, ◌<◌, ◌≤◌, ◌↔◌, List, [], ◌∷◌, ◌++◌, length, get_or}
use Rattle.std.proofs.Common.{arith, sym, ap, subst, ⊎_elim}
use Rattle.std.proofs.lemmas.Bool.{cases_lt}
use Rattle.std.proofs.lemmas.List.{get_or_append_left, get_or_push, get_or_read, length_push}
use Rattle.datapath.specs.Allowed.{IsDatapath}
use Rattle.datapath.specs.declared.types.Bus.{Bus}
use Rattle.datapath.specs.declared.types.Unit.{Unit as FunctionalUnit}
use Rattle.datapath.specs.declared.types.Datapath.{Datapath}
use Rattle.plan_core.specs.Hardware.{no_unit, port_of}
use Rattle.plan_core.specs.declared.schedule.Slot.{Slot}
use Rattle.bit_sets.specs.Bits.{Has}
use Rattle.bus_alloc.specs.Private.Rows.{LeadsTo, file_row, no_unit_row, no_file_row}
use Rattle.bus_alloc.specs.Private.Fresh.{IsFreshUnit, IsFreshFile, AreFreshUnits, AreFreshFiles, AreFresh}
use Rattle.bus_alloc.specs.Table.{IsTaken}
use Rattle.bus_alloc.specs.Private.Stands.{StandsOver}
use Rattle.bus_alloc.specs.declared.rows.UnitRow.{UnitRow}
use Rattle.bus_alloc.specs.declared.rows.FileRow.{FileRow}
use Rattle.bus_alloc.specs.declared.rows.Rows.{Rows}

-- one more element
each_more : {A : Type 0} (P : ℕ → A → Type 0) (xs new : List A) (x d : A) (n : ℕ)
    → length xs ≡ n
    → ((k : ℕ) → k < n → P k (get_or xs k d))
    → new ≡ xs ++ x ∷ []
    → P n x
    → (k : ℕ)
    → k < n + 1
    → P k (get_or new k d)
each_more P xs new x d n count each is here k less =
    subst (λ list. P k (get_or list k d)) (sym is) (⊎_elim before last (cases_lt k n))
  where
    before : k < n → P k (get_or (xs ++ x ∷ []) k d)
    before earlier = subst (P k) (sym (get_or_append_left xs (x ∷ []) d k (omega (arith, count)))) (each k earlier)

    last : n ≤ k → P k (get_or (xs ++ x ∷ []) k d)
    last later =
        let same : k ≡ n = omega arith in
        subst (P k) (sym (get_or_push xs x d k (count ∙ sym same))) (subst (λ (i : ℕ). P i x) (sym same) here)

pub units_more :
    (units : List FunctionalUnit) (buses : List Bus) (n : ℕ) (rows new : List UnitRow) (unit : FunctionalUnit)
    (row : UnitRow)
    → n < length units
    → unit ≡ get_or units n unit
    → AreFreshUnits units buses n rows
    → new ≡ rows ++ row ∷ []
    → IsFreshUnit unit buses n row
    → AreFreshUnits units buses (n + 1) new
units_more units buses n rows new unit row within is so_far pushed here = record {
  count_is = ap length pushed ∙ length_push rows row ∙ ap (λ (k : ℕ). k + 1) so_far.count_is;
  each = each_more (λ k r. IsFreshUnit (get_or units k no_unit) buses k r) rows new row no_unit_row n so_far.count_is
      so_far.each
      pushed (subst (λ (u : FunctionalUnit). IsFreshUnit u buses n row) (get_or_read units n unit within is no_unit)
      here);
}

pub files_more : (buses : List Bus) (n : ℕ) (rows new : List FileRow) (row : FileRow)
    → AreFreshFiles buses n rows
    → new ≡ rows ++ row ∷ []
    → IsFreshFile buses n row
    → AreFreshFiles buses (n + 1) new
files_more buses n rows new row so_far pushed here = record {
  count_is = ap length pushed ∙ length_push rows row ∙ ap (λ (k : ℕ). k + 1) so_far.count_is;
  each = each_more (IsFreshFile buses) rows new row no_file_row n so_far.count_is so_far.each pushed here;
}

-- a fresh table stands for no operations, by any rules
pub stands_fresh :
    {IsAway : (gap t u : ℕ) → Type 0} {IsSame : (w x : ℕ) → Type 0} {place : ℕ → ℕ} {IsKept : ℕ → Type 0} (d : Datapath)
    (rows : Rows)
    → IsDatapath d
    → AreFresh d rows
    → StandsOver IsAway IsSame place IsKept d [] rows
stands_fresh {place} d rows path fresh = record {
  path = path;
  period = fresh.period;
  units = fresh.units.count_is;
  unit = λ u within.
      let row = fresh.units.each u within in
      record {
        latency = row.latency;
        gap = row.gap;
        drives = row.drives;
        busy = λ t kept. (λ zero slot taken. none slot u taken, λ free. row.busy _);
      };
  file = λ u q within port_within.
      let row = fresh.files.each (3 * u + q) (omega arith) in
      let unit_is : (3 * u + q) / 3 ≡ u = omega arith in
      let port_is : (3 * u + q) % 3 ≡ q = omega arith in
      record {
        sources = λ b. subst (λ (v : ℕ). Has (file_row rows (port_of u q)).sources.bits b ↔ LeadsTo d.buses
            (port_of v q) b) unit_is
            (subst (λ (p : ℕ). Has (file_row rows (port_of u q)).sources.bits b ↔ LeadsTo d.buses (port_of ((3 *
            u + q) / 3) p) b) port_is (row.sources b));
        written = λ w kept. (λ zero v slot taken. none slot v taken, λ free. row.written (place w));
      };
  bus = λ b w number kept. (λ zero v slot taken. none slot v taken, λ free. fresh.buses.each b number (place w));
}
  where
    none : {P : Type 0} (slot : Slot) (v : ℕ) → IsTaken [] v slot → P
    none slot v taken = absurd (omega (arith, taken.1))
