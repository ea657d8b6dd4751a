-- What a read of a row gives.
use Rattle.std.proofs.Common.{◌≡◌, ◌∙◌, ℕ, ◌+◌, ◌*◌, ◌<◌, ◌↔◌, length, get_or, arith, ap, subst}
use Rattle.std.specs.Prelude.{slice_index}
use Rattle.std.proofs.lemmas.List.{get_or_read}
use Rattle.operations.specs.declared.units.PortRef.{PortRef}
use Rattle.bit_sets.specs.Bits.{Has}
use Rattle.bus_alloc.specs.Private.Rows.{AreRows, IsPortIn, unit_row, file_row, bus_words, no_cycles, no_unit_row}
use Rattle.bus_alloc.specs.Private.Rows.{no_file_row}
use Rattle.bus_alloc.specs.declared.cycles.CycleSet.{CycleSet}
use Rattle.bus_alloc.specs.declared.rows.Rows.{Rows}
use Rattle.bus_alloc.specs.declared.rows.UnitRow.{UnitRow}
use Rattle.bus_alloc.specs.declared.rows.FileRow.{FileRow}

module _ (rows : Rows) (are : AreRows rows) where
  pub bus_read : (b : ℕ) (set : CycleSet) → b < 32 → set ≡ get_or rows.buses b set → set.words ≡ bus_words rows b
  bus_read b set within is =
      ap (λ (s : CycleSet). s.words) (get_or_read rows.buses b set (omega (arith, are.buses)) is no_cycles)

  pub bus_word : (b index word : ℕ) (set : CycleSet)
      → b < 32
      → set ≡ get_or rows.buses b set
      → word ≡ slice_index set.words index
      → word ≡ slice_index (bus_words rows b) index
  bus_word b index word set within is is_word =
      is_word ∙ ap (λ words. slice_index words index) (bus_read b set within is)

  pub file_read : (port : PortRef) (k : ℕ) (row : FileRow)
      → IsPortIn rows port
      → k ≡ 3 * port.unit + port.port
      → row ≡ get_or rows.files k row
      → row ≡ file_row rows port
  file_read port k row within at is =
      get_or_read rows.files k row (omega (arith, are.files, within.0, within.1)) is no_file_row
      ∙ ap (λ (n : ℕ). get_or rows.files n no_file_row) at

  pub unit_read : (u : ℕ) (row : UnitRow)
      → u < length rows.units
      → row ≡ get_or rows.units u row
      → row ≡ unit_row rows u
  unit_read u row within is = get_or_read rows.units u row within is no_unit_row

-- the routes from a unit to a port, as they are read
pub routes_read : (routes : ℕ) (row is_row : UnitRow) (at is_at : FileRow)
    → row ≡ is_row
    → at ≡ is_at
    → ((b : ℕ) → Has routes b ↔ (Has row.drives.bits b × Has at.sources.bits b))
    → (b : ℕ)
    → Has routes b ↔ (Has is_row.drives.bits b × Has is_at.sources.bits b)
routes_read routes row is_row at is_at same_row same_at are =
    subst (λ (r : UnitRow). (b : ℕ) → Has routes b ↔ (Has r.drives.bits b × Has is_at.sources.bits b)) same_row
    (subst (λ (f : FileRow). (b : ℕ) → Has routes b ↔ (Has row.drives.bits b × Has f.sources.bits b)) same_at are)
