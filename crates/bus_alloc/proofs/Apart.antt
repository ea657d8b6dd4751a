-- A table with one more operation, where one sample is in flight at a time.
use Rattle.std.proofs.Common.{◌≡◌, ℕ, ◌+◌, ◌<◌, ◌≤◌, ◌⊎◌, ◌↔◌, List, [], ◌∷◌, ◌++◌, length, arith, sym, refl, ◌∙◌}
use Rattle.std.proofs.Common.{⊎_elim, inl, inr}
use Rattle.std.proofs.lemmas.Bool.{cases_lt}
use Rattle.datapath.specs.declared.types.Datapath.{Datapath}
use Rattle.plan_core.specs.Hardware.{latency_on, gap_on, no_unit}
use Rattle.plan_core.specs.Reservations.{result_on, IsUnitFree, IsGapApart, IsOneCycle}
use Rattle.plan_core.specs.declared.schedule.Transfer.{Transfer}
use Rattle.bus_alloc.specs.Sets.{mark}
use Rattle.bus_alloc.specs.Private.Rows.{unit_row}
use Rattle.bus_alloc.specs.Private.Taking.{TakesAll}
use Rattle.bus_alloc.specs.Table.{Placed, IsTaken}
use Rattle.bus_alloc.specs.Private.Stands.{Stands}
use Rattle.bus_alloc.specs.declared.rows.Rows.{Rows}
use Rattle.bus_alloc.proofs.Growing.{one_placed, unit_free, changes_of, stands_grown}

-- where the old table stands for operations, the new one stands for them and the new one
module _ (d : Datapath) (placed : List Placed) (u t w : ℕ) (transfers : List Transfer) (old new : Rows)
    (s : Stands d placed old) (within : u < length old.units) (ends : t + latency_on d u ≤ d.period)
    (at_is : w ≡ result_on d u t) (takes : TakesAll old u w transfers new) where
  own_within : u < length d.units
  own_within = omega (arith, s.units)

  -- the bit of a cycle of the unit
  own_busy : (x : ℕ)
      → result_on d u x < d.period
      → (mark (unit_row takes.between u).busy.words (result_on d u x) ≡ 0)
      ↔ IsUnitFree d (IsTaken (placed ++ one_placed u t transfers ∷ [])) u x
  own_busy x kept =
      ⊎_elim (λ less. ⊎_elim (near less) (λ more. apart (inr more)) (cases_lt t (x + gap_on d u)))
      (λ more. apart (inl more))
      (cases_lt x (t + gap_on d u))
    where
      gap : (unit_row old u).gap ≡ gap_on d u
      gap = (s.unit u own_within).gap

      small : result_on d u x < 4096
      small = omega (arith, s.path.period.1, kept)

      apart : (t + gap_on d u ≤ x) ⊎ (x + gap_on d u ≤ t)
          → (mark (unit_row takes.between u).busy.words (result_on d u x) ≡ 0)
          ↔ IsUnitFree d (IsTaken (placed ++ one_placed u t transfers ∷ [])) u x
      apart far =
          let same = takes.unit.far (result_on d u x) small (far_ends far) in (
            λ zero. (unit_free IsGapApart IsOneCycle d placed u t transfers u x).1
                (((s.unit u own_within).busy x kept).0 (sym same ∙ zero), λ e. far),
            λ free. same ∙ ((s.unit u own_within).busy x kept).1
                ((unit_free IsGapApart IsOneCycle d placed u t transfers u x).0 free).0,
          )
        where
          far_ends : (t + gap_on d u ≤ x) ⊎ (x + gap_on d u ≤ t)
              → (w + (unit_row old u).gap ≤ result_on d u x) ⊎ (result_on d u x + (unit_row old u).gap ≤ w)
          far_ends either = ⊎_elim (λ h. inl (omega (arith, gap, at_is))) (λ h. inr (omega (arith, gap, at_is))) either

      near : x < t + gap_on d u
          → t < x + gap_on d u
          → (mark (unit_row takes.between u).busy.words (result_on d u x) ≡ 0)
          ↔ IsUnitFree d (IsTaken (placed ++ one_placed u t transfers ∷ [])) u x
      near before after =
          let one = takes.unit.near (result_on d u x) small (omega (arith, gap, at_is)) (omega (arith, gap, at_is)) in (
            λ zero. absurd (omega (arith, zero, one)),
            λ free. absurd (⊎_elim (λ h. omega arith) (λ h. omega arith)
                (((unit_free IsGapApart IsOneCycle d placed u t transfers u x).0 free).1 refl)),
          )

  pub stands_apart : Stands d (placed ++ one_placed u t transfers ∷ []) new
  stands_apart =
      stands_grown d placed u t w transfers old takes.between new s within
      (λ x kept. (λ same. sym same ∙ sym at_is, λ e. sym at_is ∙ sym e)) (changes_of old u w takes.between takes.unit)
      takes.transfers_of own_busy
