-- What stands in the way of a node, found one operand, one node and one port after another.
use Rattle.std.proofs.Common.{◌≡◌, ⊎_elim, sym, subst, arith, ℕ, ◌+◌, ◌<◌, ◌≤◌, List, [], ◌∷◌, length}
use Rattle.std.specs.Prelude.{slice_index_or}
use Rattle.std.proofs.lemmas.Bool.{cases_lt}
use Rattle.operations.specs.declared.units.PortRef.{PortRef}
use Rattle.datapath.specs.declared.types.Datapath.{Datapath}
use Rattle.plan_core.specs.Assigned.{unit_in}
use Rattle.plan_core.specs.Heights.{ReadsNow, latency_of}
use Rattle.plan_core.specs.Reservations.{IsGapApart, IsOneCycle}
use Rattle.plan_core.specs.declared.schedule.Assigned.{Assigned}
use Rattle.plan_core.specs.declared.schedule.Slot.{Slot}
use Rattle.bus_alloc.specs.Table.{FitsAt, FitsAtOver}
use Rattle.list_schedule.specs.Placing.{slot_at}
use Rattle.placed_plan.specs.Private.Placing.{Fits}
use Rattle.placed_plan.specs.declared.placing.Placing.{Placing}

-- the operands at the first k ports are there
abbrev pub AreThereUpTo : Datapath → Assigned → List Slot → (v t k : ℕ) → Type 0
AreThereUpTo d a slots v t k =
    (q x : ℕ) → q < k → ReadsNow a.lowered.nodes v q x → (slot_at slots x).cycle + latency_of d a x ≤ t

module _ (d : Datapath) (a : Assigned) (p : Placing) (v t : ℕ) where
  -- what fits for each port fits for all
  pub fits_each : (ports : List PortRef)
      → Fits d a p v t []
      → ((j : ℕ) (q : PortRef) → j < length ports → Fits d a p v t (slice_index_or ports j q ∷ []))
      → Fits d a p v t ports
  fits_each ports free each = record {
    period = free.period;
    unit = free.unit;
    files = λ port h. (each h.0 port h.1).files port (0, omega arith, h.2);
    buses = λ port h. (each h.0 port h.1).buses port (0, omega arith, h.2);
  }

  -- what the table says, of this datapath and this unit
  pub fits_here : p.table.datapath ≡ d
      → (u : ℕ)
      → u ≡ unit_in a.units v
      → (ports : List PortRef)
      → FitsAt p.table u t ports
      → Fits d a p v t ports
  fits_here path u unit ports fits =
      subst (λ (x : Datapath). FitsAtOver IsGapApart IsOneCycle x.period p.table (unit_in a.units v) t ports) path
      (subst (λ (w : ℕ). FitsAt p.table w t ports) unit fits)

  pub fits_there : p.table.datapath ≡ d
      → (u : ℕ)
      → u ≡ unit_in a.units v
      → (ports : List PortRef)
      → Fits d a p v t ports
      → FitsAt p.table u t ports
  fits_there path u unit ports fits =
      subst (λ (w : ℕ). FitsAt p.table w t ports) (sym unit)
      (subst (λ (x : Datapath). FitsAtOver IsGapApart IsOneCycle x.period p.table (unit_in a.units v) t ports)
      (sym path) fits)

-- what holds below k and at k holds below k + 1
pub up_to_more : (P : ℕ → Type 0) (k : ℕ) → ((j : ℕ) → j < k → P j) → P k → (j : ℕ) → j < k + 1 → P j
up_to_more P k before here j less =
    ⊎_elim (λ (early : j < k). before j early)
    (λ (late : k ≤ j). let at : k ≡ j = omega (arith, late, less) in subst P at here)
    (cases_lt j k)
