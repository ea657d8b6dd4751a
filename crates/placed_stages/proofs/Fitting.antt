-- Whether an operation fits at one cycle, around the period.
use Rattle.std.proofs.Common.{◌≡◌, ℕ, ◌+◌, ◌*◌, ◌≤◌, ◌↔◌, ◌∙◌, sym, ap, subst, arith, Bool, IsTrue, List, Option, Some}
use Rattle.std.proofs.Common.{None}
use Rattle.std.specs.Option.{is_some}
use Rattle.std.proofs.lemmas.Bool.{true≢false}
use Rattle.operations.specs.declared.units.PortRef.{PortRef}
use Rattle.datapath.specs.declared.types.Datapath.{Datapath}
use Rattle.plan_core.specs.Hardware.{latency_on}
use Rattle.plan_core.specs.Assigned.{unit_in}
use Rattle.plan_core.specs.Heights.{latency_of}
use Rattle.plan_core.specs.Stages.{IsGapAround, IsSameAround}
use Rattle.bus_alloc.specs.Table.{Reservations, FitsAtOver, FitsAround, IsFirstFitAround}
use Rattle.overlap_plan.specs.Staged.{IsSoundStaged, path_of, nodes_on}
use Rattle.overlap_plan.specs.declared.staged.Staged.{Staged}
use Rattle.overlap_plan.proofs.StagedPlacing.{fits_here, fits_there}
use Rattle.placed_stages.specs.Private.Placing.{Fits}
use Rattle.placed_stages.specs.declared.placing.Placing.{Placing}

-- the first cycle from one on at which an operation fits and ends no later than from there is that cycle
module _ (table : Reservations) (u cycle end : ℕ) (ports : List PortRef)
    (is : end ≡ cycle + latency_on table.datapath u) where
  pub found : (t : ℕ)
      → IsFirstFitAround end table u cycle ports (Some t)
      → FitsAround end table u cycle ports
  found t first =
      let fits = first.fits in
      let after = first.after in
      let same : t ≡ cycle = (let before = fits.period in omega (arith, before, after, is)) in
      subst (λ (c : ℕ). FitsAround end table u c ports) same fits

  pub not_found : IsFirstFitAround end table u cycle ports None → FitsAround end table u cycle ports → ⊥
  not_found none fits = none cycle (omega arith) fits

  pub decided : (r : Option ℕ) (b : Bool)
      → IsFirstFitAround end table u cycle ports r
      → b ≡ is_some r
      → IsTrue b ↔ FitsAround end table u cycle ports
  decided None b first e = (λ yes. absurd (true≢false (sym yes ∙ e)), λ fits. absurd (not_found first fits))
  decided (Some t) b first e = (λ yes. found t first, λ fits. e)

module _ (staged : Staged) (is : IsSoundStaged staged) (p : Placing) (path : p.table.datapath ≡ path_of staged) (v : ℕ)
    (t e : ℕ) (end_is : e ≡ t + latency_of (path_of staged) (nodes_on staged) v) (ports : List PortRef) where
  abbrev d : Datapath
  d = path_of staged

  abbrev u : ℕ
  u = unit_in (nodes_on staged).units v

  latency_here : latency_on p.table.datapath u ≡ latency_on d u
  latency_here = ap (λ (x : Datapath). latency_on x u) path

  by : (f g : ℕ)
      → t + latency_on d u ≤ g
      → FitsAtOver (IsGapAround d.period) (IsSameAround d.period) f p.table u t ports
      → FitsAtOver (IsGapAround d.period) (IsSameAround d.period) g p.table u t ports
  by f g ends fits = record {
    period = omega (arith, ends, latency_here);
    unit = fits.unit;
    files = fits.files;
    buses = fits.buses;
  }

  pub fits_to : t + latency_of d (nodes_on staged) v ≤ staged.stages * d.period
      → FitsAround e p.table u t ports
      → Fits staged p v t ports
  fits_to ends fits =
      by e (staged.stages * d.period) ends (fits_here staged is p.table path e u t ports fits)

  pub fits_of : Fits staged p v t ports → FitsAround e p.table u t ports
  fits_of fits =
      fits_there staged is p.table path e u t ports
      (by (staged.stages * d.period) e (omega (arith, end_is)) fits)

  -- so what the table says of its unit is said of the node
  pub fitting_by : {b : Bool} {unit : ℕ}
      → IsTrue b ↔ FitsAround e p.table unit t ports
      → unit ≡ u
      → IsTrue b
      → t + latency_of d (nodes_on staged) v ≤ staged.stages * d.period
      → Fits staged p v t ports
  fitting_by test same passes ends =
      fits_to ends (subst (λ (w : ℕ). FitsAround e p.table w t ports) same (test.0 passes))

  pub blocked_by : {b : Bool} {unit : ℕ}
      → IsTrue b ↔ FitsAround e p.table unit t ports
      → unit ≡ u
      → (IsTrue b → ⊥)
      → Fits staged p v t ports
      → ⊥
  blocked_by test same fails fits =
      fails (test.1 (subst (λ (w : ℕ). FitsAround e p.table w t ports) (sym same) (fits_of fits)))
