-- Nodes on the units of their places, or the first that cannot be.
use Rattle.std.proofs.Common.{◌≡◌, ℕ, ◌<◌, sym, subst, arith, List, length}
use Rattle.datapath.specs.declared.types.Datapath.{Datapath}
use Rattle.plan_core.specs.declared.delay_lines.Lowered.{Lowered}
use Rattle.placed_plan.specs.Causes.{IsTooWide, IsOnWrongUnit}
use Rattle.placed_plan.specs.Faults.{IsFirstMisplaced}
use Rattle.placed_plan.specs.Private.Units.{AreFirstUnits}
use Rattle.placed_plan.specs.declared.place.Place.{Place}
use Rattle.placed_stages.specs.Private.Units.{IsUnfit, IsMisplaced}
use Rattle.placed_stages.specs.declared.fault.StagePlaceFault.{StagePlaceFault}
use Rattle.placed_stages.specs.declared.fault.StagePlaceFault.TheVariants.{Line as Unstored, Missing, Surplus, TooWide}
use Rattle.placed_stages.specs.declared.fault.StagePlaceFault.TheVariants.{WrongUnit, Late, Past, Busy, Blocked}
use Rattle.placed_stages.specs.declared.fault.StagePlaceFault.TheVariants.{Unstaged, FileFull, Memory}

module _ (places : List Place) (d : Datapath) (l : Lowered) (units : List ℕ) (v : ℕ) (count : length units ≡ v)
    (first : AreFirstUnits places d l units) where
  pub misplaced : (fault : StagePlaceFault)
      → v < length l.nodes
      → IsUnfit places d l v fault
      → IsMisplaced places d l fault
  misplaced fault there is = by fault is
    where
      by : (fault : StagePlaceFault) → IsUnfit places d l v fault → IsMisplaced places d l fault
      by (TooWide node) is =
          subst (λ (n : ℕ). IsFirstMisplaced places d l IsTooWide n) (sym is.0)
          (record { there = there; before = λ u less. first.can u (omega (arith, less, count)); cause = is.1 })
      by (WrongUnit node) is =
          subst (λ (n : ℕ). IsFirstMisplaced places d l IsOnWrongUnit n) (sym is.0)
          (record { there = there; before = λ u less. first.can u (omega (arith, less, count)); cause = is.1 })
      by (Unstored f) is = absurd is
      by (Missing node) is = absurd is
      by (Surplus node) is = absurd is
      by (Late node) is = absurd is
      by (Past node) is = absurd is
      by (Busy node) is = absurd is
      by (Blocked node) is = absurd is
      by (Unstaged node) is = absurd is
      by (FileFull unit port node) is = absurd is
      by Memory is = absurd is
