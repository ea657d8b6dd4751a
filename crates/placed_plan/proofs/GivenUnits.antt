-- Nodes on the units of their places.
use Rattle.std.proofs.Common.{◌≡◌, ◌∙◌, ℕ, ◌<◌, ◌≤◌, ⊎_elim, sym, ap, subst, arith, List, [], ◌∷◌, ◌++◌, length}
use Rattle.std.proofs.lemmas.Bool.{cases_lt}
use Rattle.std.proofs.lemmas.List.{get_or_append_left, get_or_push, length_push}
use Rattle.datapath.specs.declared.types.Datapath.{Datapath}
use Rattle.plan_core.specs.Operands.{node_of}
use Rattle.plan_core.specs.Assigned.{IsRightUnit}
use Rattle.plan_core.specs.declared.delay_lines.Lowered.{Lowered}
use Rattle.plan_core.specs.declared.schedule.Assigned.{Assigned}
use Rattle.plan_soundness.specs.Units.{AreOnRightUnits}
use Rattle.placed_plan.specs.Places.{place_of, CanBeOn, AreOnGivenUnits}
use Rattle.placed_plan.specs.Causes.{IsTooWide, IsOnWrongUnit}
use Rattle.placed_plan.specs.Faults.{IsFirstMisplaced}
use Rattle.placed_plan.specs.Private.Units.{AreFirstUnits, IsUnfit, IsMisplaced}
use Rattle.placed_plan.specs.declared.place.Place.{Place}
use Rattle.placed_plan.specs.declared.fault.PlaceFault.{PlaceFault}
use Rattle.placed_plan.specs.declared.fault.PlaceFault.TheVariants.{Line as Unstored, Missing, Surplus, TooWide}
use Rattle.placed_plan.specs.declared.fault.PlaceFault.TheVariants.{WrongUnit, Late, Past, Busy, FileWritten}
use Rattle.placed_plan.specs.declared.fault.PlaceFault.TheVariants.{NoBus, FileFull, Memory}

module _ (places : List Place) (d : Datapath) where
  module _ (l : Lowered) where
    pub none_first : AreFirstUnits places d l []
    none_first = record {
      given = λ v less. absurd (omega (arith, less));
      can = λ v less. absurd (omega (arith, less));
    }

    module _ (units : List ℕ) (v : ℕ) (count : length units ≡ v) (first : AreFirstUnits places d l units) where
      pub one_more : (unit : ℕ)
          → unit ≡ (place_of places v).unit
          → CanBeOn d (node_of l.nodes v) (place_of places v).unit
          → AreFirstUnits places d l (units ++ unit ∷ [])
      one_more unit is can = record {
        given = λ w less.
            ⊎_elim
            (λ (early : w < length units). get_or_append_left units (unit ∷ []) 0 w early ∙ first.given w early)
            (λ (late : length units ≤ w).
            let at : w ≡ v = omega (arith, late, less, length_push units unit, count) in
            get_or_push units unit 0 w (omega (arith, count, at))
            ∙ is ∙ ap (λ (n : ℕ). (place_of places n).unit) (sym at))
            (cases_lt w (length units));
        can = λ w less.
            ⊎_elim
            (λ (early : w < length units). first.can w early)
            (λ (late : length units ≤ w).
            let at : w ≡ v = omega (arith, late, less, length_push units unit, count) in
            subst (λ (n : ℕ). CanBeOn d (node_of l.nodes n) (place_of places n).unit) (sym at) can)
            (cases_lt w (length units));
      }

      pub misplaced : (fault : PlaceFault)
          → v < length l.nodes
          → IsUnfit places d l v fault
          → IsMisplaced places d l fault
      misplaced fault there is = by fault is
        where
          by : (fault : PlaceFault) → IsUnfit places d l v fault → IsMisplaced places d l fault
          by (TooWide node) is =
              subst (λ (n : ℕ). IsFirstMisplaced places d l IsTooWide n) (sym is.0)
              (record { there = there; before = λ u less. first.can u (omega (arith, less, count)); cause = is.1 })
          by (WrongUnit node) is =
              subst (λ (n : ℕ). IsFirstMisplaced places d l IsOnWrongUnit n) (sym is.0)
              (record { there = there; before = λ u less. first.can u (omega (arith, less, count)); cause = is.1 })
          by (Unstored f) is = absurd is
          by (Missing node) is = absurd is
          by (Surplus node) is = absurd is
          by (Late node x from) is = absurd is
          by (Past node) is = absurd is
          by (Busy node) is = absurd is
          by (FileWritten unit port node) is = absurd is
          by (NoBus unit port node) is = absurd is
          by (FileFull unit port node) is = absurd is
          by Memory is = absurd is

  module _ (a : Assigned) where
    pub on_given : length places ≡ length a.lowered.nodes
        → length a.units ≡ length a.lowered.nodes
        → AreFirstUnits places d a.lowered a.units
        → AreOnGivenUnits places d a
    on_given place_count count first = record {
      place_count = place_count;
      count = count;
      given = λ v there. first.given v (omega (arith, there, count));
      can = λ v there. first.can v (omega (arith, there, count));
    }

    -- and these are of the right kind
    pub on_right : AreOnGivenUnits places d a → AreOnRightUnits d a
    on_right on = record {
      count = on.count;
      right = λ v there.
          subst (λ (u : ℕ). IsRightUnit d (node_of a.lowered.nodes v) u) (sym (on.given v there))
          (on.can v there).right;
    }
