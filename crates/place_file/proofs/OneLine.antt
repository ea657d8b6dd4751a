-- A line says one place, or is wrong in one way, and not both.
use Rattle.std.proofs.Common.{◌≡◌, ◌∙◌, inl, inr, refl, sym, ap₂, subst, arith, ℕ, ◌<◌, ◌^◌, List, length}
use Rattle.std.proofs.lemmas.List.{get_or-map, length-map}
use Rattle.datapath.specs.Allowed.{IsDatapath}
use Rattle.datapath.specs.declared.types.Datapath.{Datapath}
use Rattle.datapath.specs.declared.types.Unit.{Unit as FunctionalUnit}
use Rattle.plan_core.specs.Hardware.{no_unit}
use Rattle.plan_core.proofs.OneHeight.{neither_less}
use Rattle.microcode_asm.specs.ScheduleText.{unit_name}
use Rattle.placed_plan.specs.declared.place.Place.{Place}
use Rattle.place_file.specs.Lines.{Said}
use Rattle.place_file.specs.Given.{IsNumber, IsUnitNamed, IsPlaceLine}
use Rattle.place_file.specs.Faults.{IsBadLine}
use Rattle.place_file.specs.declared.fault.LineCause.{LineCause}
use Rattle.place_file.specs.declared.fault.LineCause.TheVariants.{Form, Number, Unit as UnknownUnit, Twice}

pub one_number : (k l : ℕ) (word : List ℕ) (m n : ℕ) → IsNumber k word m → IsNumber l word n → m ≡ n
one_number k l word m n x y = x.is ∙ sym y.is

module _ (d : Datapath) (said : Said) where
  -- a line that says a place has no wrong word
  pub good_not_bad : (v : ℕ) (place : Place)
      → IsPlaceLine d said v place
      → (cause : LineCause)
      → IsBadLine d said cause
      → ⊥
  good_not_bad v place good Form (inl bad) = bad.1 good.cycle_label
  good_not_bad v place good Form (inr bad) = bad.1 good.unit_label
  good_not_bad v place good Number (inl bad) = bad (v, good.node)
  good_not_bad v place good Number (inr bad) = bad.1 place.cycle good.cycle
  good_not_bad v place good UnknownUnit bad = bad.1 place.unit good.unit
  good_not_bad v place good Twice bad = bad

  pub one_cause : (c k : LineCause) → IsBadLine d said c → IsBadLine d said k → c ≡ k
  one_cause Form Form x y = refl
  one_cause Number Number x y = refl
  one_cause UnknownUnit UnknownUnit x y = refl
  one_cause Form Number (inl x) (inl y) = absurd (y x.0)
  one_cause Form Number (inl x) (inr y) = absurd (x.1 y.0.label)
  one_cause Form Number (inr x) (inl y) = absurd (y x.0.before.node)
  one_cause Form Number (inr x) (inr y) = absurd (y.1 x.0.cycle.0 x.0.cycle.1)
  one_cause Form UnknownUnit (inl x) y = absurd (x.1 y.0.before.before.label)
  one_cause Form UnknownUnit (inr x) y = absurd (x.1 y.0.label)
  one_cause Number Form (inl x) (inl y) = absurd (x y.0)
  one_cause Number Form (inl x) (inr y) = absurd (x y.0.before.node)
  one_cause Number Form (inr x) (inl y) = absurd (y.1 x.0.label)
  one_cause Number Form (inr x) (inr y) = absurd (x.1 y.0.cycle.0 y.0.cycle.1)
  one_cause Number UnknownUnit (inl x) y = absurd (x y.0.before.before.node)
  one_cause Number UnknownUnit (inr x) y = absurd (x.1 y.0.before.cycle.0 y.0.before.cycle.1)
  one_cause UnknownUnit Form x (inl y) = absurd (y.1 x.0.before.before.label)
  one_cause UnknownUnit Form x (inr y) = absurd (y.1 x.0.label)
  one_cause UnknownUnit Number x (inl y) = absurd (y x.0.before.before.node)
  one_cause UnknownUnit Number x (inr y) = absurd (y.1 x.0.before.cycle.0 x.0.before.cycle.1)
  one_cause Twice k x y = absurd x
  one_cause Form Twice x y = absurd y
  one_cause Number Twice x y = absurd y
  one_cause UnknownUnit Twice x y = absurd y

-- units have names of their own
module _ (d : Datapath) (allowed : IsDatapath d) where
  names_differ : (u w : ℕ) → u < w → w < length d.units → unit_name d u ≡ unit_name d w → ⊥
  names_differ u w less there same =
      allowed.unit_names u w no_unit.name less
      (subst (λ (n : ℕ). w < n) (sym (length-map d.units (λ (unit : FunctionalUnit). unit.name))) there)
      (get_or-map (λ (unit : FunctionalUnit). unit.name) d.units u no_unit no_unit.name (omega (arith, less, there))
      ∙ same
      ∙ sym (get_or-map (λ (unit : FunctionalUnit). unit.name) d.units w no_unit no_unit.name there))

  pub one_unit : (word : List ℕ) (u w : ℕ) → IsUnitNamed d word u → IsUnitNamed d word w → u ≡ w
  one_unit word u w x y =
      neither_less u w (λ less. names_differ u w less y.there (x.name ∙ sym y.name))
      (λ less. names_differ w u less x.there (y.name ∙ sym x.name))

  -- so a line says one place
  pub one_place : (said : Said) (v w : ℕ) (p q : Place) → IsPlaceLine d said v p → IsPlaceLine d said w q → p ≡ q
  one_place said v w p q x y =
      ap₂ (λ (u t : ℕ). record { unit = u; cycle = t }) (one_unit said.unit p.unit q.unit x.unit y.unit)
      (one_number (2 ^ 16) (2 ^ 16) said.cycle p.cycle q.cycle x.cycle y.cycle)
