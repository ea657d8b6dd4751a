-- The faults of elements with and without the places of the elements.
use Rattle.std.proofs.Common.{◌≡◌, ◌≢◌, ◌⊎◌, ◌∙◌, Ok, refl, sym, ap, inl, inr}
use Rattle.fault_order.specs.Ranked.{IsClear, IsFirst}
use Rattle.fault_order.specs.Private.FirstMet.{first}
use Rattle.fault_order.proofs.FirstFaults.{IsSingle}
use Rattle.fault_order.proofs.TableFaults.{single_faults}
use Rattle.silage_syntax.specs.Tree.{Program}
use Rattle.element_rules.specs.ElementRules.{element_rules}
use Rattle.element_rules.specs.ElementFaults.{placed_faults, without_place, element_faults}
use Rattle.element_rules.specs.declared.fault.DefFault.{DefFault}
use Rattle.element_rules.specs.declared.fault.DefFault.TheVariants as def
use Rattle.element_rules.specs.declared.fault.PlacedFault.{PlacedFault}
use Rattle.element_rules.specs.declared.fault.PlacedFault.TheVariants as placed
use Rattle.element_rules.proofs.SoundNames.{clear_first}

module _ (p : Program) where
  pub elements_clear : IsClear (placed_faults p) → IsClear (element_faults p)
  elements_clear clear rank fault h = clear rank h.0 h.1

  pub places_clear : IsClear (element_faults p) → IsClear (placed_faults p)
  places_clear clear rank fault h = clear rank (without_place fault) (fault, h, refl)

  -- where no element has a fault, no rule is broken
  pub elements_pass : IsClear (element_faults p) → first (element_rules p) ≡ Ok tt
  elements_pass clear = clear_first (element_rules p) (places_clear clear)

  pub single_elements : IsSingle (element_faults p)
  single_elements rank f g a b = a.2 ∙ ap without_place (single_faults (element_rules p) rank a.0 b.0 a.1 b.1) ∙ sym b.2

  pub element_first : (fault : PlacedFault)
      → IsFirst (placed_faults p) fault
      → IsFirst (element_faults p) (without_place fault)
  element_first fault i = record { rank = i.rank; here = (fault, i.here, refl); least = λ s f h. i.least s h.0 h.1 }

  -- the first fault, with its place
  pub record HasPlaced (fault : DefFault) : Type 0 where
    pub placed : PlacedFault
    pub first : IsFirst (placed_faults p) placed
    pub same : fault ≡ without_place placed

  pub placed_first : (fault : DefFault) → IsFirst (element_faults p) fault → HasPlaced fault
  placed_first fault i = record {
    placed = i.here.0;
    first = record { rank = i.rank; here = i.here.1; least = λ s f h. i.least s (without_place f) (f, h, refl) };
    same = i.here.2;
  }

  module _ (fault : PlacedFault) (told : DefFault) (is : told ≡ without_place fault) where
    pub told_first : (fault ≢ placed.Memory → IsFirst (placed_faults p) fault)
        → told ≢ def.Memory
        → IsFirst (element_faults p) told
    told_first first n = rw is (element_first fault (first (λ e. n (is ∙ ap without_place e))))

    pub told_ok : (IsClear (placed_faults p) → fault ≡ placed.Memory) → IsClear (element_faults p) → told ≡ def.Memory
    told_ok ok clear = is ∙ ap without_place (ok (places_clear clear))

    pub told_fault :
        ((other : PlacedFault) → IsFirst (placed_faults p) other → (fault ≡ other) ⊎ (fault ≡ placed.Memory))
        → (other : DefFault)
        → IsFirst (element_faults p) other
        → (told ≡ other) ⊎ (told ≡ def.Memory)
    told_fault each other i =
        let placed = placed_first other i in
        elim (each placed.placed placed.first) [
          | inl e ↦ inl (is ∙ ap without_place e ∙ sym placed.same)
          | inr e ↦ inr (is ∙ ap without_place e)
        ]
