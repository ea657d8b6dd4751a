-- What the checks find: the error, and the element that it is about.
use Rattle.std.specs.Prelude.{ℕ, Option, Some, None, option_map}
use Rattle.silage_syntax.specs.Tree.{Program}
use Rattle.element_rules.specs.ElementFaults.{without_place}
use Rattle.element_rules.specs.declared.fault.PlacedFault.{PlacedFault}
use Rattle.element_rules.specs.declared.fault.PlacedFault.TheVariants as placed
use Rattle.front_end.specs.Places.{byte_of, IsNumbered}
use Rattle.source_faults.specs.Private.Errors.{of_defs}
use Rattle.front_end.specs.declared.checks.Finding.{Finding}
use Rattle.source_faults.specs.declared.fault.FrontError.{FrontError}
use Rattle.front_end.specs.declared.names.ElementPlace.{ElementPlace}

-- the byte of the declaration of an element, and its place in that
abbrev pub place_pair : ElementPlace → ℕ × ℕ
place_pair e = (e.at, e.place)

-- the element with this number stands at a place of a declaration
abbrev pub HasPlace : Program → ℕ → Type 0
HasPlace p k = (at : ℕ) × (place : ℕ) × IsNumbered p k at place

abbrev pub element_of : Finding → Option (ℕ × ℕ)
element_of finding = option_map place_pair finding.element

abbrev pub without_element : FrontError → Finding
without_element error = record { error = error; element = None }

abbrev pub placed_element : PlacedFault → Option ElementPlace
placed_element (placed.NotDefined at place) = Some (record { at = at; place = place })
placed_element _ = None

abbrev pub of_placed : PlacedFault → Finding
of_placed fault = record { error = of_defs (without_place fault); element = placed_element fault }

-- the byte at which it is
abbrev pub byte_of_finding : Finding → Option ℕ
byte_of_finding finding = byte_of finding.error (option_map (λ (e : ElementPlace). e.at) finding.element)
