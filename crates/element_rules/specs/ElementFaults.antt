-- The faults of the elements of a program, each with its rank.
use Rattle.std.specs.Prelude.{◌≡◌}
use Rattle.fault_order.specs.Ranked.{FaultSet}
use Rattle.fault_order.specs.Rules.{faults}
use Rattle.silage_syntax.specs.Tree.{Program}
use Rattle.element_rules.specs.ElementRules.{element_rules}
use Rattle.element_rules.specs.declared.fault.DefFault.{DefFault}
use Rattle.element_rules.specs.declared.fault.DefFault.TheVariants as def
use Rattle.element_rules.specs.declared.fault.PlacedFault.{PlacedFault}
use Rattle.element_rules.specs.declared.fault.PlacedFault.TheVariants as placed

-- the rank of a fault is the place of its rule in the table
abbrev pub placed_faults : Program → FaultSet PlacedFault
placed_faults p = faults (element_rules p)

-- an element without a definition by its declaration alone
abbrev pub without_place : PlacedFault → DefFault
without_place (placed.Index at) = def.Index at
without_place (placed.Bounds at) = def.Bounds at
without_place (placed.Delay at) = def.Delay at
without_place (placed.Shift at) = def.Shift at
without_place (placed.DefinedTwice at) = def.DefinedTwice at
without_place (placed.NotDefined at place) = def.NotDefined at
without_place (placed.TooLarge at) = def.TooLarge at
without_place placed.Memory = def.Memory

-- the same faults, each without the place of its element
abbrev pub element_faults : Program → FaultSet DefFault
element_faults p rank fault = (placed : PlacedFault) × placed_faults p rank placed × (fault ≡ without_place placed)
