-- The operations of a table, from the chain that it keeps of them.
use Rattle.std.specs.Prelude.{List, [], ◌∷◌, ◌++◌}
use Rattle.datapath.specs.declared.types.Datapath.{Datapath}
use Rattle.bus_alloc.specs.Table.{Placed, Reservations}
use Rattle.bus_alloc.specs.declared.history.History.{History}
use Rattle.bus_alloc.specs.declared.history.History.TheVariants.{Empty, Then'}

abbrev pub placed_in : History → List Placed
placed_in Empty = []
placed_in (Then' _ earlier unit slot) = placed_in earlier ++ record { unit = unit; slot = slot.value } ∷ []

abbrev pub reservations : Datapath → History → Reservations
reservations d history = record { datapath = d; placed = placed_in history }
