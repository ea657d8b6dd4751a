-- The items of a chain of snapshots.
use Rattle.std.specs.Prelude.{List, [], ◌∷◌, ◌++◌}
use Rattle.ghost_lists.specs.declared.Chain.{Chain}
use Rattle.ghost_lists.specs.declared.Chain.TheVariants.{Empty, Then'}

abbrev pub items_in : {T : Type 0} → Chain T → List T
items_in Empty = []
items_in (Then' _ earlier item) = items_in earlier ++ item.value ∷ []
