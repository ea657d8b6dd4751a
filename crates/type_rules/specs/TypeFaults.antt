-- The faults of the types of a program, each with its rank.
use Rattle.fault_order.specs.Ranked.{FaultSet}
use Rattle.fault_order.specs.Rules.{faults}
use Rattle.silage_syntax.specs.Tree.{Program}
use Rattle.type_rules.specs.TypeRules.{type_rules}
use Rattle.type_rules.specs.declared.fault.TypeFault.{TypeFault}

-- the rank of a fault is the place of its rule in the table
abbrev pub type_faults : Program → FaultSet TypeFault
type_faults p = faults (type_rules p)
