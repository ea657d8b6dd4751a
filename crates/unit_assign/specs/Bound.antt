-- The units of the nodes of a graph, on their own.
use Rattle.std.specs.Prelude.{ℕ, List}
use Rattle.datapath.specs.declared.types.Datapath.{Datapath}
use Rattle.plan_core.specs.Assigned.{IsAssigned}
use Rattle.plan_core.specs.declared.delay_lines.Lowered.{Lowered}

-- each node of the graph has its unit here
abbrev pub AreUnitsOf : Datapath → Lowered → List ℕ → Type 0
AreUnitsOf d l units = IsAssigned d (record { lowered = l; units = units })
