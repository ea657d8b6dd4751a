-- The way to a lifetime among those of its node.
use Rattle.std.specs.Prelude.{◌≡◌, ℕ, ◌<◌, ◌≤◌, List, length}
use Rattle.operations.specs.declared.units.PortRef.{PortRef}
use Rattle.plan_core.specs.Arcs.{arc_of}
use Rattle.plan_core.specs.declared.registers.Arc.{Arc}
use Rattle.microcode_asm.specs.Lifetimes.{IsFoundArc}

-- lifetime k is of node v, and no later than the one for its words at the port
pub record IsOnWay (arcs : List Arc) (v : ℕ) (port : PortRef) (k : ℕ) : Type 0 where
  pub there : k < length arcs
  pub its_node : (arc_of arcs k).node ≡ v
  pub ahead : (j : ℕ) → IsFoundArc arcs v port j → k ≤ j
