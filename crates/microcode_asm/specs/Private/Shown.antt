-- The parts of a plan that the text of its schedule shows, and where a lifetime stands.
use Rattle.std.specs.Prelude.{◌≡◌, ℕ, ◌==◌, ◌&&◌, ◌||◌, nat_lt, Bool, List}
use Rattle.operations.specs.declared.units.PortRef.{PortRef}
use Rattle.signal_graph.specs.declared.graph.Node.{Node}
use Rattle.plan_core.specs.Stages.{written_around}
use Rattle.plan_core.specs.ListSchedule.{slot_of}
use Rattle.plan_core.specs.declared.schedule.Transfer.{Transfer}
use Rattle.plan_core.specs.declared.registers.Arc.{Arc}
use Rattle.microcode_asm.specs.ScheduleText.{placing_part as placing_in, destination as destination_in}
use Rattle.microcode_asm.specs.ScheduleText.{registers_at as registers_in}
use Rattle.microcode_asm.specs.declared.printed.Printed.{Printed}

-- the arc stands before one that is for the words of node v, written in cycle w, at the port
abbrev pub is_before : (port : PortRef) (w v : ℕ) → Arc → Bool
is_before port w v arc =
    nat_lt arc.port.unit port.unit
    || arc.port.unit == port.unit && (nat_lt arc.port.port port.port
    || arc.port.port == port.port && (nat_lt arc.w w || arc.w == w && nat_lt arc.node v))

module _ (p : Printed) where
  abbrev pub nodes_of : List Node
  nodes_of = p.assigned.now.lowered.nodes

  abbrev pub transfers_of : (v : ℕ) → List Transfer
  transfers_of v = (slot_of p.schedule.now v).transfers

  -- the cycle of the period in which the result of node v is there
  abbrev pub written_in : (v : ℕ) → ℕ
  written_in v = written_around p.datapath.now p.assigned.now p.schedule.now v

  abbrev pub registers_at : (v : ℕ) → PortRef → List ℕ
  registers_at v port = registers_in p.datapath.now p.assigned.now p.schedule.now p.arcs.now p.registers.now v port

  abbrev pub placing_part : (v : ℕ) → List ℕ
  placing_part v = placing_in p.datapath.now p.assigned.now p.schedule.now p.arcs.now p.registers.now v

  abbrev pub destination : (v : ℕ) → Transfer → List ℕ
  destination v transfer =
      destination_in p.datapath.now p.assigned.now p.schedule.now p.arcs.now p.registers.now v transfer
