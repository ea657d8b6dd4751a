-- What the text of a schedule needs of the parts that it shows.
use Rattle.std.specs.Prelude.{◌≡◌, ℕ, ◌+◌, ◌<◌, ◌≤◌, List, length, All}
use Rattle.std.specs.List.{AllPairs}
use Rattle.operations.specs.declared.units.PortRef.{PortRef}
use Rattle.datapath.specs.declared.types.Datapath.{Datapath}
use Rattle.plan_core.specs.Assigned.{unit_in}
use Rattle.plan_core.specs.Heights.{latency_of}
use Rattle.plan_core.specs.ListSchedule.{cycle_of, slot_of}
use Rattle.plan_core.specs.Stages.{written_around}
use Rattle.plan_core.specs.Arcs.{arc_of, IsArcBefore, IsArcFor}
use Rattle.plan_core.specs.declared.schedule.Assigned.{Assigned}
use Rattle.plan_core.specs.declared.schedule.Schedule.{Schedule}
use Rattle.plan_core.specs.declared.schedule.Transfer.{Transfer}
use Rattle.plan_core.specs.declared.registers.Arc.{Arc}
use Rattle.plan_core.specs.declared.registers.Registers.{Registers}
use Rattle.microcode_asm.specs.ScheduleText.{node_line as line_of, node_lines as lines_of}
use Rattle.microcode_asm.specs.declared.printed.Printed.{Printed}

-- how many cycles are counted from the start of a sample
abbrev pub cycle_count : ℕ
cycle_count = 65536

-- some lifetime is that of the words of node v at the port
pub record HasArc (arcs : List Arc) (v : ℕ) (port : PortRef) : Type 0 where
  pub place : ℕ
  pub there : place < length arcs
  pub is : IsArcFor v port (arc_of arcs place)

module _ (d : Datapath) (arcs : List Arc) where
  -- a transfer of node v: its unit and its bus are there, and its words have a lifetime
  pub record IsToPort (v : ℕ) (transfer : Transfer) : Type 0 where
    pub unit : transfer.port.unit < length d.units
    pub bus : transfer.bus < length d.buses
    pub arc : HasArc arcs v transfer.port

module _ (d : Datapath) (a : Assigned) (s : Schedule) (arcs : List Arc) (r : Registers) where
  -- lifetimes are in order, each with the cycle of the period in which it is written, and with its registers
  pub record AreArcs : Type 0 where
    pub order : AllPairs IsArcBefore arcs
    pub written :
        All (λ (arc : Arc). arc.node < length a.lowered.nodes → arc.w ≡ written_around d a s arc.node) arcs
    pub registers : length r.regs ≡ length arcs

  pub record ArePrintable : Type 0 where
    pub some : 1 ≤ d.period
    pub unit_count : length a.units ≡ length a.lowered.nodes
    pub slot_count : length s.slots ≡ length a.lowered.nodes
    pub units : (v : ℕ) → v < length a.lowered.nodes → unit_in a.units v < length d.units
    pub latencies : (v : ℕ) → v < length a.lowered.nodes → 1 ≤ latency_of d a v
    pub ends_within : (v : ℕ) → v < length a.lowered.nodes → cycle_of s v + latency_of d a v ≤ cycle_count
    pub transfers : (v : ℕ) → v < length a.lowered.nodes → All (IsToPort d arcs v) (slot_of s v).transfers
    pub lifetimes : AreArcs

module _ (p : Printed) where
  abbrev pub IsPrintable : Type 0
  IsPrintable = ArePrintable p.datapath.now p.assigned.now p.schedule.now p.arcs.now p.registers.now

  abbrev pub node_line : (v : ℕ) → List ℕ
  node_line v = line_of p.datapath.now p.assigned.now p.schedule.now p.arcs.now p.registers.now v

  -- the lines of the nodes by number
  abbrev pub node_lines : List ℕ
  node_lines = lines_of p.datapath.now p.assigned.now p.schedule.now p.arcs.now p.registers.now
