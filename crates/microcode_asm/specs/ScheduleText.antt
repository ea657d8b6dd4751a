-- The text of a schedule: a head line, and then for each node a line with its cycle, its unit, its operation and where
-- its result goes. Units and buses stand there by name, and numbers in decimal.
use Rattle.std.specs.Prelude.{ℕ, ◌==◌, ◌&&◌, Bool, if◌then◌else◌, List, [], ◌∷◌, ◌++◌, length, map, slice_index_or}
use Rattle.std.specs.Prelude.{codes, decimal}
use Rattle.std.specs.List.{flat_map, join_with_byte, position_or_len, range_with_len}
use Rattle.operations.specs.declared.units.PortRef.{PortRef}
use Rattle.datapath.specs.declared.types.Datapath.{Datapath}
use Rattle.signal_graph.specs.declared.graph.Edge.{Edge}
use Rattle.signal_graph.specs.declared.graph.Node.{Node}
use Rattle.plan_core.specs.Hardware.{unit_of, no_bus}
use Rattle.plan_core.specs.Operands.{node_of}
use Rattle.plan_core.specs.Assigned.{unit_in}
use Rattle.plan_core.specs.ListSchedule.{slot_of, cycle_of}
use Rattle.plan_core.specs.declared.plan.Plan.{Plan}
use Rattle.plan_core.specs.declared.schedule.Assigned.{Assigned}
use Rattle.plan_core.specs.declared.schedule.Schedule.{Schedule}
use Rattle.plan_core.specs.declared.schedule.Transfer.{Transfer}
use Rattle.plan_core.specs.declared.registers.Arc.{Arc}
use Rattle.plan_core.specs.declared.registers.Registers.{Registers}
use Rattle.operations.specs.Names.{operation_name}
use Rattle.microcode_asm.specs.OperationText.{line_feed, blank, point, argument, format_part}

abbrev pub comma : ℕ
comma = 44

abbrev pub at_sign : ℕ
at_sign = 64

-- how many samples ago the operand is, where it is not of this sample
abbrev pub ago : (delay : ℕ) → List ℕ
ago delay = if delay == 0 then [] else at_sign ∷ decimal delay

-- the number of the node that is read
abbrev pub operand : Edge → List ℕ
operand edge = blank ∷ decimal edge.node ++ ago edge.delay

abbrev pub register_list : List ℕ → List ℕ
register_list registers = join_with_byte comma (map decimal registers)

-- what a node does: its operation, its operands and how its result is quantised
unfoldable pub operation_part : Node → List ℕ
operation_part node =
    codes " op " ++ operation_name node.op ++ argument node.op node.arg ++ flat_map operand node.edges
    ++ format_part node.op node.fmt

abbrev pub is_arc_for : (v : ℕ) → PortRef → Arc → Bool
is_arc_for v port arc = arc.node == v && arc.port.unit == port.unit && arc.port.port == port.port

module _ (d : Datapath) where
  abbrev pub unit_name : (unit : ℕ) → List ℕ
  unit_name unit = (unit_of d unit).name

  abbrev pub bus_name : (bus : ℕ) → List ℕ
  bus_name bus = (slice_index_or d.buses bus no_bus).name

  abbrev pub port_name : PortRef → List ℕ
  port_name port = unit_name port.unit ++ point ∷ decimal port.port

  -- units, a schedule, and lifetimes with their registers
  module _ (a : Assigned) (s : Schedule) (arcs : List Arc) (r : Registers) where
    -- the registers of the copies of the lifetime that the words of node v have at the port
    abbrev pub registers_at : (v : ℕ) → PortRef → List ℕ
    registers_at v port = slice_index_or r.regs (position_or_len (is_arc_for v port) arcs) []

    -- a port that takes the node's result, the bus on which it goes there, and where it stands then
    unfoldable pub destination : (v : ℕ) → Transfer → List ℕ
    destination v transfer =
        codes " to " ++ port_name transfer.port ++ codes " bus " ++ bus_name transfer.bus
        ++ codes " regs " ++ register_list (registers_at v transfer.port)

    -- when and where a node is done
    unfoldable pub placing_part : (v : ℕ) → List ℕ
    placing_part v =
        codes "node " ++ decimal v ++ codes " cycle " ++ decimal (cycle_of s v)
        ++ codes " unit " ++ unit_name (unit_in a.units v)

    unfoldable pub node_line : (v : ℕ) → List ℕ
    node_line v =
        placing_part v ++ operation_part (node_of a.lowered.nodes v)
        ++ flat_map (destination v) (slot_of s v).transfers ++ line_feed ∷ []

    -- the lines of the nodes by number
    abbrev pub node_lines : List ℕ
    node_lines = flat_map node_line (range_with_len 0 (length a.lowered.nodes))

module _ (d : Datapath) (p : Plan) where
  unfoldable pub head_line : List ℕ
  head_line =
      codes "period " ++ decimal d.period ++ codes " unroll " ++ decimal p.unroll
      ++ codes " nodes " ++ decimal (length p.assigned.lowered.nodes) ++ line_feed ∷ []

  -- the head, and the lines of the nodes
  unfoldable pub schedule_text : List ℕ
  schedule_text = head_line ++ node_lines d p.assigned p.schedule p.arcs p.registers
