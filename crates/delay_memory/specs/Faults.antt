-- The fault of a graph in which a node needs a delay line and gets none.
use Rattle.std.specs.Prelude.{ℕ}
use Rattle.datapath.specs.declared.types.Datapath.{Datapath}
use Rattle.signal_graph.specs.declared.graph.Graph.{Graph}
use Rattle.plan_core.specs.Refusals.{IsWithoutRam, IsWithoutCells, IsWithoutAcu}
use Rattle.delay_memory.specs.declared.fault.LineFault.{LineFault}
use Rattle.delay_memory.specs.declared.fault.LineFault.TheVariants.{NoRam, LinesFull, NoAcu, Memory}

-- The fault is that of the first node without a line, as the refusals of plans say, where delays above the hold become
-- lines, each with so many spare cells. To be out of memory is none.
abbrev pub IsLineFaultOver : (hold spare : ℕ) → Graph → Datapath → LineFault → Type 0
IsLineFaultOver hold spare g d (NoRam v) = IsWithoutRam hold spare g d v
IsLineFaultOver hold spare g d (LinesFull v) = IsWithoutCells hold spare g d v
IsLineFaultOver hold spare g d (NoAcu ram v) = IsWithoutAcu hold spare g d ram v
IsLineFaultOver hold spare g d Memory = ⊥

-- the same where one sample is in flight at a time
abbrev pub IsLineFault : Graph → Datapath → LineFault → Type 0
IsLineFault g d = IsLineFaultOver d.hold 1 g d
