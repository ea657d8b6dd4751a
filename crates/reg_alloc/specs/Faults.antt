-- The fault of lifetimes of which a copy has no register.
use Rattle.std.specs.Prelude.{ℕ, List}
use Rattle.operations.specs.declared.units.PortRef.{PortRef}
use Rattle.datapath.specs.declared.types.Datapath.{Datapath}
use Rattle.plan_core.specs.Hardware.{port_of}
use Rattle.plan_core.specs.Arcs.{IsUnroll}
use Rattle.plan_core.specs.Refusals.{IsWithoutRegister}
use Rattle.plan_core.specs.declared.registers.Arc.{Arc}
use Rattle.reg_alloc.specs.declared.fault.FileFault.{FileFault}
use Rattle.reg_alloc.specs.declared.fault.FileFault.TheVariants.{Full, Memory}

-- the first copy without a register is of this node's lifetime at the port
pub record IsFull (d : Datapath) (arcs : List Arc) (port : PortRef) (node : ℕ) : Type 0 where
  pub unroll : ℕ
  pub unroll_is : IsUnroll arcs unroll
  pub none : IsWithoutRegister d unroll arcs port node

-- The fault is that of the first copy without a register. To be out of memory is none.
abbrev pub IsFileFault : Datapath → List Arc → FileFault → Type 0
IsFileFault d arcs (Full unit port node) = IsFull d arcs (port_of unit port) node
IsFileFault d arcs Memory = ⊥
