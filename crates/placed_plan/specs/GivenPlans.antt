-- Plans with places and registers that are given.
use Rattle.std.specs.Prelude.{◌≡◌, ℕ, ◌<◌, List, length}
use Rattle.datapath.specs.declared.types.Datapath.{Datapath}
use Rattle.signal_graph.specs.declared.graph.Graph.{Graph}
use Rattle.plan_core.specs.Lowered.{IsLowered}
use Rattle.plan_core.specs.Arcs.{IsArcs, IsUnroll}
use Rattle.plan_core.specs.declared.schedule.Assigned.{Assigned}
use Rattle.plan_core.specs.declared.schedule.Schedule.{Schedule}
use Rattle.plan_core.specs.declared.registers.Arc.{Arc}
use Rattle.plan_core.specs.declared.plan.Plan.{Plan}
use Rattle.plan_soundness.specs.Parts.{register_at}
use Rattle.given_registers.specs.Around.{given_at, IsFor, AreAllottedAround}
use Rattle.given_registers.specs.Faults.{IsRegisterFault}
use Rattle.given_registers.specs.declared.given.GivenRegister.{GivenRegister}
use Rattle.given_registers.specs.declared.fault.RegisterFault.{RegisterFault}
use Rattle.placed_plan.specs.Places.{AreOnGivenUnits, IsScheduleAt}
use Rattle.placed_plan.specs.Faults.{IsTimeFault}
use Rattle.placed_plan.specs.declared.place.Place.{Place}
use Rattle.placed_plan.specs.declared.fault.GivenPlanFault.{GivenPlanFault}
use Rattle.placed_plan.specs.declared.fault.GivenPlanFault.TheVariants.{Place as OfPlaces, Registers, Memory}

-- in the plan each given register is that of its copy
abbrev pub HasRegisters : List GivenRegister → Plan → Type 0
HasRegisters given p =
    (n : ℕ)
    → n < length given
    → (k : ℕ) × (i : ℕ) × IsFor p.arcs (given_at given n) k i × (register_at p k i ≡ (given_at given n).register)

module _ (places : List Place) (g : Graph) (d : Datapath) where
  -- each node stands at its place, and these are its lifetimes
  pub record AreTimed (a : Assigned) (s : Schedule) (arcs : List Arc) : Type 0 where
    pub lowered : IsLowered g d a.lowered
    pub units : AreOnGivenUnits places d a
    pub schedule : IsScheduleAt places d a s
    pub arcs_are : IsArcs d a s arcs

  module _ (given : List GivenRegister) where
    -- The plan of the graph with these places and registers: its buses and lifetimes follow their rules, and first fit
    -- finds the registers that are not given.
    pub record IsPlanGiven (p : Plan) : Type 0 where
      pub timed : AreTimed p.assigned p.schedule p.arcs
      pub unroll : IsUnroll p.arcs p.unroll
      pub registers : AreAllottedAround d given p.arcs p.registers.regs
      pub inputs : p.inputs ≡ g.inputs
      pub outs : p.outs ≡ g.outs

    -- each node stands at its place, and the lifetimes have no registers for this cause
    pub record HasRegisterFault (fault : RegisterFault) : Type 0 where
      pub assigned : Assigned
      pub schedule : Schedule
      pub arcs : List Arc
      pub timed : AreTimed assigned schedule arcs
      pub fault_is : IsRegisterFault d given arcs fault

    -- The fault is that of the places, and where they have none that of the registers. To be out of memory is none.
    abbrev pub IsGivenPlanFault : GivenPlanFault → Type 0
    IsGivenPlanFault (OfPlaces fault) = IsTimeFault g d places fault
    IsGivenPlanFault (Registers fault) = HasRegisterFault fault
    IsGivenPlanFault Memory = ⊥
