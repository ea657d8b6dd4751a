-- A node that a fault of places or of registers names has a place.
use Rattle.std.proofs.Common.{◌≡◌, ◌⊎◌, inl, inr, ⊎_elim, sym, subst, arith, ℕ, ◌<◌, List, length}
use Rattle.std.specs.Prelude.{IfSome}
use Rattle.datapath.specs.Allowed.{IsDatapath}
use Rattle.datapath.specs.declared.types.Datapath.{Datapath}
use Rattle.given_registers.specs.declared.fault.RegisterFault.TheVariants as of_registers
use Rattle.plan_core.specs.Arcs.{no_arc, arc_of, IsArcs}
use Rattle.plan_core.specs.Hardware.{port_of}
use Rattle.plan_core.specs.Lowered.{IsLowered}
use Rattle.plan_core.specs.Operands.{no_edge, Reads}
use Rattle.placed_plan.specs.Faults.{HasUnplacedNode, HasUnkeptNode, IsPlaceFault}
use Rattle.placed_plan.specs.declared.fault.PlaceFault.{PlaceFault}
use Rattle.placed_plan.specs.declared.fault.PlaceFault.TheVariants.{Line as Unstored, Missing, Surplus, TooWide}
use Rattle.placed_plan.specs.declared.fault.PlaceFault.TheVariants.{WrongUnit, Late, Past, Busy, FileWritten}
use Rattle.placed_plan.specs.declared.fault.PlaceFault.TheVariants.{NoBus, FileFull, Memory}
use Rattle.placed_plan.specs.GivenPlans.{HasRegisterFault, IsGivenPlanFault}
use Rattle.placed_plan.specs.Places.{AreOnGivenUnits}
use Rattle.placed_plan.specs.declared.fault.GivenPlanFault.{GivenPlanFault}
use Rattle.placed_plan.specs.declared.fault.GivenPlanFault.TheVariants as of_plan
use Rattle.placed_plan.specs.declared.place.Place.{Place}
use Rattle.placed_plan.proofs.OneFault.{problem}
use Rattle.placed_plan.proofs.PlansAt.{time_fault}
use Rattle.place_file.specs.declared.registers.GivenRegisters.{GivenRegisters}
use Rattle.plan_core.specs.declared.schedule.Assigned.{Assigned}
use Rattle.plan_core.specs.declared.schedule.Schedule.{Schedule}
use Rattle.plan_core.specs.declared.registers.Arc.{Arc}
use Rattle.plan_core.proofs.Readers.{reader_there}
use Rattle.signal_graph.specs.GraphRules.{IsGraph}
use Rattle.signal_graph.specs.GraphSolves.{no_node, IsGraphLoopless}
use Rattle.signal_graph.specs.declared.graph.Graph.{Graph}
use Rattle.place_command.specs.Refusals.{named_node}
use Rattle.place_command.specs.Private.Endings.{HasItsLine, HasItsPlace}

module _ (g : Graph) (d : Datapath) (places : List Place) (allowed : IsDatapath d) (sound : IsGraph g)
    (loopless : IsGraphLoopless g) where
  stopped : (Cause : Datapath → Assigned → Schedule → (height : ℕ → ℕ) → (v t : ℕ) → Type 0) (v : ℕ)
      → HasUnplacedNode g d places Cause v
      → v < length places
  stopped Cause v h =
      let there = h.unplaced.there in
      omega (arith, there, h.units.place_count)

  -- the node of a lifetime has one
  kept : (a : Assigned)
      → IsLowered g d a.lowered
      → AreOnGivenUnits places d a
      → (s : Schedule) (arcs : List Arc)
      → IsArcs d a s arcs
      → (k : ℕ)
      → k < length arcs
      → (arc_of arcs k).node < length places
  kept a lowered units s arcs are k there =
      let nodes = a.lowered.nodes in
      let arc = arc_of arcs k in
      let read = (are.each k no_arc there).read in
      let its = problem g d places allowed sound loopless a lowered units in
      let reads : Reads nodes read.0 arc.port.port arc.node = read.1.reads in
      subst (λ (n : ℕ). arc.node < n) (sym units.place_count)
      (subst (λ (x : ℕ). x < length nodes) reads.node
      (its.schedulable.edges read.0 no_node (reader_there nodes read.0 arc.port.port arc.node reads) arc.port.port
      no_edge reads.port))

  unkept : (unit port v : ℕ) → HasUnkeptNode g d places (port_of unit port) v → v < length places
  unkept unit port v h =
      subst (λ (u : ℕ). u < length places) (sym h.none.node_is)
      (kept h.assigned h.is_lowered h.units h.schedule h.arcs h.are_arcs h.none.k h.none.there)

  pub named_there : (fault : PlaceFault)
      → IsPlaceFault g d places fault
      → IfSome (named_node fault) (λ v. v < length places)
  named_there (Unstored fault) h = tt
  named_there (Missing v) h = tt
  named_there (Surplus v) h = omega (arith, h.lacks, h.is)
  named_there (TooWide v) h = let there = h.misplaced.there in omega (arith, there, h.count)
  named_there (WrongUnit v) h = let there = h.misplaced.there in omega (arith, there, h.count)
  named_there (Late v operand from) h = stopped _ v h
  named_there (Past v) h = stopped _ v h
  named_there (Busy v) h = stopped _ v h
  named_there (FileWritten unit port v) h = stopped _ v h
  named_there (NoBus unit port v) h = stopped _ v h
  named_there (FileFull unit port v) h = unkept unit port v h
  named_there Memory h = absurd h

  -- so it has a line, where there are as many lines as places
  pub its_line : (lines : List ℕ)
      → length lines ≡ length places
      → (fault : PlaceFault)
      → (fault ≡ Memory) ⊎ IsPlaceFault g d places fault
      → HasItsLine lines fault
  its_line lines count fault why =
      ⊎_elim (λ (e : fault ≡ Memory). subst (HasItsLine lines) (sym e) tt)
      (λ (h : IsPlaceFault g d places fault).
      subst (λ (n : ℕ). IfSome (named_node fault) (λ v. v < n)) (sym count) (named_there fault h))
      why

  module _ (given : GivenRegisters) where
    unkept_around : (unit port v : ℕ)
        → HasRegisterFault places g d given.registers (of_registers.Full unit port v)
        → v < length places
    unkept_around unit port v h =
        let x = h.fault_is.none in
        subst (λ (u : ℕ). u < length places) (sym x.node_is)
        (kept h.assigned h.timed.lowered h.timed.units h.schedule h.arcs h.timed.arcs_are x.k x.there)

    -- so has what a fault of places and registers names
    pub its_place : (lines : List ℕ)
        → length lines ≡ length places
        → length given.lines ≡ length given.registers
        → (fault : GivenPlanFault)
        → (fault ≡ of_plan.Memory) ⊎ IsGivenPlanFault places g d given.registers fault
        → HasItsPlace lines given fault
    its_place lines count given_count of_plan.Memory why = tt
    its_place lines count given_count (of_plan.Place fault) (inl e) = absurd (cc)
    its_place lines count given_count (of_plan.Place fault) (inr h) =
        its_line lines count fault (inr (time_fault g d places fault h))
    its_place lines count given_count (of_plan.Registers fault) (inl e) = absurd (cc)
    its_place lines count given_count (of_plan.Registers (of_registers.Given n cause)) (inr h) =
        let there = h.fault_is.first.there in (there, omega (arith, there, given_count))
    its_place lines count given_count (of_plan.Registers (of_registers.Full unit port v)) (inr h) =
        let there = unkept_around unit port v h in omega (arith, there, count)
    its_place lines count given_count (of_plan.Registers of_registers.Memory) (inr h) = tt
