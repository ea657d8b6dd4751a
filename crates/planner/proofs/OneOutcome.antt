-- A graph that can be planned has no fault where it has a plan.
use Rattle.std.proofs.Common.{◌≡◌, sym, subst, ℕ, List}
use Rattle.datapath.specs.Allowed.{IsDatapath}
use Rattle.datapath.specs.declared.types.Datapath.{Datapath}
use Rattle.signal_graph.specs.GraphRules.{IsGraph}
use Rattle.signal_graph.specs.GraphSolves.{IsGraphLoopless}
use Rattle.signal_graph.specs.declared.graph.Graph.{Graph}
use Rattle.plan_core.specs.Hardware.{port_of}
use Rattle.plan_core.specs.Lowered.{IsLowered}
use Rattle.plan_core.specs.Assigned.{IsAssigned}
use Rattle.plan_core.specs.Arcs.{IsArcs, IsUnroll}
use Rattle.plan_core.specs.IsPlan.{IsPlan}
use Rattle.plan_core.specs.ListSchedule.{IsListSchedule}
use Rattle.plan_core.specs.Refusals.{IsWithoutCycle, IsWithoutRegister}
use Rattle.plan_core.specs.declared.delay_lines.Lowered.{Lowered}
use Rattle.plan_core.specs.declared.schedule.Assigned.{Assigned}
use Rattle.plan_core.specs.declared.schedule.Schedule.{Schedule}
use Rattle.plan_core.specs.declared.registers.Arc.{Arc}
use Rattle.plan_core.specs.declared.plan.Plan.{Plan}
use Rattle.plan_core.proofs.OneArcs.{one_arcs}
use Rattle.plan_core.proofs.OneAssigned.{one_assigned}
use Rattle.plan_core.proofs.OneHeight.{live_of}
use Rattle.plan_core.proofs.OneSchedule.{one_schedule}
use Rattle.delay_memory.proofs.OneFault.{one_lowered, lowered_or_not}
use Rattle.unit_assign.proofs.OneFault.{bound_or_not}
use Rattle.schedule_priority.specs.Problem.{IsProblem}
use Rattle.schedule_priority.proofs.Problems.{operand_in}
use Rattle.list_schedule.specs.declared.fault.PeriodFault.TheVariants as period
use Rattle.list_schedule.proofs.OneFault.{scheduled_or_not}
use Rattle.reg_alloc.specs.declared.fault.FileFault.TheVariants as file
use Rattle.reg_alloc.proofs.OneAnswer.{allotted_or_not}
use Rattle.planner.specs.Faults.{IsPlanFault}
use Rattle.planner.specs.declared.fault.PlanFault.{PlanFault}
use Rattle.planner.specs.declared.fault.PlanFault.TheVariants.{Line as Unstored, Unit as Unbound, Period, FileFull}
use Rattle.planner.specs.declared.fault.PlanFault.TheVariants.{Memory}
use Rattle.plan_soundness.proofs.Units.{on_right_units}
use Rattle.planner.proofs.Asked.{schedulable, allottable}

module _ (g : Graph) (d : Datapath) (allowed : IsDatapath d) (sound : IsGraph g) (loopless : IsGraphLoopless g)
    (p : Plan) (is : IsPlan g d p) where
  same_lowered : (l : Lowered) → IsLowered g d l → l ≡ p.assigned.lowered
  same_lowered l low = one_lowered d.hold 1 g d l p.assigned.lowered low is.lowered

  same_assigned : (a : Assigned) → IsLowered g d a.lowered → IsAssigned d a → a ≡ p.assigned
  same_assigned a low bound = one_assigned d a p.assigned (same_lowered a.lowered low) bound is.assigned

  problem : IsProblem d p.assigned
  problem = record {
    path = allowed;
    schedulable = schedulable g d sound p.assigned is.lowered loopless (on_right_units is.assigned);
  }

  same_schedule : (s : Schedule) → IsListSchedule d p.assigned s → s ≡ p.schedule
  same_schedule s scheduled =
      one_schedule d p.assigned (live_of d allowed) (operand_in d p.assigned problem) s p.schedule scheduled is.schedule

  -- each node has its cycle
  scheduled_all : (a : Assigned) (v : ℕ) → a ≡ p.assigned → IsWithoutCycle d a v → ⊥
  scheduled_all a v same none =
      scheduled_or_not d p.assigned problem p.schedule is.schedule (period.Period v)
      (subst (λ (b : Assigned). IsWithoutCycle d b v) same none)

  -- each copy has its register
  allotted_all : (unit port v unroll : ℕ)
      → IsUnroll p.arcs unroll
      → IsWithoutRegister d unroll p.arcs (port_of unit port) v
      → ⊥
  allotted_all unit port v unroll unroll_is none =
      allotted_or_not d p.arcs
      (allottable g d sound p.assigned is.lowered allowed (on_right_units is.assigned) p.schedule is.schedule p.arcs
      is.arcs)
      p.registers.regs
      (record { unroll = p.unroll; unroll_is = is.unroll; fit = is.registers; sizes = is.sizes })
      (file.Full unit port v) (record { unroll = unroll; unroll_is = unroll_is; none = none })

  -- the lifetimes of the plan's nodes, however they are told
  same_arcs : (a : Assigned) (s : Schedule) (arcs : List Arc)
      → a ≡ p.assigned
      → IsListSchedule d a s
      → IsArcs d a s arcs
      → arcs ≡ p.arcs
  same_arcs a s arcs same scheduled are =
      let here = subst (λ (b : Assigned). IsListSchedule d b s) same scheduled in
      let there = subst (λ (b : Assigned). IsArcs d b s arcs) same are in
      one_arcs d p.assigned p.schedule arcs p.arcs
      (subst (λ (z : Schedule). IsArcs d p.assigned z arcs) (same_schedule s here) there) is.arcs

  pub plan_or_not : (fault : PlanFault) → IsPlanFault g d fault → ⊥
  plan_or_not (Unstored f) h = lowered_or_not d.hold 1 g d p.assigned.lowered is.lowered f h
  plan_or_not (Unbound f) h =
      bound_or_not d h.lowered p.assigned (sym (same_lowered h.lowered h.is_lowered)) is.assigned f h.none
  plan_or_not (Period v) h =
      scheduled_all h.assigned v (same_assigned h.assigned h.is_lowered h.is_assigned) h.none
  plan_or_not (FileFull unit port v) h =
      let same = same_assigned h.assigned h.is_lowered h.is_assigned in
      let arcs = same_arcs h.assigned h.schedule h.arcs same h.is_schedule h.are_arcs in
      allotted_all unit port v h.unroll (subst (λ (xs : List Arc). IsUnroll xs h.unroll) arcs h.is_unroll)
      (subst (λ (xs : List Arc). IsWithoutRegister d h.unroll xs (port_of unit port) v) arcs h.none)
  plan_or_not Memory h = h
