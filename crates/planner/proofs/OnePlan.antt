-- A graph has one plan at most, and one fault of a plan.
use Rattle.std.proofs.Common.{◌≡◌, ◌∙◌, sym, ap, subst, ℕ, List, []}
use Rattle.fix_word.specs.declared.types.SigType.{SigType}
use Rattle.datapath.specs.Allowed.{IsDatapath}
use Rattle.datapath.specs.declared.types.Datapath.{Datapath}
use Rattle.signal_graph.specs.GraphRules.{IsGraph}
use Rattle.signal_graph.specs.GraphSolves.{IsGraphLoopless}
use Rattle.signal_graph.specs.declared.graph.Graph.{Graph}
use Rattle.operations.specs.declared.units.PortRef.{PortRef}
use Rattle.plan_core.specs.Hardware.{port_of}
use Rattle.plan_core.specs.Lowered.{IsLowered}
use Rattle.plan_core.specs.Assigned.{IsAssigned}
use Rattle.plan_core.specs.Arcs.{IsArcs, IsUnroll}
use Rattle.plan_core.specs.FirstFit.{IsFirstFit}
use Rattle.plan_core.specs.IsPlan.{IsPlan}
use Rattle.plan_core.specs.ListSchedule.{IsListSchedule}
use Rattle.plan_core.specs.Refusals.{NeedsLine, IsWithoutCycle}
use Rattle.plan_core.specs.declared.delay_lines.Line.{Line}
use Rattle.plan_core.specs.declared.delay_lines.Lowered.{Lowered}
use Rattle.plan_core.specs.declared.schedule.Assigned.{Assigned}
use Rattle.plan_core.specs.declared.schedule.Schedule.{Schedule}
use Rattle.plan_core.specs.declared.registers.Arc.{Arc}
use Rattle.plan_core.specs.declared.registers.Registers.{Registers}
use Rattle.plan_core.specs.declared.plan.Plan.{Plan}
use Rattle.plan_core.proofs.OneArcs.{one_arcs, one_unroll}
use Rattle.plan_core.proofs.OneAssigned.{one_assigned}
use Rattle.plan_core.proofs.OneFit.{one_fit}
use Rattle.plan_core.proofs.OneHeight.{live_of}
use Rattle.plan_core.proofs.OneSchedule.{one_schedule}
use Rattle.delay_memory.specs.Faults.{IsLineFault}
use Rattle.delay_memory.specs.Private.Delays.{AreDelays}
use Rattle.delay_memory.specs.declared.fault.LineFault.{LineFault}
use Rattle.delay_memory.specs.declared.fault.LineFault.TheVariants as line
use Rattle.delay_memory.proofs.OneFault.{one_lowered, lowered_or_not, one_fault as one_line_fault}
use Rattle.unit_assign.specs.Faults.{IsUnitFault}
use Rattle.unit_assign.specs.declared.fault.UnitFault.{UnitFault}
use Rattle.unit_assign.proofs.OneFault.{bound_or_not, one_fault as one_unit_fault}
use Rattle.schedule_priority.specs.Problem.{IsProblem}
use Rattle.schedule_priority.proofs.Problems.{operand_in}
use Rattle.list_schedule.specs.declared.fault.PeriodFault.TheVariants as period
use Rattle.list_schedule.proofs.OneFault.{scheduled_or_not, one_fault as one_period_fault}
use Rattle.reg_alloc.specs.Faults.{IsFileFault}
use Rattle.reg_alloc.specs.declared.fault.FileFault.TheVariants as file
use Rattle.reg_alloc.proofs.OneAnswer.{one_fault as one_file_fault}
use Rattle.planner.specs.Faults.{HasUnboundNode, HasUnplacedNode, HasUnkeptNode, IsPlanFault}
use Rattle.planner.specs.Private.Errors.{of_period, of_file}
use Rattle.planner.specs.declared.fault.PlanFault.{PlanFault}
use Rattle.planner.specs.declared.fault.PlanFault.TheVariants.{Line as Unstored, Unit as Unbound, Period, FileFull}
use Rattle.planner.specs.declared.fault.PlanFault.TheVariants.{Memory}
use Rattle.plan_soundness.proofs.Units.{on_right_units}
use Rattle.planner.proofs.Asked.{schedulable, allottable}

pub plan_from : (p q : Plan)
    → p.assigned ≡ q.assigned
    → p.schedule ≡ q.schedule
    → p.arcs ≡ q.arcs
    → p.registers ≡ q.registers
    → p.unroll ≡ q.unroll
    → p.inputs ≡ q.inputs
    → p.outs ≡ q.outs
    → p ≡ q
plan_from p q assigned schedule arcs registers unroll inputs outs =
    ap (λ (x : Assigned). record p { assigned = x }) assigned
    ∙ ap (λ (x : Schedule). record p { assigned = q.assigned; schedule = x }) schedule
    ∙ ap (λ (x : List Arc). record p { assigned = q.assigned; schedule = q.schedule; arcs = x }) arcs
    ∙ ap (λ (x : Registers). record q { registers = x; unroll = p.unroll; inputs = p.inputs; outs = p.outs }) registers
    ∙ ap (λ (x : ℕ). record q { unroll = x; inputs = p.inputs; outs = p.outs }) unroll
    ∙ ap (λ (x : List SigType). record q { inputs = x; outs = p.outs }) inputs
    ∙ ap (λ (x : ℕ). record q { outs = x }) outs

module _ (g : Graph) (d : Datapath) (allowed : IsDatapath d) (sound : IsGraph g) (loopless : IsGraphLoopless g) where
  delays_of : (lines : List Line) (v cells : ℕ) (x : NeedsLine d.hold 1 g d lines v cells) → AreDelays g d.hold x.delays
  delays_of lines v cells x = record { count = x.delay_count; long = x.all_long }

  one_line : (e f : LineFault) → IsLineFault g d e → IsLineFault g d f → e ≡ f
  one_line (line.NoRam v) f x y =
      one_line_fault d.hold 1 g d x.needs.delays (delays_of [] v x.cells x.needs) (line.NoRam v) f x y
  one_line (line.LinesFull v) f x y =
      one_line_fault d.hold 1 g d x.needs.delays (delays_of x.lines v x.cells x.needs) (line.LinesFull v) f x y
  one_line (line.NoAcu ram v) f x y =
      one_line_fault d.hold 1 g d x.needs.delays (delays_of x.lines v x.cells x.needs) (line.NoAcu ram v) f x y
  one_line line.Memory f x y = absurd x

  same_lowered : (l m : Lowered) → IsLowered g d l → IsLowered g d m → l ≡ m
  same_lowered l m x y = one_lowered d.hold 1 g d l m x y

  lowered_not : (f : LineFault) → IsLineFault g d f → (l : Lowered) → IsLowered g d l → ⊥
  lowered_not f x l low = lowered_or_not d.hold 1 g d l low f x

  one_unit : (f h : UnitFault) → HasUnboundNode g d f → HasUnboundNode g d h → f ≡ h
  one_unit f h x y =
      let same = same_lowered x.lowered y.lowered x.is_lowered y.is_lowered in
      one_unit_fault d y.lowered f h (subst (λ (l : Lowered). IsUnitFault d l f) same x.none) y.none

  -- nodes that have their units
  module _ (a : Assigned) (low : IsLowered g d a.lowered) (is : IsAssigned d a) where
    bound_not : (f : UnitFault) → HasUnboundNode g d f → ⊥
    bound_not f x = bound_or_not d x.lowered a (same_lowered a.lowered x.lowered low x.is_lowered) is f x.none

    same_assigned : (b : Assigned) → IsLowered g d b.lowered → IsAssigned d b → b ≡ a
    same_assigned b its are = one_assigned d b a (same_lowered b.lowered a.lowered its low) are is

    problem : IsProblem d a
    problem = record { path = allowed; schedulable = schedulable g d sound a low loopless (on_right_units is) }

    same_schedule : (s z : Schedule) → IsListSchedule d a s → IsListSchedule d a z → s ≡ z
    same_schedule s z x y = one_schedule d a (live_of d allowed) (operand_in d a problem) s z x y

    -- a node without a cycle in the one is so in the other
    without_cycle : (v : ℕ) → HasUnplacedNode g d v → IsWithoutCycle d a v
    without_cycle v x =
        subst (λ (b : Assigned). IsWithoutCycle d b v) (same_assigned x.assigned x.is_lowered x.is_assigned) x.none

    scheduled_not : (v : ℕ) → HasUnplacedNode g d v → (s : Schedule) → IsListSchedule d a s → ⊥
    scheduled_not v x s scheduled =
        scheduled_or_not d a problem s scheduled (period.Period v) (without_cycle v x)

  one_cycle : (v u : ℕ) → HasUnplacedNode g d v → HasUnplacedNode g d u → Period v ≡ Period u
  one_cycle v u x y =
      ap of_period (one_period_fault d y.assigned (problem y.assigned y.is_lowered y.is_assigned)
      (period.Period v) (period.Period u)
      (without_cycle y.assigned y.is_lowered y.is_assigned v x) y.none)

  same_arcs : (port other : PortRef) (u v : ℕ) (x : HasUnkeptNode g d port u) (y : HasUnkeptNode g d other v)
      → x.arcs ≡ y.arcs
  same_arcs port other u v x y =
      let same = same_assigned y.assigned y.is_lowered y.is_assigned x.assigned x.is_lowered x.is_assigned in
      let here = subst (λ (b : Assigned). IsListSchedule d b x.schedule) same x.is_schedule in
      let there = subst (λ (b : Assigned). IsArcs d b x.schedule x.arcs) same x.are_arcs in
      let schedules = same_schedule y.assigned y.is_lowered y.is_assigned x.schedule y.schedule here y.is_schedule in
      one_arcs d y.assigned y.schedule x.arcs y.arcs
      (subst (λ (z : Schedule). IsArcs d y.assigned z x.arcs) schedules there) y.are_arcs

  full : (s p v : ℕ) (x : HasUnkeptNode g d (port_of s p) v) → IsFileFault d x.arcs (file.Full s p v)
  full s p v x = record { unroll = x.unroll; unroll_is = x.is_unroll; none = x.none }

  one_register : (s p u t q v : ℕ)
      → HasUnkeptNode g d (port_of s p) u
      → HasUnkeptNode g d (port_of t q) v
      → FileFull s p u ≡ FileFull t q v
  one_register s p u t q v x y =
      ap of_file (one_file_fault d y.arcs
      (allottable g d sound y.assigned y.is_lowered allowed (on_right_units y.is_assigned) y.schedule y.is_schedule
      y.arcs y.are_arcs)
      (file.Full s p u) (file.Full t q v)
      (subst (λ (xs : List Arc). IsFileFault d xs (file.Full s p u)) (same_arcs (port_of s p) (port_of t q) u v x y)
      (full s p u x)) (full t q v y))

  pub one_plan_fault : (f h : PlanFault) → IsPlanFault g d f → IsPlanFault g d h → f ≡ h
  one_plan_fault (Unstored f) (Unstored h) x y = ap Unstored (one_line f h x y)
  one_plan_fault (Unstored f) (Unbound h) x y = absurd (lowered_not f x y.lowered y.is_lowered)
  one_plan_fault (Unstored f) (Period v) x y = absurd (lowered_not f x y.assigned.lowered y.is_lowered)
  one_plan_fault (Unstored f) (FileFull t q v) x y = absurd (lowered_not f x y.assigned.lowered y.is_lowered)
  one_plan_fault (Unbound f) (Unstored h) x y = absurd (lowered_not h y x.lowered x.is_lowered)
  one_plan_fault (Unbound f) (Unbound h) x y = ap Unbound (one_unit f h x y)
  one_plan_fault (Unbound f) (Period v) x y = absurd (bound_not y.assigned y.is_lowered y.is_assigned f x)
  one_plan_fault (Unbound f) (FileFull t q v) x y = absurd (bound_not y.assigned y.is_lowered y.is_assigned f x)
  one_plan_fault (Period u) (Unstored h) x y = absurd (lowered_not h y x.assigned.lowered x.is_lowered)
  one_plan_fault (Period u) (Unbound h) x y = absurd (bound_not x.assigned x.is_lowered x.is_assigned h y)
  one_plan_fault (Period u) (Period v) x y = one_cycle u v x y
  one_plan_fault (Period u) (FileFull t q v) x y =
      absurd (scheduled_not y.assigned y.is_lowered y.is_assigned u x y.schedule y.is_schedule)
  one_plan_fault (FileFull s p u) (Unstored h) x y = absurd (lowered_not h y x.assigned.lowered x.is_lowered)
  one_plan_fault (FileFull s p u) (Unbound h) x y = absurd (bound_not x.assigned x.is_lowered x.is_assigned h y)
  one_plan_fault (FileFull s p u) (Period v) x y =
      absurd (scheduled_not x.assigned x.is_lowered x.is_assigned v y x.schedule x.is_schedule)
  one_plan_fault (FileFull s p u) (FileFull t q v) x y = one_register s p u t q v x y
  one_plan_fault Memory h x y = absurd x
  one_plan_fault f Memory x y = absurd y

  pub one_plan : (p q : Plan) → IsPlan g d p → IsPlan g d q → p ≡ q
  one_plan p q x y =
      let assigned = same_assigned q.assigned y.lowered y.assigned p.assigned x.lowered x.assigned in
      let here = subst (λ (b : Assigned). IsListSchedule d b p.schedule) assigned x.schedule in
      let schedule = same_schedule q.assigned y.lowered y.assigned p.schedule q.schedule here y.schedule in
      let there = subst (λ (b : Assigned). IsArcs d b p.schedule p.arcs) assigned x.arcs in
      let arcs : p.arcs ≡ q.arcs =
      one_arcs d q.assigned q.schedule p.arcs q.arcs
      (subst (λ (z : Schedule). IsArcs d q.assigned z p.arcs) schedule there) y.arcs in
      let unroll =
      one_unroll q.arcs p.unroll q.unroll (subst (λ (xs : List Arc). IsUnroll xs p.unroll) arcs x.unroll) y.unroll in
      let order =
      (allottable g d sound q.assigned y.lowered allowed (on_right_units y.assigned) q.schedule y.schedule q.arcs
      y.arcs).order in
      let fit =
      subst (λ (xs : List Arc). IsFirstFit d.period p.unroll xs p.registers.regs) arcs x.registers in
      let regs =
      one_fit d.period q.unroll q.arcs order p.registers.regs q.registers.regs
      (subst (λ (n : ℕ). IsFirstFit d.period n q.arcs p.registers.regs) unroll fit) y.registers in
      plan_from p q assigned schedule arcs (ap (λ (rs : List (List ℕ)). record { regs = rs }) regs) unroll
      (x.inputs ∙ sym y.inputs) (x.outs ∙ sym y.outs)
