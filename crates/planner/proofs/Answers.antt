-- A graph has one plan or one fault, and not both: the outcome of the passes in their order.
use Rattle.std.proofs.Common.{◌≡◌, ◌⊎◌, inl, inr, refl, sym, ap, ◌∙◌, subst, ℕ, List, Result, Ok, Err}
use Rattle.std.specs.Prelude.{IfOk, IfErr}
use Rattle.fix_word.specs.declared.types.SigType.{SigType}
use Rattle.datapath.specs.declared.types.Datapath.{Datapath}
use Rattle.signal_graph.specs.declared.graph.Graph.{Graph}
use Rattle.plan_core.specs.Hardware.{port_of}
use Rattle.plan_core.specs.Lowered.{IsLowered}
use Rattle.plan_core.specs.ListSchedule.{IsListSchedule}
use Rattle.plan_core.specs.IsPlan.{IsPlan}
use Rattle.plan_core.specs.Arcs.{IsArcs, IsUnroll}
use Rattle.plan_core.specs.FirstFit.{IsFirstFit}
use Rattle.plan_core.specs.declared.delay_lines.Lowered.{Lowered}
use Rattle.plan_core.specs.declared.schedule.Assigned.{Assigned}
use Rattle.plan_core.specs.declared.schedule.Schedule.{Schedule}
use Rattle.plan_core.specs.declared.registers.Arc.{Arc}
use Rattle.plan_core.specs.declared.registers.Registers.{Registers}
use Rattle.plan_core.specs.declared.plan.Plan.{Plan}
use Rattle.plan_core.proofs.OneArcs.{one_unroll}
use Rattle.unit_assign.specs.Bound.{AreUnitsOf}
use Rattle.unit_assign.specs.Faults.{IsUnitFault}
use Rattle.unit_assign.specs.declared.fault.UnitFault.{UnitFault}
use Rattle.unit_assign.specs.declared.fault.UnitFault.TheVariants as unit
use Rattle.list_schedule.specs.Faults.{IsPeriodFault}
use Rattle.list_schedule.specs.declared.fault.PeriodFault.{PeriodFault}
use Rattle.list_schedule.specs.declared.fault.PeriodFault.TheVariants as period
use Rattle.cyclic_life.specs.declared.fault.ArcFault.{ArcFault}
use Rattle.delay_memory.specs.Faults.{IsLineFault}
use Rattle.delay_memory.specs.declared.fault.LineFault.{LineFault}
use Rattle.delay_memory.specs.declared.fault.LineFault.TheVariants as line
use Rattle.reg_alloc.specs.Allottable.{AreAllotted}
use Rattle.reg_alloc.specs.Faults.{IsFileFault}
use Rattle.reg_alloc.specs.declared.fault.FileFault.{FileFault}
use Rattle.reg_alloc.specs.declared.fault.FileFault.TheVariants as file
use Rattle.planner.specs.Faults.{HasUnkeptNode, IsPlanFault}
use Rattle.planner.specs.Private.Errors.{of_line, of_unit, of_period, of_file}
use Rattle.planner.specs.declared.fault.PlanFault.{PlanFault}
use Rattle.planner.specs.declared.fault.PlanFault.TheVariants.{Line as Unstored, Unit as Unbound, Period, FileFull}
use Rattle.planner.specs.declared.fault.PlanFault.TheVariants.{Memory}
use Rattle.planner.proofs.Stages.{IsOnly, Comes, Then, IsSettled}

abbrev pub of_arc : ArcFault → PlanFault
of_arc f = Memory

-- a graph with the units of its nodes
abbrev pub bound : Lowered → List ℕ → Assigned
bound l units = record { lowered = l; units = units }

module _ (g : Graph) (d : Datapath) where
  abbrev pub Lines : Result Lowered LineFault → Type 0
  Lines = Comes (IsLowered g d) (IsLineFault g d)

  abbrev pub Units : Lowered → Result (List ℕ) UnitFault → Type 0
  Units l = Comes (AreUnitsOf d l) (IsUnitFault d l)

  abbrev pub Cycles : Assigned → Result Schedule PeriodFault → Type 0
  Cycles a = Comes (IsListSchedule d a) (IsPeriodFault d a)

  abbrev pub Lifetimes : Assigned → Schedule → Result (List Arc) ArcFault → Type 0
  Lifetimes a s = Comes (IsArcs d a s) (λ (f : ArcFault). ⊥)

  abbrev pub Turns : List Arc → Result ℕ ArcFault → Type 0
  Turns arcs = Comes (IsUnroll arcs) (λ (f : ArcFault). ⊥)

  abbrev pub Places : List Arc → Result Registers FileFault → Type 0
  Places arcs = Comes (λ (rs : Registers). AreAllotted d arcs rs.regs) (IsFileFault d arcs)

  abbrev pub whole : Assigned → Schedule → List Arc → ℕ → Registers → Plan
  whole a s arcs unroll rs = record {
    assigned = a;
    schedule = s;
    arcs = arcs;
    registers = rs;
    unroll = unroll;
    inputs = g.inputs;
    outs = g.outs;
  }

  abbrev pub Whole : Assigned → Schedule → List Arc → ℕ → Registers → Result Plan PlanFault → Type 0
  Whole a s arcs unroll rs = Comes (λ (p : Plan). whole a s arcs unroll rs ≡ p) (λ (f : PlanFault). ⊥)

  abbrev pub FromTurns : Assigned → Schedule → List Arc → ℕ → Result Plan PlanFault → Type 0
  FromTurns a s arcs unroll = Then (Places arcs) of_file (Whole a s arcs unroll)

  abbrev pub FromArcs : Assigned → Schedule → List Arc → Result Plan PlanFault → Type 0
  FromArcs a s arcs = Then (Turns arcs) of_arc (FromTurns a s arcs)

  abbrev pub FromSchedule : Assigned → Schedule → Result Plan PlanFault → Type 0
  FromSchedule a s = Then (Lifetimes a s) of_arc (FromArcs a s)

  abbrev pub FromUnits : Assigned → Result Plan PlanFault → Type 0
  FromUnits a = Then (Cycles a) of_period (FromSchedule a)

  abbrev pub FromLines : Lowered → Result Plan PlanFault → Type 0
  FromLines l = Then (Units l) of_unit (λ (units : List ℕ). FromUnits (bound l units))

  abbrev pub Passes : Result Plan PlanFault → Type 0
  Passes = Then Lines of_line FromLines

  -- the plan of the graph, or its fault
  abbrev IsOutcome : Result Plan PlanFault → Type 0
  IsOutcome = Comes (IsPlan g d) (IsPlanFault g d)

  line_is : (f : LineFault) → IsLineFault g d f → of_line f ≡ Unstored f
  line_is (line.NoRam v) h = refl
  line_is (line.LinesFull v) h = refl
  line_is (line.NoAcu ram v) h = refl
  line_is line.Memory h = absurd h

  unit_is : (l : Lowered) (f : UnitFault) → IsUnitFault d l f → of_unit f ≡ Unbound f
  unit_is l (unit.TooWide v) h = refl
  unit_is l (unit.NoUnit k v) h = refl
  unit_is l (unit.NoRoute s q v) h = refl
  unit_is l unit.Memory h = absurd h

  whole_is : (p : Plan) → IsPlan g d p → whole p.assigned p.schedule p.arcs p.unroll p.registers ≡ p
  whole_is p is =
      ap (λ (x : List SigType). record p { inputs = x; outs = g.outs }) (sym is.inputs)
      ∙ ap (λ (x : ℕ). record p { outs = x }) (sym is.outs)

  allotted : (p : Plan) → IsPlan g d p → AreAllotted d p.arcs p.registers.regs
  allotted p is = record { unroll = p.unroll; unroll_is = is.unroll; fit = is.registers; sizes = is.sizes }

  full : (s q v : ℕ) (x : HasUnkeptNode g d (port_of s q) v) → IsFileFault d x.arcs (file.Full s q v)
  full s q v x = record { unroll = x.unroll; unroll_is = x.is_unroll; none = x.none }

  to_passes : (r : Result Plan PlanFault) → IsOutcome r → Passes r
  to_passes (Ok p) is = (
    p.assigned.lowered,
    is.lowered,
    (
      p.assigned.units,
      is.assigned,
      (
        p.schedule,
        is.schedule,
        (p.arcs, is.arcs, (p.unroll, is.unroll, (p.registers, allotted p is, whole_is p is))),
      ),
    ),
  )
  to_passes (Err (Unstored f)) x = inl (f, x, line_is f x)
  to_passes (Err (Unbound f)) x = inr (x.lowered, x.is_lowered, inl (f, x.none, unit_is x.lowered f x.none))
  to_passes (Err (Period v)) x =
      inr
      (x.assigned.lowered, x.is_lowered, inr (x.assigned.units, x.is_assigned, inl (period.Period v, x.none, refl)))
  to_passes (Err (FileFull s q v)) x =
      inr (
        x.assigned.lowered,
        x.is_lowered,
        inr (
          x.assigned.units,
          x.is_assigned,
          inr (
            x.schedule,
            x.is_schedule,
            inr (x.arcs, x.are_arcs, inr (x.unroll, x.is_unroll, inl (file.Full s q v, full s q v x, refl))),
          ),
        ),
      )
  to_passes (Err Memory) x = absurd x

  module _ (l : Lowered) (low : IsLowered g d l) (units : List ℕ) (are_units : AreUnitsOf d l units) where
    abbrev a : Assigned
    a = bound l units

    no_cycle : (f : PeriodFault) → IsPeriodFault d a f → IsPlanFault g d (of_period f)
    no_cycle (period.Period v) h =
        record { assigned = a; is_lowered = low; is_assigned = are_units; none = h }
    no_cycle period.Memory h = absurd h

    module _ (s : Schedule) (scheduled : IsListSchedule d a s) (arcs : List Arc) (are : IsArcs d a s arcs) where
      no_register : (f : FileFault) → IsFileFault d arcs f → IsPlanFault g d (of_file f)
      no_register (file.Full u q v) h = record {
        assigned = a;
        is_lowered = low;
        is_assigned = are_units;
        schedule = s;
        is_schedule = scheduled;
        arcs = arcs;
        are_arcs = are;
        unroll = h.unroll;
        is_unroll = h.unroll_is;
        none = h.none;
      }
      no_register file.Memory h = absurd h

      it_is : (unroll : ℕ) (rs : Registers)
          → IsUnroll arcs unroll
          → AreAllotted d arcs rs.regs
          → IsPlan g d (whole a s arcs unroll rs)
      it_is unroll rs turns all = record {
        lowered = low;
        assigned = are_units;
        schedule = scheduled;
        arcs = are;
        unroll = turns;
        registers = subst (λ (u : ℕ). IsFirstFit d.period u arcs rs.regs)
            (one_unroll arcs all.unroll unroll all.unroll_is turns) all.fit;
        sizes = all.sizes;
        inputs = refl;
        outs = refl;
      }

  fault_is : (f h : PlanFault) → IsPlanFault g d f → f ≡ h → IsPlanFault g d h
  fault_is f h x e = subst (λ (k : PlanFault). IsPlanFault g d k) e x

  of_passes : (r : Result Plan PlanFault) → Passes r → IsOutcome r
  of_passes (Ok p) (l, low, (units, are_units, (s, scheduled, (arcs, are, (unroll, turns, (rs, all, e)))))) =
      subst (λ (x : Plan). IsPlan g d x) e (it_is l low units are_units s scheduled arcs are unroll rs turns all)
  of_passes (Err h) (inl (f, x, e)) = fault_is (Unstored f) h x (sym (line_is f x) ∙ e)
  of_passes (Err h) (inr (l, low, inl (f, x, e))) =
      fault_is (Unbound f) h (record { lowered = l; is_lowered = low; none = x }) (sym (unit_is l f x) ∙ e)
  of_passes (Err h) (inr (l, low, inr (units, are_units, inl (f, x, e)))) =
      fault_is (of_period f) h (no_cycle l low units are_units f x) e
  of_passes (Err h) (inr (l, low, inr (units, are_units, inr (s, scheduled, inl (f, x, e))))) = absurd x
  of_passes (Err h) (inr (l, low, inr (units, are_units, inr (s, scheduled, inr (arcs, are, inl (f, x, e)))))) =
      absurd x
  of_passes (Err h) (inr (
    l,
    low,
    inr (
      units,
      are_units,
      inr (
        s,
        scheduled,
        inr (arcs, are, inr (unroll, turns, inl (f, x, e))),
      ),
    ),
  )) =
      fault_is (of_file f) h (no_register l low units are_units s scheduled arcs are f x) e
  of_passes (Err h) (inr (
    l,
    low,
    inr (
      units,
      are_units,
      inr (
        s,
        scheduled,
        inr (arcs, are, inr (unroll, turns, inr (rs, all, x))),
      ),
    ),
  )) =
      absurd x

  -- what is promised of an answer
  pub record IsAnswer (result : Result Plan PlanFault) : Type 0 where
    pub plan : IfOk result (IsPlan g d)
    pub fault : IfErr result (λ (fault : PlanFault). (fault ≡ Memory) ⊎ IsPlanFault g d fault)
    pub found : (p : Plan) → IsPlan g d p → (result ≡ Ok p) ⊎ (result ≡ Err Memory)
    pub refused : (fault : PlanFault) → IsPlanFault g d fault → (result ≡ Err fault) ⊎ (result ≡ Err Memory)

  pub out_of_memory : IsAnswer (Err Memory)
  out_of_memory = record { plan = tt; fault = inl refl; found = λ p is. inr refl; refused = λ f is. inr refl }

  one_plan : (p : Plan) → IsOnly Passes (Ok p) → IsAnswer (Ok p)
  one_plan p x = record {
    plan = of_passes (Ok p) x.is;
    fault = tt;
    found = λ q is. inl (x.one (Ok q) (to_passes (Ok q) is));
    refused = λ h is. inl (x.one (Err h) (to_passes (Err h) is));
  }

  one_fault : (f : PlanFault) → IsOnly Passes (Err f) → IsAnswer (Err f)
  one_fault f x = record {
    plan = tt;
    fault = inr (of_passes (Err f) x.is);
    found = λ q is. inl (x.one (Ok q) (to_passes (Ok q) is));
    refused = λ h is. inl (x.one (Err h) (to_passes (Err h) is));
  }

  pub settled : (r : Result Plan PlanFault) → IsSettled Memory Passes r → IsAnswer r
  settled r (inl e) = subst IsAnswer (sym e) out_of_memory
  settled (Ok p) (inr x) = one_plan p x
  settled (Err f) (inr x) = one_fault f x
