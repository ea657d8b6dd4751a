-- What `stage_plan` answers at each place where it returns.
use Rattle.std.proofs.Common.{◌≡◌, ◌⊎◌, inl, inr, refl, sym, ap, ◌∙◌, subst, ℕ, ◌≤◌, List, Result, Ok, Err}
use Rattle.std.specs.Prelude.{IsErrAnd}
use Rattle.std.proofs.lemmas.Result.{err_from_is_err_and}
use Rattle.fix_word.specs.declared.types.SigType.{SigType}
use Rattle.datapath.specs.Allowed.{IsDatapath}
use Rattle.datapath.specs.declared.types.Datapath.{Datapath}
use Rattle.signal_graph.specs.GraphRules.{IsGraph}
use Rattle.signal_graph.specs.GraphSolves.{IsGraphLoopless}
use Rattle.signal_graph.specs.declared.graph.Graph.{Graph}
use Rattle.plan_core.specs.Lowered.{IsLoweredOver}
use Rattle.plan_core.specs.Assigned.{IsAssigned}
use Rattle.plan_core.specs.Arcs.{IsUnroll}
use Rattle.plan_core.specs.FirstFit.{IsFirstFit}
use Rattle.plan_core.specs.Stages.{IsStageSchedule, IsWithoutStage, IsStageScheduleOver, IsWithoutStageOver}
use Rattle.plan_core.specs.Stages.{AreStageArcs}
use Rattle.plan_core.specs.declared.delay_lines.Lowered.{Lowered}
use Rattle.plan_core.specs.declared.schedule.Assigned.{Assigned}
use Rattle.plan_core.specs.declared.schedule.Schedule.{Schedule}
use Rattle.plan_core.specs.declared.registers.Arc.{Arc}
use Rattle.plan_core.specs.declared.registers.Registers.{Registers}
use Rattle.plan_core.proofs.OneArcs.{one_unroll}
use Rattle.unit_assign.specs.Faults.{IsUnitFault}
use Rattle.unit_assign.specs.declared.fault.UnitFault.{UnitFault}
use Rattle.unit_assign.specs.declared.fault.UnitFault.TheVariants as unit
use Rattle.list_schedule.specs.declared.fault.PeriodFault.{PeriodFault}
use Rattle.list_schedule.specs.declared.fault.PeriodFault.TheVariants as period
use Rattle.delay_memory.specs.Faults.{IsLineFaultOver}
use Rattle.delay_memory.specs.declared.fault.LineFault.{LineFault}
use Rattle.delay_memory.specs.declared.fault.LineFault.TheVariants as line
use Rattle.reg_alloc.specs.Allottable.{AreAllotted}
use Rattle.reg_alloc.specs.Faults.{IsFileFault}
use Rattle.reg_alloc.specs.declared.fault.FileFault.{FileFault}
use Rattle.reg_alloc.specs.declared.fault.FileFault.TheVariants as file
use Rattle.overlap_plan.specs.Faults.{IsStageFault}
use Rattle.overlap_plan.specs.Private.Errors.{of_line, of_unit, of_period, of_file}
use Rattle.overlap_plan.specs.Private.Placing.{Loads}
use Rattle.overlap_plan.specs.declared.fault.StageFault.{StageFault}
use Rattle.overlap_plan.specs.declared.fault.StageFault.TheVariants.{Memory}
use Rattle.overlap_plan.specs.declared.plan.StagePlan.{StagePlan}
use Rattle.plan_soundness.proofs.Units.{on_right_units}
use Rattle.overlap_plan.proofs.Asked.{schedule_of, without_of}
use Rattle.overlap_plan.proofs.OneOutcome.{IsAnswer, planned, refused}

-- a graph with the units of its nodes
abbrev pub bound : Lowered → List ℕ → Assigned
bound l units = record { lowered = l; units = units }

-- what the placing of nodes says of its fault
abbrev IsUnplaced : (stages : ℕ) → Datapath → Assigned → PeriodFault → Type 0
IsUnplaced stages d a (period.Period v) = IsWithoutStageOver stages (Loads a) d a v
IsUnplaced stages d a period.Memory = Unit {0}

module _ (g : Graph) (d : Datapath) (stages : ℕ) (allowed : IsDatapath d) (sound : IsGraph g)
    (loopless : IsGraphLoopless g) where
  abbrev Answers : Result StagePlan StageFault → Type 0
  Answers = IsAnswer g d stages allowed sound loopless

  abbrev Fails : StageFault → Type 0
  Fails f = (f ≡ Memory) ⊎ IsStageFault g d stages f

  leaves : {F : Type 0} (of : F → StageFault) (r : Result StagePlan StageFault) (f : F)
      → IsErrAnd r (λ (h : StageFault). h ≡ of f)
      → Fails (of f)
      → Answers r
  leaves of r f is why =
      let e = err_from_is_err_and r is in
      subst Answers (sym (e.1 ∙ ap (λ (h : StageFault). Err h) e.2))
      (refused g d stages allowed sound loopless (of f) why)

  line_fails : (f : LineFault) → (f ≡ line.Memory) ⊎ IsLineFaultOver 0 stages g d f → Fails (of_line f)
  line_fails f (inl e) = inl (ap of_line e)
  line_fails (line.NoRam v) (inr x) = inr x
  line_fails (line.LinesFull v) (inr x) = inr x
  line_fails (line.NoAcu ram v) (inr x) = inr x
  line_fails line.Memory (inr x) = absurd x

  pub at_lines : (r : Result StagePlan StageFault) (f : LineFault)
      → IsErrAnd r (λ (h : StageFault). h ≡ of_line f)
      → (f ≡ line.Memory) ⊎ IsLineFaultOver 0 stages g d f
      → Answers r
  at_lines r f is why = leaves of_line r f is (line_fails f why)

  -- each long delay has its line
  module _ (l : Lowered) (low : IsLoweredOver 0 stages g d l) where
    unit_fails : (f : UnitFault) → (f ≡ unit.Memory) ⊎ IsUnitFault d l f → Fails (of_unit f)
    unit_fails f (inl e) = inl (ap of_unit e)
    unit_fails (unit.TooWide v) (inr x) = inr (record { lowered = l; is_lowered = low; none = x })
    unit_fails (unit.NoUnit kind v) (inr x) = inr (record { lowered = l; is_lowered = low; none = x })
    unit_fails (unit.NoRoute u port v) (inr x) = inr (record { lowered = l; is_lowered = low; none = x })
    unit_fails unit.Memory (inr x) = absurd x

    pub at_units : (r : Result StagePlan StageFault) (f : UnitFault)
        → IsErrAnd r (λ (h : StageFault). h ≡ of_unit f)
        → (f ≡ unit.Memory) ⊎ IsUnitFault d l f
        → Answers r
    at_units r f is why = leaves of_unit r f is (unit_fails f why)

    -- each node has its unit
    module _ (some : 1 ≤ stages) (units : List ℕ) (are_units : IsAssigned d (bound l units)) where
      abbrev a : Assigned
      a = bound l units

      period_fails : (f : PeriodFault) → IsUnplaced stages d a f → Fails (of_period f)
      period_fails (period.Period v) x =
          inr (record {
            assigned = a;
            is_lowered = low;
            is_assigned = are_units;
            none = without_of g d stages allowed sound some a low (on_right_units are_units) v x;
          })
      period_fails period.Memory x = inl refl

      pub at_cycles : (r : Result StagePlan StageFault) (f : PeriodFault)
          → IsErrAnd r (λ (h : StageFault). h ≡ of_period f)
          → IsUnplaced stages d a f
          → Answers r
      at_cycles r f is why = leaves of_period r f is (period_fails f why)

      -- each node has its cycle, and its words their lifetimes
      module _ (s : Schedule) (scheduled : IsStageScheduleOver stages (Loads a) d a s) (arcs : List Arc)
          (are : AreStageArcs d a s arcs) where
        its_schedule : IsStageSchedule stages low.delays d a s
        its_schedule = schedule_of g d stages allowed sound some a low (on_right_units are_units) s scheduled

        file_fails : (f : FileFault) → (f ≡ file.Memory) ⊎ IsFileFault d arcs f → Fails (of_file f)
        file_fails f (inl e) = inl (ap of_file e)
        file_fails (file.Full u q v) (inr x) =
            inr (record {
              assigned = a;
              is_lowered = low;
              is_assigned = are_units;
              schedule = s;
              is_schedule = its_schedule;
              arcs = arcs;
              are_arcs = are;
              none = x;
            })
        file_fails file.Memory (inr x) = absurd x

        pub at_registers : (r : Result StagePlan StageFault) (f : FileFault)
            → IsErrAnd r (λ (h : StageFault). h ≡ of_file f)
            → (f ≡ file.Memory) ⊎ IsFileFault d arcs f
            → Answers r
        at_registers r f is why = leaves of_file r f is (file_fails f why)

        -- each copy has its register
        pub at_end : (unroll : ℕ)
            → IsUnroll arcs unroll
            → (rs : Registers)
            → AreAllotted d arcs rs.regs
            → (inputs : List SigType)
            → inputs ≡ g.inputs
            → Answers (Ok
            (record {
              assigned = a;
              schedule = s;
              arcs = arcs;
              registers = rs;
              unroll = unroll;
              stages = stages;
              inputs = inputs;
              outs = g.outs;
            }))
        at_end unroll turns rs all inputs same =
            planned g d stages allowed sound loopless _ (record {
              lowered = low;
              assigned = are_units;
              schedule = its_schedule;
              arcs = are;
              unroll = turns;
              registers = subst (λ (u : ℕ). IsFirstFit d.period u arcs rs.regs)
                  (one_unroll arcs all.unroll unroll all.unroll_is turns) all.fit;
              sizes = all.sizes;
              stages_are = refl;
              inputs = same;
              outs = refl;
            })
