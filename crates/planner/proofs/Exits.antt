-- What `plan` answers at each place where it returns.
use Rattle.std.proofs.Common.{◌≡◌, ◌⊎◌, inr, refl, sym, ap, ◌∙◌, subst, ℕ, List, Result, Ok, Err}
use Rattle.std.specs.Prelude.{IsErrAnd}
use Rattle.std.proofs.lemmas.Result.{err_from_is_err_and}
use Rattle.fix_word.specs.declared.types.SigType.{SigType}
use Rattle.datapath.specs.declared.types.Datapath.{Datapath}
use Rattle.signal_graph.specs.declared.graph.Graph.{Graph}
use Rattle.plan_core.specs.Lowered.{IsLowered}
use Rattle.plan_core.specs.ListSchedule.{IsListSchedule}
use Rattle.plan_core.specs.Arcs.{IsArcs, IsUnroll}
use Rattle.plan_core.specs.declared.delay_lines.Lowered.{Lowered}
use Rattle.plan_core.specs.declared.schedule.Assigned.{Assigned}
use Rattle.plan_core.specs.declared.schedule.Schedule.{Schedule}
use Rattle.plan_core.specs.declared.registers.Arc.{Arc}
use Rattle.plan_core.specs.declared.registers.Registers.{Registers}
use Rattle.plan_core.specs.declared.plan.Plan.{Plan}
use Rattle.plan_core.proofs.OneArcs.{one_arcs, one_unroll}
use Rattle.unit_assign.specs.Bound.{AreUnitsOf}
use Rattle.unit_assign.specs.Faults.{IsUnitFault}
use Rattle.unit_assign.specs.declared.fault.UnitFault.{UnitFault}
use Rattle.unit_assign.specs.declared.fault.UnitFault.TheVariants as unit
use Rattle.list_schedule.specs.Faults.{IsPeriodFault}
use Rattle.list_schedule.specs.declared.fault.PeriodFault.{PeriodFault}
use Rattle.list_schedule.specs.declared.fault.PeriodFault.TheVariants as period
use Rattle.cyclic_life.specs.declared.fault.ArcFault.{ArcFault}
use Rattle.delay_memory.specs.Faults.{IsLineFault}
use Rattle.delay_memory.specs.declared.fault.LineFault.{LineFault}
use Rattle.delay_memory.specs.declared.fault.LineFault.TheVariants as line
use Rattle.reg_alloc.specs.Allottable.{AreAllotted}
use Rattle.reg_alloc.specs.Faults.{IsFileFault}
use Rattle.reg_alloc.specs.declared.fault.FileFault.{FileFault}
use Rattle.reg_alloc.specs.declared.fault.FileFault.TheVariants as file
use Rattle.planner.specs.Private.Errors.{of_line, of_unit, of_period, of_file}
use Rattle.planner.specs.declared.fault.PlanFault.{PlanFault}
use Rattle.planner.specs.declared.fault.PlanFault.TheVariants.{Memory}
use Rattle.planner.proofs.Stages.{IsOnly, IsSettled, Found, Refused, only_ok, only_err, stops, goes}
use Rattle.planner.proofs.Answers.{of_arc, Lines, bound, Units, Cycles, Lifetimes, Turns, Places, whole, Whole}
use Rattle.planner.proofs.Answers.{FromTurns, FromArcs, FromSchedule, FromUnits, FromLines, Passes, IsAnswer, settled}

pub unrolled : (listed arcs : List Arc) (n : ℕ) → listed ≡ arcs → IsUnroll listed n → IsUnroll arcs n
unrolled listed arcs n same is = subst (λ (xs : List Arc). IsUnroll xs n) same is

module _ (g : Graph) (d : Datapath) where
  leaves : {F : Type 0} (of : F → PlanFault) (r : Result Plan PlanFault) (f : F)
      → IsErrAnd r (λ (h : PlanFault). h ≡ of f)
      → IsSettled Memory (Passes g d) (Err (of f))
      → IsAnswer g d r
  leaves of r f is x =
      let e = err_from_is_err_and r is in
      subst (λ (y : Result Plan PlanFault). IsAnswer g d y) (sym (e.1 ∙ ap (λ (h : PlanFault). Err h) e.2))
      (settled g d (Err (of f)) x)

  pub at_lines : (r : Result Plan PlanFault) (f : LineFault)
      → IsErrAnd r (λ (h : PlanFault). h ≡ of_line f)
      → (f ≡ line.Memory) ⊎ IsLineFault g d f
      → Found (IsLowered g d) line.Memory (Err f)
      → Refused {A = Lowered} (IsLineFault g d) line.Memory (Err f)
      → IsAnswer g d r
  at_lines r f is why found refused =
      leaves of_line r f is
      (stops (Lines g d) of_line (FromLines g d) line.Memory f
      (only_err (IsLowered g d) (IsLineFault g d) line.Memory f (λ none. none) why found refused))

  -- each long delay has its line
  module _ (l : Lowered) (low : IsLowered g d l) (lines_found : Found (IsLowered g d) line.Memory (Ok l))
      (lines_refused : Refused (IsLineFault g d) line.Memory (Ok l)) where
    after_lines : (r : Result Plan PlanFault) → IsSettled Memory (FromLines g d l) r
        → IsSettled Memory (Passes g d) r
    after_lines r x =
        goes (Lines g d) of_line (FromLines g d) l
        (only_ok (IsLowered g d) (IsLineFault g d) line.Memory l low lines_found lines_refused) Memory r x

    pub at_units : (r : Result Plan PlanFault) (f : UnitFault)
        → IsErrAnd r (λ (h : PlanFault). h ≡ of_unit f)
        → (f ≡ unit.Memory) ⊎ IsUnitFault d l f
        → Found (AreUnitsOf d l) unit.Memory (Err f)
        → Refused {A = List ℕ} (IsUnitFault d l) unit.Memory (Err f)
        → IsAnswer g d r
    at_units r f is why found refused =
        leaves of_unit r f is (after_lines (Err (of_unit f))
        (stops (Units g d l) of_unit (λ (units : List ℕ). FromUnits g d (bound l units)) unit.Memory f
        (only_err (AreUnitsOf d l) (IsUnitFault d l) unit.Memory f (λ none. none) why found refused)))

    -- each node has its unit
    module _ (units : List ℕ) (are_units : AreUnitsOf d l units)
        (units_found : Found (AreUnitsOf d l) unit.Memory (Ok units))
        (units_refused : Refused (IsUnitFault d l) unit.Memory (Ok units)) where
      abbrev a : Assigned
      a = bound l units

      after_units : (r : Result Plan PlanFault) → IsSettled Memory (FromUnits g d a) r
          → IsSettled Memory (Passes g d) r
      after_units r x =
          after_lines r
          (goes (Units g d l) of_unit (λ (us : List ℕ). FromUnits g d (bound l us)) units
          (only_ok (AreUnitsOf d l) (IsUnitFault d l) unit.Memory units are_units units_found units_refused) Memory r x)

      pub at_cycles : (r : Result Plan PlanFault) (f : PeriodFault)
          → IsErrAnd r (λ (h : PlanFault). h ≡ of_period f)
          → (f ≡ period.Memory) ⊎ IsPeriodFault d a f
          → Found (IsListSchedule d a) period.Memory (Err f)
          → Refused {A = Schedule} (IsPeriodFault d a) period.Memory (Err f)
          → IsAnswer g d r
      at_cycles r f is why found refused =
          leaves of_period r f is (after_units (Err (of_period f))
          (stops (Cycles g d a) of_period (FromSchedule g d a) period.Memory f
          (only_err (IsListSchedule d a) (IsPeriodFault d a) period.Memory f (λ none. none) why found refused)))

      -- each node has its cycle, and its words their lifetimes
      module _ (s : Schedule) (scheduled : IsListSchedule d a s)
          (cycles_found : Found (IsListSchedule d a) period.Memory (Ok s))
          (cycles_refused : Refused (IsPeriodFault d a) period.Memory (Ok s))
          (arcs : List Arc) (are : IsArcs d a s arcs) where
        only_arcs : IsOnly (Lifetimes g d a s) (Ok arcs)
        only_arcs = record { is = are; one = one }
          where
            one : (r : Result (List Arc) ArcFault) → Lifetimes g d a s r → Ok arcs ≡ r
            one (Ok xs) h = ap (λ (ys : List Arc). Ok ys) (one_arcs d a s arcs xs are h)
            one (Err f) h = absurd h

        after_arcs : (r : Result Plan PlanFault)
            → IsSettled Memory (FromArcs g d a s arcs) r
            → IsSettled Memory (Passes g d) r
        after_arcs r x =
            after_units r
            (goes (Cycles g d a) of_period (FromSchedule g d a) s
            (only_ok (IsListSchedule d a) (IsPeriodFault d a) period.Memory s scheduled cycles_found cycles_refused)
            Memory r (goes (Lifetimes g d a s) of_arc (FromArcs g d a s) arcs only_arcs Memory r x))

        -- how often the microprogram is unrolled
        module _ (unroll : ℕ) (turns : IsUnroll arcs unroll) where
          only_turns : IsOnly (Turns g d arcs) (Ok unroll)
          only_turns = record { is = turns; one = one }
            where
              one : (r : Result ℕ ArcFault) → Turns g d arcs r → Ok unroll ≡ r
              one (Ok n) h = ap (λ (m : ℕ). Ok m) (one_unroll arcs unroll n turns h)
              one (Err f) h = absurd h

          after_turns : (r : Result Plan PlanFault)
              → IsSettled Memory (FromTurns g d a s arcs unroll) r
              → IsSettled Memory (Passes g d) r
          after_turns r x =
              after_arcs r (goes (Turns g d arcs) of_arc (FromTurns g d a s arcs) unroll only_turns Memory r x)

          abbrev Allotted : Registers → Type 0
          Allotted rs = AreAllotted d arcs rs.regs

          pub at_registers : (r : Result Plan PlanFault) (f : FileFault)
              → IsErrAnd r (λ (h : PlanFault). h ≡ of_file f)
              → (f ≡ file.Memory) ⊎ IsFileFault d arcs f
              → Found Allotted file.Memory (Err f)
              → Refused {A = Registers} (IsFileFault d arcs) file.Memory (Err f)
              → IsAnswer g d r
          at_registers r f is why found refused =
              leaves of_file r f is (after_turns (Err (of_file f))
              (stops (Places g d arcs) of_file (Whole g d a s arcs unroll) file.Memory f
              (only_err Allotted (IsFileFault d arcs) file.Memory f (λ none. none) why found refused)))

          abbrev it : Registers → Plan
          it rs = whole g d a s arcs unroll rs

          -- each copy has its register
          pub at_end : (rs : Registers)
              → AreAllotted d arcs rs.regs
              → Found Allotted file.Memory (Ok rs)
              → Refused (IsFileFault d arcs) file.Memory (Ok rs)
              → (inputs : List SigType)
              → inputs ≡ g.inputs
              → IsAnswer g d (Ok (record (whole g d a s arcs unroll rs) { inputs = inputs }))
          at_end rs all found refused inputs same =
              subst (λ (ts : List SigType). IsAnswer g d (Ok (record (it rs) { inputs = ts }))) (sym same)
              (settled g d (Ok (it rs)) (after_turns (Ok (it rs))
              (goes (Places g d arcs) of_file (Whole g d a s arcs unroll) rs
              (only_ok Allotted (IsFileFault d arcs) file.Memory rs all found refused) Memory
              (Ok (it rs)) (inr (record { is = refl; one = one })))))
            where
              one : (r : Result Plan PlanFault) → Whole g d a s arcs unroll rs r → Ok (it rs) ≡ r
              one (Ok p) h = ap (λ (x : Plan). Ok x) h
              one (Err f) h = absurd h
