-- A plan has what its text needs.
use Rattle.std.proofs.Common.{◌≡◌, sym, ap, subst, arith, ◌∙◌, ℕ, ◌%◌, ◌<◌, ◌≤◌, List, length, get_or}
use Rattle.std.proofs.lemmas.List.{get_or-map, length-map}
use Rattle.std.proofs.lemmas.List.Elements.{All-get_or}
use Rattle.std.proofs.Math.Nat.{mod-eq_of_lt}
use Rattle.operations.specs.declared.units.PortRef.{PortRef}
use Rattle.datapath.specs.Allowed.{IsDatapath, IsUnit}
use Rattle.datapath.specs.declared.types.Datapath.{Datapath}
use Rattle.plan_core.specs.Hardware.{no_unit, latency_on, port_of}
use Rattle.plan_core.specs.Assigned.{unit_in}
use Rattle.plan_core.specs.Reservations.{IsGapApart, IsOneCycle}
use Rattle.plan_core.specs.ListSchedule.{slot_of, ends, IsDestination, IsListScheduleOver, AnyCycle}
use Rattle.plan_core.specs.Stages.{written_around}
use Rattle.plan_core.specs.Arcs.{arc_of, read_cycle, IsArcFor, IsArcsOver}
use Rattle.plan_core.specs.declared.plan.Plan.{Plan}
use Rattle.plan_core.specs.declared.schedule.Assigned.{Assigned}
use Rattle.plan_core.specs.declared.schedule.Schedule.{Schedule}
use Rattle.plan_core.specs.declared.schedule.Transfer.{Transfer}
use Rattle.plan_core.specs.declared.registers.Arc.{Arc}
use Rattle.plan_core.specs.declared.registers.Registers.{Registers}
use Rattle.plan_core.proofs.Readers.{reader_there}
use Rattle.plan_soundness.specs.Units.{AreOnRightUnits}
use Rattle.plan_soundness.proofs.Units.{on_right_units}
use Rattle.microcode_asm.specs.Planned.{IsPlanned}
use Rattle.microcode_asm.specs.Printable.{cycle_count, IsToPort, ArePrintable}

unit_latency : (d : Datapath) → IsDatapath d → (u : ℕ) → u < length d.units → 1 ≤ latency_on d u
unit_latency d is u there = (All-get_or (IsUnit d.units) d.units u no_unit there is.units).latency.0

-- any rules of the table and of lifetimes
module _ (IsAway : (gap t u : ℕ) → Type 0) (IsSame : (w x : ℕ) → Type 0) (end : ℕ)
    (Allows : Schedule → (height : ℕ → ℕ) → (v t : ℕ) → Type 0) (written_at : (v : ℕ) → ℕ)
    (read_at : (v c q : ℕ) → ℕ) where
  module _ (d : Datapath) (a : Assigned) (s : Schedule) (arcs : List Arc) (r : Registers) (is : IsDatapath d)
      (assigned : AreOnRightUnits d a) (schedule : IsListScheduleOver IsAway IsSame end Allows d a s)
      (live : IsArcsOver written_at read_at d a arcs) where
    unit_there : (v : ℕ) → v < length a.lowered.nodes → unit_in a.units v < length d.units
    unit_there v there = (assigned.right v there).kind.there

    to_port : (v : ℕ) (transfer : Transfer)
        → IsDestination a v transfer.port
        → transfer.bus < length d.buses
        → IsToPort d arcs v transfer
    to_port v transfer destination bus =
        let c = destination.consumer in
        let q = transfer.port.port in
        let arc = live.every c q v destination.reads in
        let port : port_of (unit_in a.units c) q ≡ transfer.port =
        ap (λ (u : ℕ). port_of u q) destination.unit in
        record {
          unit =
              subst (λ (u : ℕ). u < length d.units) destination.unit
              (unit_there c (reader_there a.lowered.nodes c q v destination.reads));
          bus = bus;
          arc = record {
            place = arc.0;
            there = arc.1;
            is = subst (λ (x : PortRef). IsArcFor v x (arc_of arcs arc.0)) port arc.2;
          };
        }

    pub printable_over : end ≤ cycle_count
        → ((v : ℕ) → v < length a.lowered.nodes → written_at v ≡ written_around d a s v)
        → length r.regs ≡ length arcs
        → ArePrintable d a s arcs r
    printable_over short written registers = record {
      some = is.period.0;
      unit_count = assigned.count;
      slot_count = schedule.count;
      units = unit_there;
      latencies = λ v there. unit_latency d is (unit_in a.units v) (unit_there v there);
      ends_within = λ v there. omega (arith, (schedule.placed v there).can.fits.period, short);
      transfers = λ v there k e in_range.
          let transfers = (slot_of s v).transfers in
          let port_of_transfer = λ (transfer : Transfer). transfer.port in
          let placed = schedule.placed v there in
          let same = get_or-map port_of_transfer transfers k e e.port in_range in
          to_port v (get_or transfers k e)
          (subst (IsDestination a v) same
          (placed.destinations.read k e.port
          (subst (λ (n : ℕ). k < n) (sym (length-map transfers port_of_transfer)) in_range)))
          (placed.buses k e in_range).route.route.there;
      lifetimes = record {
        order = live.order;
        written = λ k e there in_list.
            (live.each k e there).written ∙ written (get_or arcs k e).node in_list;
        registers = registers;
      };
    }

-- a result is there in the period
module _ (d : Datapath) (p : Plan) (is : IsDatapath d) (planned : IsPlanned d p) where
  written : (v : ℕ)
      → v < length p.assigned.lowered.nodes
      → ends d p.assigned p.schedule v ≡ written_around d p.assigned p.schedule v
  written v there =
      let plan = planned.plan in
      let u = unit_in p.assigned.units v in
      let some = unit_latency d is u (plan.assigned.units v
      (let count = plan.assigned.count in omega arith)).candidate.right.kind.there in
      sym (mod-eq_of_lt (omega (arith, (plan.schedule.placed v there).can.fits.period, some)))

  pub printable : ArePrintable d p.assigned p.schedule p.arcs p.registers
  printable =
      let plan = planned.plan in
      printable_over IsGapApart IsOneCycle d.period AnyCycle (ends d p.assigned p.schedule)
      (λ (v c q : ℕ). read_cycle d p.assigned p.schedule c q) d p.assigned p.schedule p.arcs p.registers is
      (on_right_units plan.assigned) plan.schedule plan.arcs (omega (arith, is.period.1)) written plan.registers.count
