-- Where no register is given, a plan is the one that its places have, and a fault is one of its places.
use Rattle.std.proofs.Common.{◌≡◌, refl, subst, arith, ℕ, ◌<◌, inl, inr, List, [], length}
use Rattle.std.specs.List.{AllPairs}
use Rattle.datapath.specs.declared.types.Datapath.{Datapath}
use Rattle.signal_graph.specs.declared.graph.Graph.{Graph}
use Rattle.plan_core.specs.Arcs.{IsArcBefore}
use Rattle.plan_core.specs.Hardware.{port_of}
use Rattle.plan_core.specs.FirstFit.{register_of, IsListedBefore, IsFirstFit}
use Rattle.plan_core.specs.FirstFit.{IsFree as IsFreeByFit}
use Rattle.plan_core.specs.Refusals.{HasRegister as HasRegisterByFit, IsWithoutRegister as IsWithoutByFit}
use Rattle.plan_core.specs.declared.registers.Arc.{Arc}
use Rattle.plan_core.specs.declared.plan.Plan.{Plan}
use Rattle.plan_core.proofs.OneArcs.{one_unroll}
use Rattle.plan_core.proofs.OneFit.{comes_first, comes_before}
use Rattle.given_registers.specs.Around.{IsGivenAt, IsFree, HasRegister, AreRegisters}
use Rattle.given_registers.specs.Faults.{IsWithoutRegister}
use Rattle.given_registers.specs.declared.given.GivenRegister.{GivenRegister}
use Rattle.given_registers.specs.declared.fault.RegisterFault.TheVariants as of_registers
use Rattle.placed_plan.specs.Places.{IsPlanAt}
use Rattle.placed_plan.specs.Faults.{IsPlaceFault}
use Rattle.placed_plan.specs.GivenPlans.{IsPlanGiven, IsGivenPlanFault}
use Rattle.placed_plan.specs.declared.place.Place.{Place}
use Rattle.placed_plan.specs.declared.fault.PlaceFault.{PlaceFault}
use Rattle.placed_plan.specs.declared.fault.PlaceFault.TheVariants.{FileFull}
use Rattle.placed_plan.specs.declared.fault.GivenPlanFault.{GivenPlanFault}
use Rattle.placed_plan.specs.declared.fault.GivenPlanFault.TheVariants as of_plan
use Rattle.placed_plan.proofs.GivenUnits.{on_right}
use Rattle.placed_plan.proofs.PlansAt.{time_fault}
use Rattle.place_file.specs.declared.registers.GivenRegisters.{GivenRegisters}
use Rattle.place_command.specs.Refusals.{place_refusal, plan_refusal}

module _ (d : Datapath) (unroll : ℕ) (given : List GivenRegister) (arcs : List Arc) (none : given ≡ [])
    (order : AllPairs IsArcBefore arcs) where
  no_number : (n : ℕ) → n < length given → ⊥
  no_number n less =
      let none_less = subst (λ (gs : List GivenRegister). n < length gs) none less in absurd (omega (arith, none_less))

  none_at : (n k i : ℕ) → IsGivenAt given arcs n k i → ⊥
  none_at n k i x = no_number n x.number

  listed_there : (l j k i : ℕ) → k < length arcs → IsListedBefore l j k i → l < length arcs
  listed_there l j k i there (inl less) = omega (arith, there, less)
  listed_there l j k i there (inr here) = omega (arith, there, here.0)

  module _ (regs : List (List ℕ)) where
    -- a register that is free by first fit is free around none
    free_around : (l j register : ℕ)
        → l < length arcs
        → IsFreeByFit d.period unroll arcs regs l j register
        → IsFree d unroll given arcs regs l j register
    free_around l j register there free = record {
      from_given = λ n k i at its port. absurd (none_at n k i at);
      from_before = λ k i before copy its port.
          free k i (record {
            there = listed_there k i l j there before;
            copy = copy;
            file = port;
            before = comes_before d.period unroll arcs order k i l j there port before;
            its_register = its;
          });
    }

    -- and the other way round
    free_by_fit : (l j register : ℕ)
        → l < length arcs
        → IsFree d unroll given arcs regs l j register
        → IsFreeByFit d.period unroll arcs regs l j register
    free_by_fit l j register there free =
        λ k i s.
        free.from_before k i (comes_first d.period unroll arcs order k i l j s.there there s.file s.before) s.copy
        s.its_register s.file

    register_by_fit : (l j : ℕ)
        → l < length arcs
        → HasRegister d unroll given arcs regs l j
        → HasRegisterByFit d unroll arcs regs l j
    register_by_fit l j there (inl x) = absurd (none_at x.0 l j x.1)
    register_by_fit l j there (inr x) = record {
      first = record {
        free = free_by_fit l j (register_of regs l j) there x.free;
        least = λ register less free. x.least register less (free_around l j register there free);
      };
      within = x.within;
    }

    fit : AreRegisters d unroll given arcs regs → IsFirstFit d.period unroll arcs regs
    fit all = record {
      count = all.count;
      copies = all.copies;
      each = λ k i there copy. (register_by_fit k i there (all.each k i there copy)).first;
    }

  -- a copy that finds no register around none finds none by first fit
  without_by_fit : (unit port node : ℕ)
      → IsWithoutRegister d unroll given arcs (port_of unit port) node
      → IsWithoutByFit d unroll arcs (port_of unit port) node
  without_by_fit unit port node x = record {
    regs = x.regs;
    k = x.k;
    i = x.i;
    there = x.there;
    copy = x.copy;
    before = λ l j listed copy.
        register_by_fit x.regs l j (listed_there l j x.k x.i x.there listed) (x.before l j listed copy);
    full = λ register less free. x.full register less (free_around x.regs x.k x.i register x.there free);
    port_is = x.port_is;
    node_is = x.node_is;
  }

module _ (g : Graph) (d : Datapath) (places : List Place) (given : List GivenRegister) (none : given ≡ []) where
  -- the plan is the one of the places
  pub plan_alone : (p : Plan) → IsPlanGiven places g d given p → IsPlanAt places g d p
  plan_alone p is =
      let t = is.timed in
      let order = t.arcs_are.order in
      let all : AreRegisters d p.unroll given p.arcs p.registers.regs =
      subst (λ (n : ℕ). AreRegisters d n given p.arcs p.registers.regs)
      (one_unroll p.arcs is.registers.unroll p.unroll is.registers.unroll_is is.unroll) is.registers.registers in
      record {
        units = t.units;
        placed = record {
          lowered = t.lowered;
          assigned = on_right places d p.assigned t.units;
          schedule = t.schedule;
          arcs = t.arcs_are;
          unroll = is.unroll;
          registers = fit d p.unroll given p.arcs none order p.registers.regs all;
          sizes = λ k i there copy.
              (register_by_fit d p.unroll given p.arcs none order p.registers.regs k i there
              (all.each k i there copy)).within;
          inputs = is.inputs;
          outs = is.outs;
        };
      }

-- the fault is one of the places, and is told as one
pub fault_alone : (g : Graph) (d : Datapath) (places : List Place) (lines : List ℕ) (given : GivenRegisters)
    → given.registers ≡ []
    → (fault : GivenPlanFault)
    → IsGivenPlanFault places g d given.registers fault
    → (f : PlaceFault) × IsPlaceFault g d places f × (plan_refusal lines given fault ≡ place_refusal lines f)
fault_alone g d places lines given none (of_plan.Place f) h = (f, time_fault g d places f h, refl)
fault_alone g d places lines given none (of_plan.Registers (of_registers.Given n cause)) h =
    let first = h.fault_is.first in
    absurd (no_number d h.fault_is.unroll given.registers h.arcs none h.timed.arcs_are.order n first.there)
fault_alone g d places lines given none (of_plan.Registers (of_registers.Full unit port v)) h =
    let t = h.timed in (
      FileFull unit port v,
      record {
        assigned = h.assigned;
        is_lowered = t.lowered;
        units = t.units;
        schedule = h.schedule;
        is_schedule = t.schedule;
        arcs = h.arcs;
        are_arcs = t.arcs_are;
        unroll = h.fault_is.unroll;
        is_unroll = h.fault_is.unroll_is;
        none =
            without_by_fit d h.fault_is.unroll given.registers h.arcs none t.arcs_are.order unit port v
            h.fault_is.none;
      },
      refl,
    )
fault_alone g d places lines given none (of_plan.Registers of_registers.Memory) h = absurd h.fault_is
fault_alone g d places lines given none of_plan.Memory h = absurd h
