-- A plan by the rules whose nodes are in their stages is one at its own places.
use Rattle.std.proofs.Common.{◌≡◌, ℕ, ◌<◌, ◌≤◌, subst, arith, List, length}
use Rattle.datapath.specs.declared.types.Datapath.{Datapath}
use Rattle.signal_graph.specs.declared.graph.Graph.{Graph}
use Rattle.plan_core.specs.Operands.{node_of}
use Rattle.plan_core.specs.Assigned.{IsRightUnit}
use Rattle.plan_core.specs.Stages.{IsLoadOf}
use Rattle.plan_core.specs.declared.schedule.Assigned.{Assigned}
use Rattle.plan_soundness.proofs.Units.{on_right_units}
use Rattle.placed_plan.specs.Places.{place_of, CanBeOn, IsGiven}
use Rattle.placed_plan.specs.declared.place.Place.{Place}
use Rattle.overlap_plan.specs.IsStagePlan.{IsStagePlan, plan_of}
use Rattle.overlap_plan.specs.declared.plan.StagePlan.{StagePlan}
use Rattle.overlap_sim.specs.Placed.{IsInItsStages}
use Rattle.placed_stages.specs.StagePlaces.{IsStagePlacedAt, IsStagePlanAt}

module _ (g : Graph) (d : Datapath) (stages : ℕ) (places : List Place) (p : StagePlan) (is : IsStagePlan g d stages p)
    (given : IsGiven places (plan_of p))
    (in_stages : (v : ℕ)
    → v < length p.assigned.lowered.nodes
    → IsInItsStages stages (IsLoadOf is.lowered.delays) d p.assigned p.schedule v) where
  abbrev a : Assigned
  a = p.assigned

  can : (v : ℕ) → v < length a.lowered.nodes → CanBeOn d (node_of a.lowered.nodes v) (place_of places v).unit
  can v there =
      let for = is.assigned.units v (omega (arith, there, is.assigned.count)) in
      record {
        width = for.width;
        right = subst (λ (u : ℕ). IsRightUnit d (node_of a.lowered.nodes v) u)
            (given.unit v (omega (arith, there, given.count))) for.candidate.right;
      }

  placed : (v : ℕ)
      → v < length a.lowered.nodes
      → IsStagePlacedAt places stages d a p.schedule is.schedule.height v
  placed v there =
      let at = is.schedule.placed v there in
      let here = given.cycle v (omega (arith, there, given.count)) in
      record {
        can = record {
          operands = at.can.operands;
          fits = at.can.fits;
          allows = record { cycle = here; again = at.can.allows.again };
        };
        least = λ t less other. absurd (omega (arith, less, other.allows.cycle, here));
        destinations = at.destinations;
        buses = at.buses;
      }

  pub planned_at : IsStagePlanAt places g d stages p
  planned_at = record {
    units = record {
      place_count = given.count;
      count = is.assigned.count;
      given = λ v there. given.unit v (omega (arith, there, given.count));
      can = can;
    };
    placed = record {
      lowered = is.lowered;
      assigned = on_right_units is.assigned;
      schedule = record {
        height = is.schedule.height;
        heights = is.schedule.heights;
        count = is.schedule.count;
        placed = placed;
      };
      again = λ v there. (is.schedule.placed v there).can.allows.again;
      in_stages = in_stages;
      arcs = is.arcs;
      unroll = is.unroll;
      registers = is.registers;
      sizes = is.sizes;
      stages_are = is.stages_are;
      inputs = is.inputs;
      outs = is.outs;
    };
  }
