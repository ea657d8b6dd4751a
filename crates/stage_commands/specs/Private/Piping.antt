-- The machine of the guarded image of a plan over several stages.
use Rattle.std.specs.Prelude.{◌≡◌, ℕ, ◌-◌, []}
use Rattle.cycle_sim.specs.Machine.{Snapshot, state_of}
use Rattle.cycle_sim.specs.Microcode.{micro_of, inputs_of, IsSound}
use Rattle.datapath.specs.declared.types.Datapath.{Datapath}
use Rattle.desk_core.specs.View.{Name, View}
use Rattle.micro_image.specs.Run.{Stands}
use Rattle.overlap_plan.specs.IsStagePlan.{IsStagePlan, plan_of}
use Rattle.overlap_plan.specs.declared.plan.StagePlan.{StagePlan}
use Rattle.overlap_sim.specs.Guarded.{of_guarded}
use Rattle.overlap_sim.specs.GuardedOf.{IsGuardedOf}
use Rattle.overlap_sim.specs.declared.guarded.Guarded.{Guarded}
use Rattle.plan_soundness.specs.Run.{RunsSolutionLate}
use Rattle.run_command.specs.Private.Executing.{IsPlannedMachine}
use Rattle.signal_graph.specs.GraphRules.{IsGraph}
use Rattle.signal_graph.specs.declared.graph.Graph.{Graph}
use Rattle.stage_commands.specs.Pipe.{staged_out}
use Rattle.stage_commands.specs.StagePlans.{IsStagedOver}

-- the machine stands before the first cycle of the guarded image of the plan, which runs the solution of the graph that
-- the plan is of
pub record IsLoadedPlan (d : Datapath) (plan : StagePlan) (machine : Snapshot) : Type 0 where
  pub stands : Stands (state_of machine) (micro_of machine.code) []
  pub guarded : Guarded
  pub guarded_of : IsGuardedOf plan.stages d (plan_of plan) guarded
  pub obeys : micro_of machine.code ≡ of_guarded guarded
  pub inputs : inputs_of machine.code ≡ guarded.inputs
  pub runs : (g : Graph)
      → IsGraph g
      → IsStagePlan g d plan.stages plan
      → RunsSolutionLate (plan.stages - 1) g (of_guarded guarded)

-- and its microcode is sound
pub record IsMachineOfPlan (d : Datapath) (plan : StagePlan) (machine : Snapshot) : Type 0 where
  pub loaded : IsLoadedPlan d plan machine
  pub sound : IsSound machine.code

-- the machine before its first cycle, with the guarded image of the plan that SRC's program has over the datapath of
-- DP, which was read through
pub record IsGuardedMachine (stages : ℕ) (src datapath : Name) (old new : View) (machine : Snapshot) : Type 0 where
  pub planned : IsPlannedMachine (IsStagedOver stages) (staged_out stages) src datapath old new machine
  pub guarded : Guarded
  pub guarded_of : IsGuardedOf stages planned.path (plan_of planned.plan) guarded
  pub obeys : micro_of machine.code ≡ of_guarded guarded
