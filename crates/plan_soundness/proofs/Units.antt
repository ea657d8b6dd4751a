-- By the rules, nodes are on units of the right kind.
use Rattle.std.proofs.Common.{arith}
use Rattle.datapath.specs.declared.types.Datapath.{Datapath}
use Rattle.plan_core.specs.Assigned.{IsAssigned}
use Rattle.plan_core.specs.declared.schedule.Assigned.{Assigned}
use Rattle.plan_soundness.specs.Units.{AreOnRightUnits}

pub on_right_units : {d : Datapath} {a : Assigned} → IsAssigned d a → AreOnRightUnits d a
on_right_units assigned = record {
  count = assigned.count;
  right = λ v in-v. (assigned.units v (omega (arith, in-v, assigned.count))).candidate.right;
}
