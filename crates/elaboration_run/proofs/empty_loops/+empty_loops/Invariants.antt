use Rattle.std.proofs.Common.{map, take}
use Rattle.elaboration_code.specs.Actions.{actions_of, view_action, view_actions}
use Rattle.elaboration_run.specs.Private.Parts.{seen}
use Rattle.elaboration_code.specs.Loops.{AreDoneInside}
use Rattle.elaboration_run.specs.Private.EmptyLoops.{InEach, DoSame, loops_around}
use Rattle.elaboration_run.proofs.ActionSizes.{size_of, size_in}
use Rattle.elaboration_run.proofs.empty_loops.+empty_loops.Given as goal

abbrev pub decreases-put_busy : goal.decreases-put_busy
decreases-put_busy l = size_of (view_action l.action.now)

abbrev pub decreases-busy : goal.decreases-busy
decreases-busy l = size_in (view_actions l.actions.now)

abbrev pub invariant-busy-loop-action : goal.invariant-busy-loop-action
invariant-busy-loop-action l = record {
  same : InEach l.turns (λ ts. DoSame ts (seen l.parts) (map view_action (take l.action-index l.actions)));
  inside : AreDoneInside (loops_around l.turns) (actions_of (seen l.parts));
}
