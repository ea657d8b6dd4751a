use Rattle.std.proofs.Common.{◌≡◌, map, take}
use Rattle.elaboration_code.specs.Actions.{view_action}
use Rattle.elaboration_run.specs.Private.Parts.{seen}
use Rattle.elaboration_run.proofs.parts.all.Given as goal

abbrev pub invariant-loop-action : goal.invariant-loop-action
invariant-loop-action l = seen l.all ≡ map view_action (take l.action-index l.actions)
