use Rattle.std.proofs.Common.{◌≡◌, ◌++◌}
use Rattle.elaboration_code.specs.Actions.{places_of}
use Rattle.elaboration_run.proofs.entries.put_signal.Given as goal

abbrev pub invariant-loop-place : goal.invariant-loop-place
invariant-loop-place l = l.elements ≡ l.fn.elements ++ places_of l.inst l.decl l.place
