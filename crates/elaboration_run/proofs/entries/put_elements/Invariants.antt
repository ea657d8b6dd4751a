use Rattle.std.proofs.Common.{◌≡◌, ◌++◌, drop}
use Rattle.elaboration_code.specs.Actions.{signal_elements}
use Rattle.elaboration_run.proofs.entries.put_elements.Given as goal

abbrev pub invariant-loop-d : goal.invariant-loop-d
invariant-loop-d l =
    l.elements ++ signal_elements l.inst l.d (drop l.d l.signals) ≡ l.fn.elements ++ signal_elements l.inst 0 l.signals
