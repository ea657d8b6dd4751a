use Rattle.std.proofs.Common.{◌≡◌, drop}
use Rattle.elaboration_code.specs.Actions.{all_defined}
use Rattle.elaboration_run.specs.Private.States.{definitions_of}
use Rattle.elaboration_run.proofs.definitions.check_all_defined.Given as goal

abbrev pub invariant-loop-signal : goal.invariant-loop-signal
invariant-loop-signal l =
    all_defined (definitions_of l.definitions) (drop l.signal-index l.signals)
    ≡ all_defined (definitions_of l.definitions) l.signals
