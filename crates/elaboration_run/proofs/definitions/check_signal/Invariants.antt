use Rattle.std.proofs.Common.{◌≡◌, ◌+◌, ◌-◌}
use Rattle.std.specs.List.{range_with_len}
use Rattle.elaboration_code.specs.Actions.{for_each, is_defined_at, are_defined}
use Rattle.elaboration_run.specs.Private.States.{definitions_of}
use Rattle.elaboration_run.proofs.definitions.check_signal.Given as goal

abbrev pub invariant-loop-k : goal.invariant-loop-k
invariant-loop-k l =
    for_each (λ k _. is_defined_at (definitions_of l.definitions) (l.signal.first + k) l.signal.at k)
    (range_with_len (0 + l.k) (l.signal.count - l.k)) tt ≡ are_defined (definitions_of l.definitions) l.signal
