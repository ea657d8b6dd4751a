use Rattle.std.proofs.Common.{◌≡◌, ◌+◌, ◌-◌}
use Rattle.elaboration_code.specs.Actions.{define_from}
use Rattle.elaboration_run.specs.Private.States.{definitions_of}
use Rattle.elaboration_run.proofs.definitions.define_all.Given as goal

abbrev pub invariant-loop-k : goal.invariant-loop-k
invariant-loop-k l =
    define_from (l.first + l.k) (l.count - l.k) l.at (definitions_of l.definitions)
    ≡ define_from l.first l.count l.at (definitions_of l.fn.definitions)
