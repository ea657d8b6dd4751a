use Rattle.unit_assign.specs.Private.Bindings.{IsNarrowed}
use Rattle.unit_assign.proofs.binding.narrow.Given as goal

abbrev pub invariant-loop-port : goal.invariant-loop-port
invariant-loop-port l =
    IsNarrowed l.problem.datapath.now l.problem.lowered.now.nodes l.v l.unit l.port l.fn.allowed l.allowed
