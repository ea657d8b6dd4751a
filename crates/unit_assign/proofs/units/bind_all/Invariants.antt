use Rattle.std.proofs.Common.{◌≡◌, length}
use Rattle.unit_assign.specs.Private.Bindings.{IsBinding}
use Rattle.unit_assign.proofs.units.bind_all.Given as goal

abbrev pub invariant-loop-v : goal.invariant-loop-v
invariant-loop-v l = record {
  count : length l.binding.units ≡ l.v;
  binding : IsBinding l.problem.datapath.now l.problem.lowered.now.nodes l.binding;
}
