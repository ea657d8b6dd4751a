use Rattle.std.proofs.Common.{map, take}
use Rattle.std.specs.Prelude.{filter}
use Rattle.cycle_sim.specs.Order.{is_into}
use Rattle.cycle_sim.specs.Microcode.{micro_of}
use Rattle.cycle_sim.specs.Private.Execution.{value_after}
use Rattle.cycle_sim.specs.Private.Order.{IsLogged, wrote_by}
use Rattle.cycle_sim.proofs.cycle.Cycle.log_port.Given as goal

abbrev pub invariant-loop-take : goal.invariant-loop-take
invariant-loop-take l =
    IsLogged l.at
    (map (wrote_by (micro_of l.self.code) l.self.number (value_after l.self l.storage l.row l.values))
    (filter (is_into l.port.unit l.port.port) (take l.take-index l.take-items))) l.fn.log l.filled l.log
