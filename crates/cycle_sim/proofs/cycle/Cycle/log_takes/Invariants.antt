use Rattle.std.proofs.Common.{◌≤◌, ◌+◌}
use Rattle.std.specs.List.{flat_map, range_with_len}
use Rattle.cycle_sim.specs.Private.Execution.{value_after}
use Rattle.cycle_sim.specs.Private.Order.{IsLogged, wrote_into}
use Rattle.cycle_sim.specs.Microcode.{micro_of}
use Rattle.cycle_sim.proofs.cycle.Cycle.log_takes.Given as goal

abbrev pub invariant-loop-port : goal.invariant-loop-port
invariant-loop-port l =
    IsLogged l.at
    (flat_map
    (wrote_into (micro_of l.self.code) l.self.number (value_after l.self l.storage l.row l.values) l.unit)
    (range_with_len 0 l.port)) l.fn.log l.filled l.log
    × (l.filled ≤ l.at + l.port)
