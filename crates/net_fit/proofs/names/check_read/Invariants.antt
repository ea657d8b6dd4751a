use Rattle.std.proofs.Common.{◌≡◌, ◌-◌}
use Rattle.std.specs.List.{range_with_len}
use Rattle.fault_order.specs.Rules.{each}
use Rattle.fault_order.specs.Private.FirstMet.{first_in}
use Rattle.net_fit.specs.Names.{read_rule}
use Rattle.net_fit.proofs.names.check_read.Given as goal

-- the words that are left answer for all
abbrev pub invariant-loop-word : goal.invariant-loop-word
invariant-loop-word l =
    first_in (each (read_rule l.net.procs) (range_with_len l.word (l.net.inputs - l.word)))
    ≡ first_in (each (read_rule l.net.procs) (range_with_len 0 l.net.inputs))
