use Rattle.std.proofs.Common.{◌≡◌, drop}
use Rattle.fault_order.specs.Rules.{each_from}
use Rattle.fault_order.specs.Private.FirstMet.{first_in}
use Rattle.net_fit.specs.Names.{output_rule}
use Rattle.net_fit.proofs.names.check_output.Given as goal

-- the processors that are left answer for all
abbrev pub invariant-loop-p : goal.invariant-loop-p
invariant-loop-p l =
    first_in (each_from (output_rule l.output) l.p (drop l.p l.procs))
    ≡ first_in (each_from (output_rule l.output) 0 l.procs)
