use Rattle.std.proofs.Common.{◌≡◌, drop}
use Rattle.fault_order.specs.Rules.{each_from}
use Rattle.fault_order.specs.Private.FirstMet.{first_in}
use Rattle.net_fit.specs.Joints.{proc_rules}
use Rattle.net_fit.proofs.joints.check_in_order.Given as goal

-- the processors that are left answer for all
abbrev pub invariant-loop-p : goal.invariant-loop-p
invariant-loop-p l =
    first_in (each_from (proc_rules l.procs l.ports) l.p (drop l.p l.procs))
    ≡ first_in (each_from (proc_rules l.procs l.ports) 0 l.procs)
