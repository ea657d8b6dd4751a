use Rattle.std.proofs.Common.{◌≡◌, drop}
use Rattle.fault_order.specs.Rules.{each_from}
use Rattle.fault_order.specs.Private.FirstMet.{first_in}
use Rattle.net_fit.specs.Joints.{wire_rule}
use Rattle.net_fit.proofs.joints.check_wires.Given as goal

-- the wires that are left answer for all
abbrev pub invariant-loop-w : goal.invariant-loop-w
invariant-loop-w l =
    first_in (each_from (wire_rule l.procs l.ports l.p) l.w (drop l.w l.wires))
    ≡ first_in (each_from (wire_rule l.procs l.ports l.p) 0 l.wires)
