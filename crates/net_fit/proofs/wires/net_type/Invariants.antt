use Rattle.std.proofs.Common.{◌≡◌, drop}
use Rattle.net_fit.specs.Joints.{net_type}
use Rattle.net_fit.proofs.wires.net_type.Given as goal

-- no processor before this one is fed
abbrev pub invariant-loop-p : goal.invariant-loop-p
invariant-loop-p l = net_type l.word (drop l.p l.procs) (drop l.p l.ports) ≡ net_type l.word l.procs l.ports
