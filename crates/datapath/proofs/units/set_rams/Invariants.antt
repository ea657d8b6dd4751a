use Rattle.std.proofs.Common.{◌≡◌, ◌≤◌, length}
use Rattle.datapath.specs.PathOf.{with_rams}
use Rattle.datapath.proofs.Rams.{rams_left}
use Rattle.datapath.proofs.units.set_rams.Given as goal

abbrev pub invariant-loop-place : goal.invariant-loop-place
invariant-loop-place l =
    (length l.rams ≤ length l.units)
    × (rams_left l.units l.rams l.place ≡ with_rams l.initial.units l.rams)
