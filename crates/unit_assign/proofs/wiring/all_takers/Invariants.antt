use Rattle.unit_assign.specs.Private.Wiring.{AreTakers}
use Rattle.unit_assign.proofs.wiring.all_takers.Given as goal

abbrev pub invariant-loop-place : goal.invariant-loop-place
invariant-loop-place l = AreTakers l.datapath l.place l.takers
