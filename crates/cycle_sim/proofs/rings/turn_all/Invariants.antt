use Rattle.cycle_sim.proofs.RingLaws.{AreTurnedBelow}
use Rattle.cycle_sim.proofs.rings.turn_all.Given as goal

abbrev pub invariant-loop-unit : goal.invariant-loop-unit
invariant-loop-unit l = AreTurnedBelow l.unit l.fn.rings l.rings
