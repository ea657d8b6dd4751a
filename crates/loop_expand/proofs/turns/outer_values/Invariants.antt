use Rattle.std.proofs.Common.{◌≡◌, map, take}
use Rattle.loop_expand.specs.Private.Turns.{at}
use Rattle.loop_expand.proofs.turns.outer_values.Given as goal

abbrev pub invariant-loop-turn : goal.invariant-loop-turn
invariant-loop-turn l = l.row.items ≡ map (λ i. at l.values i.outer) (take l.turn-index l.inner)
