use Rattle.std.proofs.Common.{◌≡◌, map, take}
use Rattle.loop_expand.proofs.turns.own_values.Given as goal

abbrev pub invariant-loop-turn : goal.invariant-loop-turn
invariant-loop-turn l = l.row.items ≡ map (λ i. i.index) (take l.turn-index l.inner)
