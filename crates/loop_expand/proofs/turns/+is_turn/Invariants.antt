use Rattle.std.proofs.Common.{length}
use Rattle.loop_expand.proofs.turns.+is_turn.Given as goal

abbrev pub decreases-is_turn : goal.decreases-is_turn
decreases-is_turn l = length l.turns.now
