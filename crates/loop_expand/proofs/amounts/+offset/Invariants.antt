use Rattle.std.proofs.Common.{length}
use Rattle.loop_expand.proofs.amounts.+offset.Given as goal

abbrev pub decreases-offset : goal.decreases-offset
decreases-offset l = length l.dims.now
