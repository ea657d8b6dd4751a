use Rattle.std.proofs.Common.{◌-◌, length}
use Rattle.desk_core.proofs.WholeLemmas.{IsReadSoFar}
use Rattle.desk_core.proofs.whole.read_whole.Given as goal

abbrev pub invariant-pieces : goal.invariant-pieces
invariant-pieces g l = IsReadSoFar l.name l.limit l.bytes (g.D.Desk.view l.fn.desk) (g.D.Desk.view l.desk)

abbrev pub decreases-pieces : goal.decreases-pieces
decreases-pieces g l = l.limit - length l.bytes
