use Rattle.std.proofs.Common.{◌≡◌, take}
use Rattle.elaboration_run.specs.Private.Lanes.{column}
use Rattle.elaboration_run.proofs.empty_loops.turn_in.Given as goal

abbrev pub invariant-loop-row : goal.invariant-loop-row
invariant-loop-row l = l.turn ≡ column (take l.row-index l.rows) l.k
