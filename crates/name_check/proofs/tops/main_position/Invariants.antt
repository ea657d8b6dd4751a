use Rattle.std.proofs.Common.{◌≡◌, map, drop}
use Rattle.silage_syntax.specs.Tree.{view_top}
use Rattle.name_check.proofs.MainFound.{main_among}
use Rattle.name_check.proofs.tops.main_position.Given as goal

abbrev pub invariant-loop-at : goal.invariant-loop-at
invariant-loop-at l = main_among (map view_top (drop l.at l.program.tops)) ≡ main_among (map view_top l.program.tops)
