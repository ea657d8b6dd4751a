use Rattle.std.proofs.Common.{◌≡◌, map, take}
use Rattle.silage_syntax.specs.Tree.{view_place}
use Rattle.fix_types.proofs.copies.places.Given as goal

abbrev pub invariant-loop-p : goal.invariant-loop-p
invariant-loop-p l = map view_place l.copies.items ≡ map view_place (take l.p-index l.places)
