use Rattle.std.proofs.Common.{◌≡◌, [], map, take, drop}
use Rattle.datapath.specs.Reading.{in_turn}
use Rattle.datapath.specs.PathOf.{unit_name_at}
use Rattle.datapath.proofs.Fresh.{name_of}
use Rattle.datapath.proofs.units.names_differ.Given as goal

abbrev pub invariant-loop-place : goal.invariant-loop-place
invariant-loop-place l =
    in_turn unit_name_at (map name_of (take l.place l.units)) (map name_of (drop l.place l.units))
    ≡ in_turn unit_name_at [] (map name_of l.units)
