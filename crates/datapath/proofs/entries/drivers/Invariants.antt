use Rattle.std.proofs.Common.{◌≡◌, [], map}
use Rattle.datapath.specs.Reading.{in_turn}
use Rattle.datapath.specs.Names.{driver}
use Rattle.datapath.proofs.Turn.{rest_of}
use Rattle.datapath.proofs.entries.drivers.Given as goal

abbrev pub invariant-loop-name : goal.invariant-loop-name
invariant-loop-name l =
    rest_of (driver l.section l.units) (λ name. name.now) l.names l.name-index l.drivers
    ≡ in_turn (driver l.section l.units) [] (map (λ name. name.now) l.names)
