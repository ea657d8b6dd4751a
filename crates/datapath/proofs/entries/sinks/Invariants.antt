use Rattle.std.proofs.Common.{◌≡◌, [], map}
use Rattle.datapath.specs.Reading.{in_turn}
use Rattle.datapath.specs.Names.{sink}
use Rattle.datapath.proofs.Turn.{rest_of}
use Rattle.datapath.proofs.entries.sinks.Given as goal

abbrev pub invariant-loop-name : goal.invariant-loop-name
invariant-loop-name l =
    rest_of (sink l.section l.units) (λ name. name.now) l.names l.name-index l.sinks
    ≡ in_turn (sink l.section l.units) [] (map (λ name. name.now) l.names)
