use Rattle.std.proofs.Common.{◌≡◌, [], map, length}
use Rattle.toml.specs.View.{table_view}
use Rattle.datapath.specs.Reading.{in_turn}
use Rattle.datapath.specs.PathOf.{bus_at}
use Rattle.datapath.proofs.Turn.{rest_of}
use Rattle.datapath.proofs.buses.all_buses.Given as goal

abbrev pub invariant-loop-table : goal.invariant-loop-table
invariant-loop-table l =
    (rest_of (bus_at l.units) (λ t. table_view t.now) l.tables l.table-index l.buses
    ≡ in_turn (bus_at l.units) [] (map (λ t. table_view t.now) l.tables))
    × (length l.buses ≡ l.table-index)
