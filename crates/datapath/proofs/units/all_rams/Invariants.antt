use Rattle.std.proofs.Common.{◌≡◌, [], map, length}
use Rattle.toml.specs.View.{table_view}
use Rattle.datapath.specs.Reading.{in_turn}
use Rattle.datapath.specs.PathOf.{ram_at}
use Rattle.datapath.proofs.Turn.{rest_of}
use Rattle.datapath.proofs.units.all_rams.Given as goal

abbrev pub invariant-loop-table : goal.invariant-loop-table
invariant-loop-table l =
    (rest_of (ram_at l.units) (λ t. table_view t.now) l.tables l.table-index l.rams
    ≡ in_turn (ram_at l.units) [] (map (λ t. table_view t.now) l.tables))
    × (length l.rams ≡ l.table-index)
