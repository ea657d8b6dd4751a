use Rattle.std.proofs.Common.{◌≡◌, [], map, length}
use Rattle.toml.specs.View.{table_view}
use Rattle.datapath.specs.Reading.{in_turn}
use Rattle.datapath.specs.PathOf.{unit_at}
use Rattle.datapath.proofs.Turn.{rest_of}
use Rattle.datapath.proofs.units.all_units.Given as goal

abbrev pub invariant-loop-table : goal.invariant-loop-table
invariant-loop-table l =
    (rest_of unit_at (λ t. table_view t.now) l.tables l.table-index l.units
    ≡ in_turn unit_at [] (map (λ t. table_view t.now) l.tables))
    × (length l.units ≡ l.table-index)
