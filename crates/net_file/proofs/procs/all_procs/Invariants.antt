use Rattle.std.proofs.Common.{◌≡◌, [], map, length}
use Rattle.std.specs.List.{All}
use Rattle.toml.specs.View.{table_view}
use Rattle.toml_rows.specs.Reading.{in_turn}
use Rattle.toml_rows.proofs.Turn.{rest_of}
use Rattle.net_core.specs.declared.fault.NetFault.TheVariants.{Memory}
use Rattle.net_file.specs.Described.{HasTexts}
use Rattle.net_file.specs.Private.Reading.{proc_at}
use Rattle.net_file.proofs.procs.all_procs.Given as goal

abbrev pub invariant-loop-table : goal.invariant-loop-table
invariant-loop-table l =
    (rest_of Memory (proc_at l.inputs) (λ t. table_view t.now) l.tables l.table-index l.procs
    ≡ in_turn (proc_at l.inputs) [] (map (λ t. table_view t.now) l.tables))
    × (length l.procs ≡ l.table-index) × All HasTexts l.procs
