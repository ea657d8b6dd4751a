use Rattle.std.proofs.Common.{◌≡◌, take, Ok, map}
use Rattle.toml.specs.View.{items_view, table_view}
use Rattle.toml_rows.specs.Values.{entries, a_table}
use Rattle.net_file.proofs.procs.table_entries.Given as goal

abbrev pub invariant-loop-value : goal.invariant-loop-value
invariant-loop-value l = entries a_table (items_view (take l.value-index l.value-items)) ≡ Ok
    (map (λ t. table_view t.now) l.tables)
