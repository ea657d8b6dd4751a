use Rattle.std.proofs.Common.{◌≡◌, take}
use Rattle.toml.specs.View.{items_view}
use Rattle.toml_rows.specs.Values.{entries}
use Rattle.net_file.specs.Table as row
use Rattle.toml_rows.proofs.ArrayEntries.{so_far}
use Rattle.net_file.proofs.wires.wires.Given as goal

abbrev pub invariant-loop-value : goal.invariant-loop-value
invariant-loop-value l =
    entries (row.wire l.inputs l.own) (items_view (take l.value-index l.value-items)) ≡ so_far l.in_range
    l.wires
