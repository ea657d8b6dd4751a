use Rattle.std.proofs.Common.{◌≡◌, take}
use Rattle.toml.specs.View.{items_view}
use Rattle.datapath.specs.Values.{entries, whole}
use Rattle.datapath.proofs.ArrayEntries.{so_far}
use Rattle.datapath.proofs.arrays.sizes.Given as goal

abbrev pub invariant-loop-value : goal.invariant-loop-value
invariant-loop-value l = entries (whole 1 256) (items_view (take l.value-index l.value-items)) ≡ so_far l.in_range
    l.sizes
