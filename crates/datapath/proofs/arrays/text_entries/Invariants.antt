use Rattle.std.proofs.Common.{◌≡◌, take, Ok, map}
use Rattle.toml.specs.View.{items_view}
use Rattle.datapath.specs.Values.{entries, text}
use Rattle.datapath.proofs.arrays.text_entries.Given as goal

abbrev pub invariant-loop-value : goal.invariant-loop-value
invariant-loop-value l = entries text (items_view (take l.value-index l.value-items)) ≡ Ok (map (λ t. t.now) l.found)
