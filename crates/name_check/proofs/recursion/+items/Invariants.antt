use Rattle.std.proofs.Common.{take}
use Rattle.name_check.proofs.Callees.{AddsPlaces, row_called}
use Rattle.name_check.proofs.recursion.+items.Given as goal

abbrev pub invariant-add_all_calls-loop-item : goal.invariant-add_all_calls-loop-item
invariant-add_all_calls-loop-item l = AddsPlaces l.tops l.fn.calls (row_called (take l.item-index l.items)) l.calls
