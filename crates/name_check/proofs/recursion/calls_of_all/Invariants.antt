use Rattle.std.proofs.Common.{◌≡◌, map, take}
use Rattle.silage_syntax.specs.Tree.{view_top}
use Rattle.name_rules.specs.Calls.{called_by}
use Rattle.name_rules.specs.Private.CallLists.{places}
use Rattle.name_check.proofs.recursion.calls_of_all.Given as goal

abbrev pub invariant-loop-top : goal.invariant-loop-top
invariant-loop-top l =
    l.calls ≡ map (λ top. places l.tops (called_by top)) (take l.top-index (map view_top l.program.tops))
