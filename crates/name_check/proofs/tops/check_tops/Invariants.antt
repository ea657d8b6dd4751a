use Rattle.std.proofs.Common.{◌≡◌, map, drop}
use Rattle.fault_order.specs.Rules.{parts, each}
use Rattle.fault_order.specs.Private.FirstMet.{first}
use Rattle.silage_syntax.specs.Tree.{view, view_top}
use Rattle.name_rules.specs.NameRules.{top_rules}
use Rattle.name_check.proofs.tops.check_tops.Given as goal

abbrev pub invariant-loop-top : goal.invariant-loop-top
invariant-loop-top l =
    first (parts (each (top_rules (view l.tops.program.now)) (map view_top (drop l.top-index l.tops.program.now.tops))))
    ≡ first (parts (each (top_rules (view l.tops.program.now)) (map view_top l.tops.program.now.tops)))
