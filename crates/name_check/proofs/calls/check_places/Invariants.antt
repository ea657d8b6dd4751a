use Rattle.std.proofs.Common.{◌≡◌, map, drop}
use Rattle.fault_order.specs.Rules.{parts, each_from}
use Rattle.fault_order.specs.Private.FirstMet.{first}
use Rattle.silage_syntax.specs.Tree.{view_place}
use Rattle.name_rules.specs.NameRules.{taking_rules}
use Rattle.name_check.specs.Private.Views.{context_of}
use Rattle.name_check.proofs.calls.check_places.Given as goal

abbrev pub invariant-loop-i : goal.invariant-loop-i
invariant-loop-i l =
    first (parts (each_from (taking_rules (context_of l.context) l.results) l.i (map view_place (drop l.i l.places))))
    ≡ first (parts (each_from (taking_rules (context_of l.context) l.results) 0 (map view_place l.places)))
