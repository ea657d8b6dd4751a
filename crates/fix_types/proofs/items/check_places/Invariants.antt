use Rattle.std.proofs.Common.{◌≡◌, drop, map}
use Rattle.fault_order.specs.Rules.{parts}
use Rattle.fault_order.specs.Private.FirstMet.{first}
use Rattle.silage_syntax.specs.Tree.{view_place}
use Rattle.type_rules.specs.TypeRules.{place_rules}
use Rattle.fix_types.specs.Private.Scopes.{program_of, function_of}
use Rattle.fix_types.proofs.items.check_places.Given as goal

abbrev pub invariant-loop-i : goal.invariant-loop-i
invariant-loop-i l =
    first (parts
    (place_rules (program_of l.scope) (function_of l.scope) (drop l.i l.results)
    (map view_place (drop l.i l.places))))
    ≡ first (parts (place_rules (program_of l.scope) (function_of l.scope) l.results (map view_place l.places)))
