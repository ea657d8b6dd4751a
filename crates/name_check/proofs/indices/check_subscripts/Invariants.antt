use Rattle.std.proofs.Common.{◌≡◌, map, drop}
use Rattle.fault_order.specs.Rules.{parts, each}
use Rattle.fault_order.specs.Private.FirstMet.{first}
use Rattle.silage_syntax.specs.Tree.{view_manifest}
use Rattle.name_rules.specs.NameRules.{manifest_rules}
use Rattle.name_check.specs.Private.Views.{context_of}
use Rattle.name_check.proofs.indices.check_subscripts.Given as goal

abbrev pub invariant-loop-sub : goal.invariant-loop-sub
invariant-loop-sub l =
    first (parts (each (manifest_rules (context_of l.context)) (map view_manifest (drop l.sub-index l.subs))))
    ≡ first (parts (each (manifest_rules (context_of l.context)) (map view_manifest l.subs)))
