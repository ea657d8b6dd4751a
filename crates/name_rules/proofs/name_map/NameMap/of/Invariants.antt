use Rattle.name_rules.specs.TopNames.{top_names}
use Rattle.silage_syntax.specs.Tree.{view}
use Rattle.name_rules.proofs.FirstPlaces.{IsKept}
use Rattle.name_rules.proofs.name_map.NameMap.of.Given as goal

abbrev pub invariant-loop-top : goal.invariant-loop-top
invariant-loop-top l = IsKept (top_names (view l.program)) l.top-index l.names
