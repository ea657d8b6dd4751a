use Rattle.silage_syntax.specs.Tree.{view}
use Rattle.type_rules.specs.TypedTree.{view_typed}
use Rattle.fix_types.proofs.TopSteps.{HasTyped}
use Rattle.fix_types.proofs.tops.typed_tops.Given as goal

abbrev pub invariant-loop-at : goal.invariant-loop-at
invariant-loop-at l = HasTyped (view l.tops.program.now) l.at (view_typed l.typed)
