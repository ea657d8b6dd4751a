use Rattle.std.proofs.Common.{◌≡◌, ◌∙◌, ◌++◌, ◌∷◌, []}
use Rattle.fix_types.proofs.Given.{nested_step}
use Rattle.fix_types.proofs.nodes.nested.Goals as goal

pub loop-condition-preserved : goal.loop-condition-preserved
loop-condition-preserved c =
    let items : c.loop-condition.pairs.items ≡ c.pop.new.self.items ++ (c.in-Some.condition, c.in-Some.value) ∷ [] =
    rw c.in-Some.is at c.pop.ensures.items in
    nested_step c.args.fmt c.loop-condition.pairs.items c.pop.new.self.items (c.in-Some.condition, c.in-Some.value)
    c.loop-condition.other c.in_ok-other.other items c.in_ok-other.ensures
    ∙ c.loop-condition.invariant
