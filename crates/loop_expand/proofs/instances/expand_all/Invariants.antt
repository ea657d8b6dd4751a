use Rattle.std.proofs.Common.{◌≡◌, drop}
use Rattle.loop_expand.specs.Private.Elements.{view_elems, with_facts}
use Rattle.loop_expand.specs.Private.Facts.{facts_from}
use Rattle.loop_expand.specs.Private.Scopes.{view_bodies}
use Rattle.loop_expand.proofs.instances.expand_all.Given as goal

abbrev pub invariant-loop-number : goal.invariant-loop-number
invariant-loop-number l =
    with_facts (facts_from l.tables (view_bodies l.bodies) l.instances l.firsts l.number (drop l.number l.instances))
    (view_elems l.elems)
    ≡ with_facts (facts_from l.tables (view_bodies l.bodies) l.instances l.firsts 0 l.instances) (view_elems l.fn.elems)
