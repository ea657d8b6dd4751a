-- The last pending arc is one of the last group, unless that has none.
use Rattle.std.proofs.Common.{arith}
use Rattle.digraph.specs.Private.Walk.{state_of}
use Rattle.digraph.proofs.WalkSteps.{next_some, next_none}
use Rattle.digraph.proofs.walk.Walk.next_head.Goals as goal

pub returns-clause-some : goal.returns-clause-some
returns-clause-some c =
    next_some c.args.arcs.now (state_of c.args.self.now) c.pop.new.self.items c.pop.result c.args.group c.requires.walk
    c.requires.last (λ e. c.if-len-group.false (omega arith)) c.pop.ensures.items

pub returns-clause-none : goal.returns-clause-none
returns-clause-none c =
    next_none c.args.arcs.now _ (state_of c.args.self.now) c.pop.result c.args.group _ _ c.requires.walk c.requires.last
    (λ e. c.if-len-group.false (omega (arith, e))) (omega arith) c.pop.ensures.cases

pub returns-clause-followed : goal.returns-clause-followed
returns-clause-followed c =
    next_none c.args.arcs.now _ (state_of c.args.self.now) c.pop.result c.args.group _ _ c.requires.walk c.requires.last
    (λ e. c.if-len-group.false (omega (arith, e))) (omega arith) c.pop.ensures.cases
