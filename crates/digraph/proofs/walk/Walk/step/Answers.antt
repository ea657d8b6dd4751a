-- An arc is followed, or the last group is closed.
use Rattle.std.proofs.Common.{◌≡◌, length, ap, arith}
use Rattle.digraph.specs.Private.Walk.{state_of}
use Rattle.digraph.proofs.WalkSteps.{next_on, last_within}
use Rattle.digraph.proofs.walk.Walk.step.Goals as goal

pub returns-in-Some : goal.returns-in-Some
returns-in-Some c =
    let e =
    next_on c.args.arcs.now (state_of c.args.self.now) (state_of c.next_head.new.self) (state_of c.follow.new.self)
    c.in-Some.head c.follow.result c.in-Some.ensures.some c.follow.ensures in
    record { walk = e.0; less = e.1 }

pub close-requires-clause-inside : goal.close-requires-clause-inside
close-requires-clause-inside c =
    let inside = last_within c.args.arcs.now (state_of c.args.self.now) c.args.group c.requires.walk c.requires.last in
    let same : length c.next_head.new.self.active.items ≡ length c.args.self.now.active.items =
    ap (λ s. length s.active) c.in-None.ensures.none in
    omega arith
