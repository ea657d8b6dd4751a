-- What an arc does hangs on the head's mark.
use Rattle.std.proofs.Common.{arith}
use Rattle.digraph.specs.Private.Walk.{state_of}
use Rattle.digraph.specs.declared.walk.Mark.TheVariants.{New, Active, Closed}
use Rattle.digraph.proofs.WalkSteps.{goes_on_closed, joins_groups}
use Rattle.digraph.proofs.WalkEnds.{marked_as}
use Rattle.digraph.proofs.walk.Walk.follow.Goals as goal

pub meet-requires-clause-new : goal.meet-requires-clause-new
meet-requires-clause-new c =
    marked_as c.args.self.now.marks.items c.args.head c.index.result.now New c.in-New.is
    (let size = c.requires.walk.size in let within = c.requires.within in omega arith) c.index.ensures

pub join-requires : goal.join-requires
join-requires c = c.requires.walk.rising

pub returns-in-Active : goal.returns-in-Active
returns-in-Active c =
    let mark =
    marked_as c.args.self.now.marks.items c.args.head c.index.result.now (Active c.in-Active.position)
    c.in-Active.is (let size = c.requires.walk.size in let within = c.requires.within in omega arith)
    c.index.ensures in
    joins_groups c.args.arcs.now (state_of c.args.self.now) c.args.head c.in-Active.position c.join.new.groups.items
    mark c.requires.walk c.requires.due c.join.ensures

pub returns-in-Closed : goal.returns-in-Closed
returns-in-Closed c =
    let mark =
    marked_as c.args.self.now.marks.items c.args.head c.index.result.now (Closed c.in-Closed.field-0) c.in-Closed.is
    (let size = c.requires.walk.size in let within = c.requires.within in omega arith) c.index.ensures in
    goes_on_closed c.args.arcs.now (state_of c.args.self.now) c.args.head c.in-Closed.field-0 mark c.requires.walk
