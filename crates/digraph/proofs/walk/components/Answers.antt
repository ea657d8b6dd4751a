use Rattle.std.proofs.Common.{length, refl, arith}
use Rattle.digraph.specs.Private.Walk.{state_of}
use Rattle.digraph.proofs.WalkEnds.{coming_begins, coming_on, all_closed}
use Rattle.digraph.proofs.walk.components.Goals as goal

pub loop-vertex-init : goal.loop-vertex-init
loop-vertex-init c =
    coming_begins c.args.arcs.now (length c.args.arcs.now) (state_of c.in_ok-walk.walk) c.requires.within refl
    c.in_ok-walk.ensures

pub loop-vertex-preserved : goal.loop-vertex-preserved
loop-vertex-preserved c =
    coming_on c.args.arcs.now c.loop-vertex.vertex (state_of c.loop-vertex.walk) (state_of c.visit.new.self)
    c.loop-vertex.invariant c.in_ok-visit.ensures

pub returns : goal.returns
returns c =
    all_closed c.args.arcs.now c.loop-vertex.vertex (state_of c.loop-vertex.walk) (omega arith) c.loop-vertex.invariant
