-- One vertex more is closed.
use Rattle.std.proofs.Common.{arith}
use Rattle.std.proofs.lemmas.List.Elements.{Contains-get_or}
use Rattle.digraph.proofs.WalkSteps.{closes_more, closes_end}
use Rattle.digraph.proofs.walk.close_all.Goals as goal

pub bounds-marks-vertex : goal.bounds-marks-vertex
bounds-marks-vertex c =
    let inside =
    c.requires _ (Contains-get_or c.args.vertices.now c.loop-vertex.vertex-index 0 c.loop-vertex-test.true) in
    let size = c.loop-vertex.invariant.size in
    omega arith

pub loop-vertex-preserved : goal.loop-vertex-preserved
loop-vertex-preserved c =
    closes_more c.args.marks.now c.loop-vertex.marks c.args.vertices.now c.loop-vertex.vertex-index c.args.component
    c.loop-vertex-test.true c.requires c.loop-vertex.invariant

pub returns : goal.returns
returns c =
    closes_end c.args.marks.now c.loop-vertex.marks c.args.vertices.now c.loop-vertex.vertex-index c.args.component
    c.loop-vertex-test.false c.loop-vertex.invariant
