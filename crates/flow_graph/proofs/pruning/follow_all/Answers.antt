use Rattle.std.proofs.Common.{arith, ◌<◌, ◌+◌, length}
use Rattle.flow_graph.proofs.Searches.{IsFollowed, followed_more, finished}
use Rattle.flow_graph.proofs.pruning.follow_all.Goals as goal

pub loop-next-preserved : goal.loop-next-preserved
loop-next-preserved c =
    let inside : c.loop-next.next < length c.loop-next.search.found =
    omega (arith, c.loop-next-test.true, c.len.ensures) in
    let more : IsFollowed c.args.graph.now (c.loop-next.next + 1) c.follow.new.search =
    followed_more c.args.graph.now c.requires.sound c.loop-next.search c.follow.new.search c.loop-next.next
    c.index-v.result.now c.index.result.now c.loop-next.invariant.search c.loop-next.invariant.outputs inside
    c.index-v.ensures c.index.ensures c.in_ok-follow.ensures in
    record { search = more.search; outputs = more.outputs }

pub returns : goal.returns
returns c =
    finished c.args.graph.now c.loop-next.search c.loop-next.next c.loop-next.invariant.search
    (omega (arith, c.loop-next-test.false, c.len.ensures)) c.loop-next.invariant.outputs
