-- Groups are taken away while the last one begins behind the position.
use Rattle.std.proofs.Common.{sym, subst, arith}
use Rattle.digraph.specs.Private.Walk.{LastBeginsAfter}
use Rattle.digraph.proofs.JoinSteps.{none_taken, one_taken, all_taken}
use Rattle.digraph.proofs.walk.join.Goals as goal

pub loop-groups-init : goal.loop-groups-init
loop-groups-init c = none_taken c.args.groups.now.items c.args.position c.requires

pub loop-groups-smaller : goal.loop-groups-smaller
loop-groups-smaller c =
    let behind =
    subst (λ gs. LastBeginsAfter gs c.args.position) c.deref.ensures.value
    (c.begins_after.ensures.0 c.loop-groups-test.true) in
    (one_taken c.args.groups.now.items c.loop-groups.groups.items c.pop.new.self.items c.args.position _ behind
    (omega arith) c.pop.ensures.rest c.loop-groups.invariant).1

pub loop-groups-preserved : goal.loop-groups-preserved
loop-groups-preserved c =
    let behind =
    subst (λ gs. LastBeginsAfter gs c.args.position) c.deref.ensures.value
    (c.begins_after.ensures.0 c.loop-groups-test.true) in
    (one_taken c.args.groups.now.items c.loop-groups.groups.items c.pop.new.self.items c.args.position _ behind
    (omega arith) c.pop.ensures.rest c.loop-groups.invariant).0

pub returns : goal.returns
returns c =
    all_taken c.args.groups.now.items c.loop-groups.groups.items c.args.position
    (λ behind. (let t =
    c.begins_after.ensures.1
    (subst (λ gs. LastBeginsAfter gs c.args.position) (sym c.deref.ensures.value) behind) in
    let f = c.loop-groups-test.false in
    cc))
    c.loop-groups.invariant
