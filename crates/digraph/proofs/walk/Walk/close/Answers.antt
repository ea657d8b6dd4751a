-- The members of the last group are closed.
use Rattle.std.proofs.Common.{◌<◌, ◌-◌, length, take, ap, ◌∙◌, refl, arith}
use Rattle.std.proofs.lemmas.List.{with_items_is}
use Rattle.digraph.specs.Private.Walk.{state_of}
use Rattle.digraph.proofs.WalkSteps.{members_within, ends_so}
use Rattle.digraph.proofs.walk.Walk.close.Goals as goal

pub close_all-requires : goal.close_all-requires
close_all-requires c f has =
    let size = ap length c.deref_mut.ensures.value in
    let within : f < length c.args.self.now.marks.items =
    members_within c.args.arcs.now (state_of c.args.self.now) c.args.group.active _ c.deref.result.now
    c.requires.walk c.deref.ensures.value refl f has in
    omega arith

pub returns : goal.returns
returns c =
    let size = ap length c.deref_mut.ensures.value in
    let kept = c.close_all.ensures.size in
    let e =
    ends_so c.args.arcs.now (state_of c.args.self.now) _ c.deref_mut.result.now c.close_all.new.marks
    c.truncate.new.self.items _ c.deref.result.now c.pop.new.self.items c.len.result c.args.group
    c.requires.last c.requires.followed c.requires.walk c.deref_mut.ensures.value c.deref.ensures.value refl
    c.close_all.ensures
    (with_items_is c.args.self.now.marks c.close_all.new.marks (omega arith)) c.truncate.ensures.items
    (c.pop.ensures.rest ∙ ap (λ n. take (n - 1) c.args.self.now.groups.items) (omega arith)) (omega arith) in
    record { walk = e.0; less = e.1 }
