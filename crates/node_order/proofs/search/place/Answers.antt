use Rattle.std.proofs.Common.{subst, List, ℕ}
use Rattle.node_order.proofs.Searches.{IsUnder, visited}
use Rattle.node_order.proofs.search.place.Goals as goal

pub loop-v-preserved : goal.loop-v-preserved
loop-v-preserved c =
    let under = subst (λ (s : List ℕ). IsUnder c.args.nodes.now c.args.root c.args.search.now s c.loop-v.search)
    c.in-Some.ensures.items c.loop-v.invariant in
    (visited c.args.nodes.now c.requires.nodes c.args.root c.args.search.now c.pop.new.self.items c.in-Some.v
    c.loop-v.search under c.visit.new.stack.items c.visit.new.search c.in_ok-visit.ensures).0

pub loop-v-smaller : goal.loop-v-smaller
loop-v-smaller c =
    let under = subst (λ (s : List ℕ). IsUnder c.args.nodes.now c.args.root c.args.search.now s c.loop-v.search)
    c.in-Some.ensures.items c.loop-v.invariant in
    (visited c.args.nodes.now c.requires.nodes c.args.root c.args.search.now c.pop.new.self.items c.in-Some.v
    c.loop-v.search under c.visit.new.stack.items c.visit.new.search c.in_ok-visit.ensures).1
